use Rattle.std.proofs.Common.{vec_items}
use Rattle.std.proofs.lemmas.Result.{IfOk-weaker}
use Rattle.drivefile.specs.Listings.{listing_text}
use Rattle.drivefile.proofs.Only.{only}
use Rattle.drivefile.proofs.Texts.{of_run_lem}
use Rattle.drivefile.proofs.listings.listing.Goals as goal

pub returns-in-Ok : goal.returns-in-Ok
returns-in-Ok c =
    let file = c.args.file.now in
    let h = c.in-Ok.ensures in
    record {
      listed = IfOk-weaker c.lines_of.result _ _ (λ v lines. of_run_lem listing_text file (vec_items v) h.0 h.1 lines) c.lines_of.ensures;
      only = IfOk-weaker c.lines_of.result _ _ (λ v lines other fits. only file other (vec_items v) fits (of_run_lem listing_text file (vec_items v) h.0 h.1 lines)) c.lines_of.ensures;
    }

use Rattle.std.proofs.lemmas.Result.{IfOk-weaker}
use Rattle.drivefile.proofs.Texts.{of_run_lem}
use Rattle.explain.specs.Explanations.{explanation_text}
use Rattle.explain.proofs.explained.explanation.Goals as goal

pub returns-in-Ok : goal.returns-in-Ok
returns-in-Ok c =
    let driven = c.in-Ok.ensures in
    IfOk-weaker c.run_text.result _ _ (λ text told. of_run_lem explanation_text c.args.file.now text.items driven.0 driven.1 told) c.run_text.ensures

use Rattle.std.proofs.Common.{◌≡◌, take, sym, ◌∙◌, arith, take_all}
use Rattle.std.proofs.lemmas.Int.{to_z-of_z}
use Rattle.std.proofs.lemmas.List.Sums.{fold_more}
use Rattle.weigher.specs.Cell.{steady}
use Rattle.weigher.proofs.Stillness.{steady_says, steady_only}
use Rattle.weigher.proofs.cell.is_steady.Goals as goal

pub loop-sample-preserved : goal.loop-sample-preserved
loop-sample-preserved c = (omega arith, grind (arith, to_z-of_z, fold_more), grind (arith, to_z-of_z, fold_more))

pub returns : goal.returns
returns c =
    let xs = c.args.window.now in
    let all : take c.loop-sample.sample-index xs ≡ xs = take_all _ _ c.loop-sample-test.false in
    let e : c.is_close.result ≡ steady c.args.tolerance xs = grind (arith, to_z-of_z) in
    record {
      value = e;
      says = λ yes. steady_says xs _ (sym e ∙ yes);
      only = λ some s. e ∙ steady_only xs _ some s;
    }

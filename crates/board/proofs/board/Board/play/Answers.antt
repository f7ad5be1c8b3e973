-- One more call is one more step of the run.
use Rattle.std.proofs.Common.{ℕ, length, take, refl, ◌∙◌, subst, arith}
use Rattle.std.proofs.lemmas.List.{drop-set-lt}
use Rattle.board.specs.Journals.{Played, done}
use Rattle.board.proofs.Plays.{play_more, play_all}
use Rattle.board.proofs.board.Board.play.Goals as goal

pub loop-i-init : goal.loop-i-init
loop-i-init g c = (done c.args.self.now, λ k h. refl)

pub loop-i-preserved : goal.loop-i-preserved
loop-i-preserved g c =
    let journal = c.loop-i.journal in
    let i = c.loop-i.i in (
      play_more g.W.Weigher.kind c.args.calls.now journal i _ c.loop-i.invariant.0 (omega arith) (omega arith) c.perform.result c.perform.new.self c.perform.ensures.step c.perform.ensures.after,
      λ k h. drop-set-lt k journal i c.perform.result (omega arith) ∙ c.loop-i.invariant.1 k (omega arith),
    )

pub returns : goal.returns
returns g c =
    let kind = g.W.Weigher.kind in
    let calls = c.args.calls.now in
    let long = c.loop-i.auto.journal in
    record {
      played = subst (λ (n : ℕ). Played kind c.args.self.now (take n calls) (take (length calls) c.loop-i.journal) c.loop-i.self) long
          (play_all kind calls c.loop-i.journal c.loop-i.i c.loop-i.invariant.0 (omega arith));
      rest = c.loop-i.invariant.1 (length calls) (omega arith);
    }

use Rattle.std.proofs.Common.{◌≡◌, ◌++◌, vec_items}
use Rattle.std.specs.Slice.Iter.{iter_rest}
use Rattle.explain.specs.Explanations.{explained_lines}
use Rattle.explain.proofs.told.Explainer.put_calls.Given as goal

-- what is written, and the lines of the calls that are left, are the lines of all calls
abbrev pub invariant-loop-call : goal.invariant-loop-call
invariant-loop-call l = vec_items l.self.text ++ explained_lines l.self.order l.self.report (iter_rest l.call-iterator.a) (iter_rest l.call-iterator.b) ≡ vec_items l.initial.self.text ++ explained_lines l.initial.self.order l.initial.self.report l.calls l.journal

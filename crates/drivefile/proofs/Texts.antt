-- A text of a file whose first two records have no fault.
use Rattle.std.proofs.Common.{◌≡◌, ℕ, List, None, Option, Result, sym, subst}
use Rattle.board.specs.declared.look.Look.{Look}
use Rattle.board.specs.declared.setting.Settings.{Settings}
use Rattle.board.specs.declared.journal.Call.{Call}
use Rattle.board.specs.declared.journal.Entry.{Entry}
use Rattle.drivefile.specs.declared.fault.Fault.{Fault}
use Rattle.drivefile.specs.Listings.{head_fault, DrivenRun, Text, TextBy, TextOf}

pub of_run_lem : (t : Text) (file out : List ℕ) {s : Settings} {calls : List Call} {start : Look} {journal : List Entry} {tail : Result (Unit {0}) Fault} → head_fault file ≡ None → DrivenRun file s calls start journal tail → out ≡ t.of_run s calls journal tail → TextOf t file out
of_run_lem t file out {s} {calls} {start} {journal} {tail} none driven told =
    subst (λ (f : Option (ℕ × ℕ)). TextBy t file out f) (sym none) (record { settings = s; calls = calls; start = start; journal = journal; tail = tail; driven = driven; told = told })

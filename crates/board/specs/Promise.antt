-- The promise over every run: the rules, the account, the book and progress.
use Rattle.std.specs.Prelude.{◌≡◌, List}
use Rattle.weigher.specs.Kind.{Kind}
use Rattle.weigher.specs.Rules.{dropped}
use Rattle.board.specs.declared.board.Board.{Board}
use Rattle.board.specs.declared.journal.Call.{Call}
use Rattle.board.specs.declared.journal.Entry.{Entry}
use Rattle.board.specs.declared.look.Look.{Look}
use Rattle.board.specs.declared.setting.Settings.{Settings}
use Rattle.board.specs.Account.{Account}
use Rattle.board.specs.Boards.{new_inner, look_of}
use Rattle.board.specs.Book.{BookKept}
use Rattle.board.specs.Journals.{Played}
use Rattle.board.specs.Progress.{Progress}

module _ {W : Type 0} (k : Kind W) where
  -- a new board was made on the weigher, whose order was dropped, and every call was answered by the rules
  pub record Ruled (t : Settings) (weigher : W) (calls : List Call) (start : Look) (journal : List Entry) : Type 0 where
    pub first : Board W
    pub new : first.inner ≡ new_inner t
    pub fresh : k.meaning first.weigher ≡ (dropped (k.meaning weigher)).1
    pub kept : k.keeps weigher first.weigher
    pub told : start ≡ look_of first.inner (k.meaning first.weigher)
    pub last : Board W
    pub played : Played k first calls journal last

  pub record Promise (t : Settings) (weigher : W) (calls : List Call) (start : Look) (journal : List Entry) : Type 0 where
    pub rules : Ruled t weigher calls start journal
    pub account : Account start journal
    pub book : BookKept t.order start journal
    pub progress : Progress t.order k.patience start journal

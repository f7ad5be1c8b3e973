-- One entry of a journal: it keeps the invariant, adds to the account, and comes nearer to a response.
use Rattle.std.proofs.Common.{◌≡◌, ℕ, ◌+◌, ◌<◌, ◌≤◌, ◌⊎◌, List, [], ◌++◌, ℤ, Some, None, Option, sym, refl, ap, ◌∙◌, subst, inl, inr, append-nil, zero-add, one-add}
use Rattle.std.specs.Option.{option_to_list}
use Rattle.weigher.specs.declared.answers.Told.{Told}
use Rattle.weigher.specs.declared.orders.Standing.{Standing}
use Rattle.weigher.specs.Kind.{Kind}
use Rattle.weigher.specs.Scale.{Scale}
use Rattle.weigher.specs.Rules.{worked, sensed}
use Rattle.wire.specs.Blocks.{value_in}
use Rattle.wire.specs.Floats.{whole_of}
use Rattle.wire.proofs.Arrangements.{image_laws}
use Rattle.board.specs.declared.block.State.{State}
use Rattle.board.specs.declared.board.Board.{Board}
use Rattle.board.specs.declared.inner.Inner.{Inner}
use Rattle.board.specs.declared.journal.Answer.{Answer}
use Rattle.board.specs.declared.journal.Answer.TheVariants.{Scanned, Replied, Looked, Declined}
use Rattle.board.specs.declared.journal.Call.{Call}
use Rattle.board.specs.declared.journal.Call.TheVariants.{Scan, Read, Look}
use Rattle.board.specs.declared.note.Note.{Note}
use Rattle.board.specs.declared.setting.Settings.{Settings}
use Rattle.board.specs.Account.{taken_by, closed_by}
use Rattle.board.specs.Book.{Book, noted, entered, response_in}
use Rattle.board.specs.Images.{image_of}
use Rattle.board.specs.Journals.{Step}
use Rattle.board.specs.Progress.{scan_of, Posts}
use Rattle.board.specs.Registers.{open_word}
use Rattle.board.specs.Scans as scans
use Rattle.board.specs.Scans.{responded, answered, beaten, judged_in}
use Rattle.board.proofs.Invariant.{Inv, Kept, Within, SomePosted}
use Rattle.board.proofs.Rows.{listed}
use Rattle.board.proofs.Scan.{scan_keeps}

-- the response that an image shows is the one in the registers
response_shown : (i : Inner) (s : Scale) (t : Settings) → i.settings ≡ t → i.block.response < 65536 → response_in t.order (image_of i s) ≡ i.block.response
response_shown i s t same fits =
    subst (λ (y : Settings). response_in y.order (image_of i s) ≡ i.block.response) same (image_laws.response_back i.settings.order _ _ i.block.response fits)

⊎_map : {A B C : Type 0} → (A → B) → A ⊎ C → B ⊎ C
⊎_map f (inl a) = inl (f a)
⊎_map f (inr c) = inr c

-- an answered scan flips the heartbeat, which nothing here looks at
beaten_keeps : {p : ℕ} {t : Settings} {value : Option ℤ} {b : Book} {st : State} {o : Option Standing} (r : Inner × Note × Scale) → Kept p t value b st o r → Kept p t value b st o (beaten r)
beaten_keeps r k = record { inv = k.inv; account = k.account; progress = k.progress }

posted_some : (n : Option ℕ) → SomePosted n → (r : ℕ) × (n ≡ Some r)
posted_some None h = absurd h
posted_some (Some r) h = (r, refl)

module _ {W : Type 0} (k : Kind W) (patient : 1 ≤ k.patience) (t : Settings) where
  -- the scale below a board, and the word that is open on it
  abbrev pub scale_below : Board W → Scale
  scale_below b = k.meaning b.weigher

  abbrev pub word_open : Board W → Option ℕ
  word_open b = open_word b.inner.block.state

  -- the invariant of a board, with this book
  abbrev pub Holds : Board W → Book → Type 0
  Holds b book = Inv k.patience t b.inner.settings b.inner.block b.inner.deviation (scale_below b) book

  -- the command that is open on a board posts within n answered scans
  abbrev pub PostsWithin : ℕ → Board W → Type 0
  PostsWithin n b = Within n b.inner.block.state (scale_below b).standing

  -- what an entry with the answer a keeps, from the board before it to the board after it
  pub record EntryKept (book : Book) (a : Answer) (before after : Board W) : Type 0 where
    pub inv : Holds after (entered t.order book a)
    pub account : option_to_list (word_open before) ++ taken_by a ≡ closed_by a ++ option_to_list (word_open after)
    pub progress : (n : ℕ) → PostsWithin (scan_of a + n) before → ((r : ℕ) × Posts a r) ⊎ (PostsWithin n after × (word_open after ≡ word_open before))

  -- an answered scan keeps what its rules keep
  scan_kept : (b : Board W) (book : Book) (image : List ℕ) (after : Board W) (n : Note) → Holds b book → scans.Scanned k b image after n → Kept k.patience t (whole_of (value_in b.inner.settings.order image)) book b.inner.block.state (scale_below b).standing (after.inner, n, scale_below after)
  unfolding answered
  scan_kept b book image after n inv sc =
      let i = b.inner in
      let x : Scale = sensed (scale_below b) (k.meaning sc.tended) in
      let j = judged_in i.settings.order image in
      let K : Inner × Note × Scale → Type 0 = Kept k.patience t j.value book i.block.state (scale_below b).standing in
      let found : Inv k.patience t i.settings i.block i.deviation x book = record { tied = inv.tied; zero = inv.zero; tare = inv.tare; deviation = inv.deviation; shown = inv.shown; fits = inv.fits; settings = inv.settings } in
      let worked-on : K (responded k.patience i (worked x).0 (worked x).1 j) = scan_keeps k.patience patient t i x book j (listed j.word) found in
      let told : K (responded k.patience i sc.told (k.meaning sc.tended) j) = subst (λ (y : Told × Scale). K (responded k.patience i y.0 y.1 j)) (sym sc.work) worked-on in
      subst K (sym sc.rules) (beaten_keeps (responded k.patience i sc.told (k.meaning sc.tended) j) told)

  scan_entry : (b : Board W) (book : Book) (image read : List ℕ) (n : Note) (load : ℤ) (after : Board W) → Holds b book → scans.Scanned k b image after n → read ≡ image_of after.inner (scale_below after) → load ≡ (scale_below after).load → EntryKept book (Scanned image read n load) b after
  scan_entry b book image read n load after inv sc shows weighs =
      let kept = scan_kept b book image after n inv sc in
      let i' = after.inner in
      let r : response_in t.order read ≡ i'.block.response = ap (response_in t.order) shows ∙ response_shown i' (scale_below after) t kept.inv.settings kept.inv.fits in
      let v : whole_of (value_in t.order image) ≡ whole_of (value_in b.inner.settings.order image) = ap (λ (y : Settings). whole_of (value_in y.order image)) (sym inv.settings) in
      let I : Book → Type 0 = Holds after in
      let one = subst (λ (y : ℤ). I (noted i'.block.response (whole_of (value_in b.inner.settings.order image)) n y book)) (sym weighs) kept.inv in
      let two = subst (λ (y : Option ℤ). I (noted i'.block.response y n load book)) (sym v) one in
      record {
        inv = subst (λ (y : ℕ). I (noted y (whole_of (value_in t.order image)) n load book)) (sym r) two;
        account = kept.account;
        progress = λ m h. ⊎_map (posted_some n.posted) (kept.progress m (subst (λ (y : ℕ). PostsWithin y b) (one-add m) h));
      }

  -- a call that is no answered scan changes nothing
  same_entry : (b : Board W) (book : Book) (a : Answer) (after : Board W) → Holds b book → after ≡ b → entered t.order book a ≡ book → taken_by a ≡ [] → closed_by a ≡ [] → scan_of a ≡ 0 → EntryKept book a b after
  same_entry b book a after inv same as-before none-taken none-closed no-scan =
      let here : EntryKept book a b b = record {
        inv = subst (Holds b) (sym as-before) inv;
        account = ap (λ (l : List ℕ). option_to_list (word_open b) ++ l) none-taken ∙ append-nil (option_to_list (word_open b)) ∙ ap (λ (l : List ℕ). l ++ option_to_list (word_open b)) (sym none-closed);
        progress = λ m h. inr (subst (λ (y : ℕ). PostsWithin y b) (ap (λ (y : ℕ). y + m) no-scan ∙ zero-add m) h, refl);
      } in
      subst (EntryKept book a b) (sym same) here

  -- every entry that the rules give keeps what is kept
  pub entry_keeps : (call : Call) (a : Answer) (b : Board W) (book : Book) (after : Board W) → Holds b book → Step k call a b after → EntryKept book a b after
  entry_keeps (Scan write n) (Scanned image read note load) b book after inv (fits, is, sc, shows, weighs) = scan_entry b book image read note load after inv sc shows weighs
  entry_keeps (Scan write n) (Replied strip) b book after inv st = absurd st
  entry_keeps (Scan write n) (Looked l) b book after inv st = absurd st
  entry_keeps (Scan write n) (Declined x) b book after inv (why, same) = same_entry b book (Declined x) after inv same refl refl refl refl
  entry_keeps (Read c m) (Scanned image read note load) b book after inv st = absurd st
  entry_keeps (Read c m) (Replied strip) b book after inv (why, how, same) = same_entry b book (Replied strip) after inv same refl refl refl refl
  entry_keeps (Read c m) (Looked l) b book after inv st = absurd st
  entry_keeps (Read c m) (Declined x) b book after inv (why, same) = same_entry b book (Declined x) after inv same refl refl refl refl
  entry_keeps Look (Scanned image read note load) b book after inv st = absurd st
  entry_keeps Look (Replied strip) b book after inv st = absurd st
  entry_keeps Look (Looked l) b book after inv (what, same) = same_entry b book (Looked l) after inv same refl refl refl refl
  entry_keeps Look (Declined x) b book after inv st = absurd st

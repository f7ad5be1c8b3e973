-- The account, the book and progress, over every journal that the rules give.
use Rattle.std.proofs.Common.{◌≡◌, ℕ, ◌+◌, ◌-◌, ◌≤◌, Bool, eqb, ◌⊎◌, List, [], ◌∷◌, ◌++◌, ℤ, Some, None, Option, sym, refl, ap, ◌∙◌, subst, inl, inr, append_assoc, append-nil, arith}
use Rattle.std.specs.Option.{option_to_list}
use Rattle.std.proofs.lemmas.Bool.{cond_both}
use Rattle.weigher.specs.declared.orders.Order.{Order as WeigherOrder}
use Rattle.weigher.specs.declared.orders.Standing.{Standing}
use Rattle.weigher.specs.Kind.{Kind}
use Rattle.weigher.specs.Scale.{Scale}
use Rattle.weigher.specs.Rules.{dropped}
use Rattle.wire.specs.declared.order.Order.{Order}
use Rattle.wire.specs.Blocks.{value_in}
use Rattle.wire.specs.Floats.{whole_of}
use Rattle.board.specs.declared.block.State.{State}
use Rattle.board.specs.declared.block.State.TheVariants.{Ready, Working, FirstStep, FirstFailed, Between, SecondStep, SecondFailed, Cancelling}
use Rattle.board.specs.declared.board.Board.{Board}
use Rattle.board.specs.declared.inner.Inner.{Inner}
use Rattle.board.specs.declared.journal.Answer.{Answer}
use Rattle.board.specs.declared.journal.Answer.TheVariants.{Scanned, Replied, Looked, Declined}
use Rattle.board.specs.declared.journal.Call.{Call}
use Rattle.board.specs.declared.journal.Entry.{Entry}
use Rattle.board.specs.declared.look.Look.{Look}
use Rattle.board.specs.declared.note.Note.{Note}
use Rattle.board.specs.declared.setting.Settings.{Settings}
use Rattle.board.specs.Account.{look_after, taken_by, closed_by, taken, closed, Account}
use Rattle.board.specs.Boards.{new_inner, look_of}
use Rattle.board.specs.Book.{Book, opened, emptied, succeeded, settled_by, valued, noted, entered, kept, response_in, BookKept}
use Rattle.board.specs.Journals.{Played, done, next}
use Rattle.board.specs.Progress.{scan_of, answered_scans, shown_by, shown_after, Posts, Progress}
use Rattle.board.specs.Promise.{Ruled, Promise}
use Rattle.board.specs.Registers.{open_word}
use Rattle.board.proofs.Entries.{word_open, Holds, PostsWithin, entry_keeps}
use Rattle.board.proofs.Invariant.{NoOrder, Tied, Inv, Within}

-- the book remembers the response that the last answered scan showed
settled_shown : (w r : Option ℕ) (load : ℤ) (b : Book) → (settled_by w r load b).shown ≡ b.shown
settled_shown None r load b = refl
settled_shown (Some w) None load b = refl
settled_shown (Some w) (Some r) load b = cond_both (eqb w r) (succeeded w load b) b (λ (x : Book). x.shown ≡ b.shown) (λ _. refl) (λ _. refl)

emptied_shown : (r : Option ℕ) (load : ℤ) (b : Book) → (emptied r load b).shown ≡ b.shown
emptied_shown None load b = refl
emptied_shown (Some r) load b = refl

noted_shown : (r : ℕ) (v : Option ℤ) (n : Note) (load : ℤ) (b : Book) → (noted r v n load b).shown ≡ r
noted_shown r v n load b = settled_shown n.closed n.posted load (emptied n.posted load (valued r v b)) ∙ emptied_shown n.posted load (valued r v b)

entered_shown : (o : Order) (a : Answer) (b : Book) → (entered o b a).shown ≡ shown_by o b.shown a
entered_shown o (Scanned write read n load) b = noted_shown (response_in o read) (whole_of (value_in o write)) n load b
entered_shown o (Replied strip) b = refl
entered_shown o (Looked l) b = refl
entered_shown o (Declined d) b = refl

kept_shown : (o : Order) (es : List Entry) (b : Book) → (kept o b es).shown ≡ shown_after o b.shown es
kept_shown o [] b = refl
kept_shown o (e ∷ es) b = kept_shown o es (entered o b e.answer) ∙ ap (λ (x : ℕ). shown_after o x es) (entered_shown o e.answer b)

-- what look tells after two parts of a journal
look_append : (start : Look) (front rest : List Entry) → look_after start (front ++ rest) ≡ look_after (look_after start front) rest
look_append start [] rest = refl
look_append start (e ∷ front) rest = look_append e.after front rest

-- an order that stands has a tend left, and a cancelled command waits for one scan
positive : (p : ℕ) (st : State) (r : ℕ) (o : Option Standing) (e v : ℤ) → Tied p st r o e v → Within 0 st o → ⊥
positive p Ready r o e v tied h = h
positive p (Working w) r None e v tied h = h
positive p (Working w) r (Some o) e v tied h = omega (arith, tied.0.1)
positive p FirstStep r None e v tied h = h
positive p FirstStep r (Some o) e v tied h = omega (arith, tied.0.1)
positive p FirstFailed r o e v tied h = h
positive p (Between x) r o e v tied h = h
positive p (SecondStep x y) r None e v tied h = h
positive p (SecondStep x y) r (Some o) e v tied h = omega (arith, tied.0.1)
positive p (SecondFailed x) r o e v tied h = h
positive p (Cancelling w) r o e v tied h = omega arith

-- an open command that awaits no step word posts within the patience
within : (p : ℕ) → 1 ≤ p → (st : State) (r : ℕ) (o : Option Standing) (e v : ℤ) (w : ℕ) → Tied p st r o e v → open_word st ≡ Some w → (r ≡ 2045 → ⊥) → (r ≡ 0x8020 → ⊥) → Within p st o
within p patient Ready r o e v w tied is n45 n20 = let z : ◌≡◌ {A = ℕ} 0 1 = cc in absurd (omega arith)
within p patient (Working x) r None e v w tied is n45 n20 = absurd tied.0
within p patient (Working x) r (Some o) e v w tied is n45 n20 = tied.0.2
within p patient FirstStep r None e v w tied is n45 n20 = absurd tied.0
within p patient FirstStep r (Some o) e v w tied is n45 n20 = tied.0.2
within p patient FirstFailed r o e v w tied is n45 n20 = absurd (n20 tied.1)
within p patient (Between x) r o e v w tied is n45 n20 = absurd (n45 tied.1)
within p patient (SecondStep x y) r None e v w tied is n45 n20 = absurd tied.0
within p patient (SecondStep x y) r (Some o) e v w tied is n45 n20 = tied.0.2
within p patient (SecondFailed x) r o e v w tied is n45 n20 = absurd (n20 tied.1)
within p patient (Cancelling x) r o e v w tied is n45 n20 = patient

-- an answered scan takes one of the scans that are left
counted : (a : Answer) (k : ℕ) → (k ≡ 0 → ⊥) → scan_of a ≤ k
counted (Scanned write read n load) k some = omega arith
counted (Replied strip) k some = omega arith
counted (Looked l) k some = omega arith
counted (Declined d) k some = omega arith

-- no order stands after a drop
none_stands : (l z tr : ℤ) (st f : Bool) (o : Option Standing) (c : ℕ) (kn : WeigherOrder → Bool) → NoOrder (dropped (record { load = l; zero = z; tare = tr; still = st; fault = f; standing = o; capacity = c; knows = kn })).1.standing
none_stands l z tr st f None c kn = tt
none_stands l z tr st f (Some o) c kn = tt

-- a response to the open word, in a part of a journal that begins where look tells l
record Found (l : Look) (part : List Entry) (word : Option ℕ) : Type 0 where
  before : List Entry
  answering : Entry
  later : List Entry
  cut : part ≡ before ++ answering ∷ later
  response : ℕ
  posts : Posts answering.answer response
  still_open : (look_after l before).«open» ≡ word

module _ {W : Type 0} (kind : Kind W) (patient : 1 ≤ kind.patience) (t : Settings) where
  abbrev Keeps : Board W → Book → Type 0
  Keeps = Holds kind patient t

  abbrev word : Board W → Option ℕ
  word = word_open kind patient t

  abbrev seen : Board W → Look
  seen b = look_of b.inner (kind.meaning b.weigher)

  abbrev Posting : ℕ → Board W → Type 0
  Posting = PostsWithin kind patient t

  -- a run keeps the invariant, with the book kept over its entries
  holds_after : {b b₂ : Board W} {calls : List Call} {es : List Entry} (book : Book) → Played kind b calls es b₂ → Keeps b book → Keeps b₂ (kept t.order book es)
  holds_after book (done b) inv = inv
  holds_after book (next call calls e es b b₁ b₂ st after rest) inv = holds_after (entered t.order book e.answer) rest (entry_keeps kind patient t call e.answer b book b₁ inv st).inv

  -- the words taken are the words closed and the open one, after the one that was open before
  account_after : {b b₂ : Board W} {calls : List Call} {es : List Entry} (book : Book) → Played kind b calls es b₂ → Keeps b book → option_to_list (word b) ++ taken es ≡ closed es ++ option_to_list (word b₂)
  account_after book (done b) inv = append-nil (option_to_list (word b))
  account_after book (next call calls e es b b₁ b₂ st after rest) inv =
      let k = entry_keeps kind patient t call e.answer b book b₁ inv st in
      let o = option_to_list (word b) in
      let o₁ = option_to_list (word b₁) in
      let o₂ = option_to_list (word b₂) in
      let more : o₁ ++ taken es ≡ closed es ++ o₂ = account_after (entered t.order book e.answer) rest k.inv in
      sym (append_assoc o (taken_by e.answer) (taken es))
      ∙ ap (λ (l : List ℕ). l ++ taken es) k.account
      ∙ append_assoc (closed_by e.answer) o₁ (taken es)
      ∙ ap (λ (l : List ℕ). closed_by e.answer ++ l) more
      ∙ sym (append_assoc (closed_by e.answer) (closed es) o₂)

  look_after_lem : {b b₂ : Board W} {calls : List Call} {es : List Entry} → Played kind b calls es b₂ → look_after (seen b) es ≡ seen b₂
  look_after_lem (done b) = refl
  look_after_lem (next call calls e es b b₁ b₂ st after rest) = ap (λ (l : Look). look_after l es) after ∙ look_after_lem rest

  -- within as many answered scans as the command has left there is a response to it
  found_within : {b b₂ : Board W} {calls : List Call} {es : List Entry} (book : Book) (n : ℕ) → Played kind b calls es b₂ → Keeps b book → Posting n b → n ≤ answered_scans es → Found (seen b) es (word b)
  found_within book n (done b) inv h few =
      let none : n ≡ 0 = omega arith in
      absurd (positive kind.patience b.inner.block.state b.inner.block.response (kind.meaning b.weigher).standing book.empty book.value inv.tied (subst (λ (x : ℕ). Posting x b) none h))
  found_within book n (next call calls e es b b₁ b₂ st after rest) inv h few =
      let kp = entry_keeps kind patient t call e.answer b book b₁ inv st in
      let some : n ≡ 0 → ⊥ = λ none. positive kind.patience b.inner.block.state b.inner.block.response (kind.meaning b.weigher).standing book.empty book.value inv.tied (subst (λ (x : ℕ). Posting x b) none h) in
      let low : scan_of e.answer ≤ n = counted e.answer n some in
      let n' : ℕ = n - scan_of e.answer in
      let split : n ≡ scan_of e.answer + n' = omega arith in
      let less : n' ≤ answered_scans es = omega arith in
      nearer (kp.progress n' (subst (λ (x : ℕ). Posting x b) split h)) (λ h'. found_within (entered t.order book e.answer) n' rest kp.inv h' less)
    where
      nearer : ((r : ℕ) × Posts e.answer r) ⊎ (Posting (n - scan_of e.answer) b₁ × (word b₁ ≡ word b)) → (Posting (n - scan_of e.answer) b₁ → Found (seen b₁) es (word b₁)) → Found (seen b) (e ∷ es) (word b)
      nearer (inl (r, posts)) later = record { before = []; answering = e; later = es; cut = refl; response = r; posts = posts; still_open = refl }
      nearer (inr (h', same)) later =
          let f = later h' in
          record {
            before = e ∷ f.before;
            answering = f.answering;
            later = f.later;
            cut = ap (λ (l : List Entry). e ∷ l) f.cut;
            response = f.response;
            posts = f.posts;
            still_open = ap (λ (l : Look). (look_after l f.before).«open») after ∙ f.still_open ∙ same;
          }

  -- a journal cut in two
  record Halves (b : Board W) (front rest : List Entry) (b₂ : Board W) : Type 0 where
    calls₁ : List Call
    calls₂ : List Call
    between : Board W
    first : Played kind b calls₁ front between
    second : Played kind between calls₂ rest b₂

  halves : (front rest : List Entry) {b b₂ : Board W} {calls : List Call} → Played kind b calls (front ++ rest) b₂ → Halves b front rest b₂
  halves [] rest {b} {b₂} {calls} played = record { calls₁ = []; calls₂ = calls; between = b; first = done b; second = played }
  halves (x ∷ front) rest (next call calls e es b b₁ b₂ st after more) =
      let h = halves front rest more in
      record {
        calls₁ = call ∷ h.calls₁;
        calls₂ = h.calls₂;
        between = h.between;
        first = next call h.calls₁ e front b b₁ h.between st after h.first;
        second = h.second;
      }

  module _ (weigher : W) (calls : List Call) (start : Look) (journal : List Entry) (r : Ruled kind t weigher calls start journal) where
    -- the invariant holds of a new board on a weigher whose order was dropped
    new_holds : Keeps r.first (opened start)
    new_holds =
        let s = kind.meaning weigher in
        let scale = kind.meaning r.first.weigher in
        let none : NoOrder scale.standing = subst (λ (x : Scale). NoOrder x.standing) (sym r.fresh) (none_stands s.load s.zero s.tare s.still s.fault s.standing s.capacity s.knows) in
        let of_new : Inv kind.patience t (new_inner t).settings (new_inner t).block (new_inner t).deviation scale (opened start) = record {
          tied = (none, λ h. omega arith);
          zero = sym (ap (λ (l : Look). l.zero) r.told);
          tare = sym (ap (λ (l : Look). l.tare) r.told);
          deviation = refl;
          shown = refl;
          fits = omega arith;
          settings = refl;
        } in
        subst (λ (i : Inner). Inv kind.patience t i.settings i.block i.deviation scale (opened start)) (sym r.new) of_new

    -- the run up to a moment
    front_of : (front rest : List Entry) → journal ≡ front ++ rest → Halves r.first front rest r.last
    front_of front rest is = halves front rest (subst (λ (x : List Entry). Played kind r.first calls x r.last) is r.played)

    looks : (front rest : List Entry) (is : journal ≡ front ++ rest) → look_after start front ≡ seen (front_of front rest is).between
    looks front rest is = ap (λ (l : Look). look_after l front) r.told ∙ look_after_lem (front_of front rest is).first

    nothing_open : word r.first ≡ None
    nothing_open = ap (λ (i : Inner). open_word i.block.state) r.new

    account : Account start journal
    account front rest is =
        let h = front_of front rest is in
        ap (λ (o : Option ℕ). option_to_list o ++ taken front) (sym nothing_open)
        ∙ account_after (opened start) h.first new_holds
        ∙ ap (λ (l : Look). closed front ++ option_to_list l.«open») (sym (looks front rest is))

    book : BookKept t.order start journal
    book front rest is =
        let h = front_of front rest is in
        let inv = holds_after (opened start) h.first new_holds in
        let l = looks front rest is in
        record {
          zero = ap (λ (x : Look). x.zero) l ∙ inv.zero;
          tare = ap (λ (x : Look). x.tare) l ∙ inv.tare;
          deviation = ap (λ (x : Look). x.deviation) l ∙ inv.deviation;
        }

    progress : Progress t.order kind.patience start journal
    progress front part rest asked is opens n45 n20 enough =
        let h = front_of front (part ++ rest) is in
        let b = kept t.order (opened start) front in
        let inv = holds_after (opened start) h.first new_holds in
        let g = halves part rest h.second in
        let l = looks front (part ++ rest) is in
        let block = h.between.inner.block in
        let shows : block.response ≡ shown_after t.order 0 front = inv.shown ∙ kept_shown t.order front (opened start) in
        let is_open : open_word block.state ≡ Some asked = sym (ap (λ (x : Look). x.«open») l) ∙ opens in
        let near = within kind.patience patient block.state block.response (kind.meaning h.between.weigher).standing b.empty b.value asked inv.tied is_open (λ x. n45 (sym shows ∙ x)) (λ x. n20 (sym shows ∙ x)) in
        let f = found_within b kind.patience g.first inv near enough in
        record {
          before = f.before;
          answering = f.answering;
          later = f.later;
          cut = f.cut;
          response = f.response;
          posts = f.posts;
          still_open = ap (λ (x : Look). x.«open») (look_append start front f.before ∙ ap (λ (x : Look). look_after x f.before) l) ∙ f.still_open ∙ is_open;
        }

    pub promise : Promise kind t weigher calls start journal
    promise = record { rules = r; account = account; book = book; progress = progress }

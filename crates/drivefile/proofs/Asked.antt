-- What the calls of a file ask, without the references that they hold: the file leaves no choice of it, nor of its last line.
use Rattle.std.proofs.Common.{◌≡◌, ℕ, ◌+◌, ◌*◌, cond, eqb, ltb, List, [], ◌∷◌, ◌++◌, map, length, get_or, Ok, Err, Result, sym, refl, ap, ◌∙◌, subst, ap₂, arith}
use Rattle.board.specs.declared.address.Address.{Address}
use Rattle.board.specs.declared.journal.Call.{Call}
use Rattle.board.specs.declared.journal.Call.TheVariants.{Scan, Read, Look}
use Rattle.drivefile.specs.declared.record.Turn.TheVariants.{Later}
use Rattle.drivefile.specs.declared.fault.Fault.{Fault}
use Rattle.drivefile.specs.Drives.{Calls, Reads, none, more, EndsAt, tail_line}
use Rattle.drivefile.specs.Lines.{fault_line, end_line}
use Rattle.drivefile.specs.Records.{Found, entry, fault, found_at}

pub data Asked : Type 0 where
  to_scan : List ℕ → ℕ → Asked
  to_read : Address → ℕ → Asked
  to_look : Asked

abbrev pub asked : Call → Asked
asked (Scan write n) = to_scan write.now n
asked (Read address n) = to_read address n
asked Look = to_look

-- what the record asks that makes a call
abbrev asked_in : ℕ → List ℕ → Asked
asked_in kind body = cond (eqb kind 2) (to_scan body 8) (to_read (record { class = get_or body 0 0 * 256 + get_or body 1 0; instance = get_or body 2 0; attribute = get_or body 3 0 }) 4)

asked_is : (call : Call) (kind : ℕ) (body : List ℕ) → Calls call kind body → asked call ≡ asked_in kind body
asked_is (Scan write n) kind body h = rw h.0 (ap₂ to_scan h.1 h.2)
asked_is (Read address n) kind body h = rw (h.0, ← h.1, ← h.2, ← h.3) (ap (to_read address) h.4)
asked_is Look kind body h = absurd h

not_end : (call : Call) (kind : ℕ) (body : List ℕ) → Calls call kind body → kind ≡ 0 → ⊥
not_end (Scan write n) kind body h e = omega (arith, h.0)
not_end (Read address n) kind body h e = omega (arith, h.0)
not_end Look kind body h e = h

-- the last line by what is found at the end
abbrev last_line : List ℕ → ℕ → Found → List ℕ
last_line file p (fault n q) = fault_line n q
last_line file p (entry kind body) = cond (ltb (p + 1) (length file)) (fault_line 33 (p + 1)) end_line

last_is : (file : List ℕ) (p : ℕ) (f : Found) (tail : Result (Unit {0}) Fault) → EndsAt file p f tail → tail_line tail ≡ last_line file p f
last_is file p (fault n q) (Err f) h = ap₂ fault_line h.0 h.1
last_is file p (fault n q) (Ok x) h = absurd h
last_is file p (entry kind body) (Err f) h = rw h.1 (ap₂ fault_line h.2 h.3)
last_is file p (entry kind body) (Ok x) h = rw h.1 refl

-- a record that makes a call ends nothing
no_end : (file : List ℕ) (p : ℕ) (call : Call) (kind : ℕ) (body : List ℕ) (tail : Result (Unit {0}) Fault) → Calls call kind body → EndsAt file p (entry kind body) tail → ⊥
no_end file p call kind body (Err f) made h = not_end call kind body made h.0
no_end file p call kind body (Ok x) made h = not_end call kind body made h.0

-- the same readings, from the first call on
data ReadsOn (file : List ℕ) : ℕ → List Call → ℕ → Type 0 where
  stop : (p : ℕ) → ReadsOn file p [] p
  go : (p : ℕ) (call : Call) (calls : List Call) (q kind : ℕ) (body : List ℕ) → found_at Later file p ≡ entry kind body → Calls call kind body → ReadsOn file (p + (1 + length body)) calls q → ReadsOn file p (call ∷ calls) q

on_push : (file : List ℕ) {p : ℕ} {calls : List Call} {q : ℕ} → ReadsOn file p calls q → (call : Call) (kind : ℕ) (body : List ℕ) → found_at Later file q ≡ entry kind body → Calls call kind body → ReadsOn file p (calls ++ call ∷ []) (q + (1 + length body))
on_push file (stop p) call kind body e h = go p call [] _ kind body e h (stop _)
on_push file (go p c cs q k b f g r) call kind body e h = go p c _ _ k b f g (on_push file r call kind body e h)

on : (file : List ℕ) (from : ℕ) {calls : List Call} {q : ℕ} → Reads file from calls q → ReadsOn file from calls q
on file from none = stop from
on file from (more calls place call kind body r e h) = on_push file (on file from r) call kind body e h

-- what a reading ends with at a place
abbrev pub Ends : List ℕ → ℕ → Result (Unit {0}) Fault → Type 0
Ends file p tail = EndsAt file p (found_at Later file p) tail

-- a reading that has ended at a place goes on nowhere from it
ended : (file : List ℕ) (p p' : ℕ) (call : Call) (kind : ℕ) (body : List ℕ) (tail : Result (Unit {0}) Fault) → p ≡ p' → Ends file p tail → found_at Later file p' ≡ entry kind body → Calls call kind body → ⊥
ended file p p' call kind body tail same h e made =
    let found : found_at Later file p ≡ entry kind body = ap (found_at Later file) same ∙ e in
    no_end file p call kind body tail made (subst (λ (f : Found). EndsAt file p f tail) found h)

-- the same is asked, and the last line is the same
abbrev pub Alike : List Call → List Call → Result (Unit {0}) Fault → Result (Unit {0}) Fault → Type 0
Alike cs ds t u = (map asked cs ≡ map asked ds) × (tail_line t ≡ tail_line u)

alike : (file : List ℕ) {p : ℕ} {cs : List Call} {q : ℕ} {p' : ℕ} {ds : List Call} {q' : ℕ} → ReadsOn file p cs q → ReadsOn file p' ds q' → p ≡ p' → (t u : Result (Unit {0}) Fault) → Ends file q t → Ends file q' u → Alike cs ds t u
alike file (stop p) (stop p') same t u h k = (refl, last_is file p (found_at Later file p) t h ∙ ap (λ (x : ℕ). last_line file x (found_at Later file x)) same ∙ sym (last_is file p' (found_at Later file p') u k))
alike file (stop p) (go p' c cs q kind body e made r) same t u h k = absurd (ended file p p' c kind body t same h e made)
alike file (go p c cs q kind body e made r) (stop p') same t u h k = absurd (ended file p' p c kind body u (sym same) k e made)
alike file (go p c cs q kind body e made r) (go p' c' cs' q' kind' body' e' made' r') same t u h k =
    let found : entry kind body ≡ entry kind' body' = sym e ∙ ap (found_at Later file) same ∙ e' in
    let kinds : kind ≡ kind' = cc in
    let bodies : body ≡ body' = cc in
    let ask : asked c ≡ asked c' = asked_is c kind body made ∙ ap₂ asked_in kinds bodies ∙ sym (asked_is c' kind' body' made') in
    let rest = alike file r r' (ap₂ (λ (x : ℕ) (y : List ℕ). x + (1 + length y)) same bodies) t u h k in
    (ap₂ (λ (x : Asked) (y : List Asked). x ∷ y) ask rest.0, rest.1)

-- so it is of two readings of a file that have ended
pub reads_alike : (file : List ℕ) (from : ℕ) (cs ds : List Call) (p q : ℕ) (t u : Result (Unit {0}) Fault) → Reads file from cs p → Reads file from ds q → Ends file p t → Ends file q u → Alike cs ds t u
reads_alike file from cs ds p q t u r s h k = alike file (on file from r) (on file from s) refl t u h k

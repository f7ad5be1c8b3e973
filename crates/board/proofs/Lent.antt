-- A journal that was lent to a run, with an entry for each call.
use Rattle.std.proofs.Common.{◌≡◌, ℕ, List, ◌++◌, length, take, drop, sym, ◌∙◌, subst, arith, take_all}
use lib.Seq.{take-append-le}

-- what holds of the calls that were made and of their entries holds of all calls and of the whole journal that is given back
pub lent : {X Y : Type 0} (P : List X → List Y → Type 0) (calls : List X) (given after items : List Y) (n : ℕ) → length given ≡ length calls → length after ≡ length given → n ≡ length given → P (take (length given) calls) (take (length calls) after) → P calls (take n (after ++ drop (length after) items))
lent P calls given after items n room long is holds =
    let cs : take (length given) calls ≡ calls = take_all (length given) calls (omega arith) in
    let es : take (length calls) after ≡ after = take_all (length calls) after (omega arith) in
    let whole : take n (after ++ drop (length after) items) ≡ after = take-append-le n after (drop (length after) items) (omega arith) ∙ take_all n after (omega arith) in
    let one = subst (λ (x : List _). P x (take (length calls) after)) cs holds in
    let two = subst (λ (x : List _). P calls x) es one in
    subst (λ (x : List _). P calls x) (sym whole) two

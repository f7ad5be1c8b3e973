-- Each byte is mapped to its two digits.
use Rattle.std.proofs.Common.{◌≡◌, ◌<◌, ◌++◌, ℕ, List, [], length, get_or, ap, map, sym, ◌∙◌, arith}
use Rattle.std.proofs.lemmas.List.{ext_get_or, get_or-map, length-map}
use Rattle.std.proofs.lemmas.List.Folds.{flat_map-map}
use Rattle.std.proofs.lemmas.Result.{IfOk-equal}
use Rattle.std.specs.List.{flat_map}
use Rattle.drivefile.specs.Lines.{hex_byte, hex_bytes}
use Rattle.drivefile.proofs.lines.put_hex.Goals as goal

-- a list that has at each place the digits of the byte there
digits : (bytes : List ℕ) (ys : List (List ℕ)) (n : ℕ) → length bytes ≡ n → length ys ≡ n → ((i : ℕ) → i < n → get_or ys i [] ≡ hex_byte (get_or bytes i 0)) → flat_map (λ y. y) ys ≡ hex_bytes bytes
digits bytes ys n k l h =
    let mapped : ys ≡ map hex_byte bytes = ext_get_or [] ys (map hex_byte bytes) (l ∙ sym (simp length-map k)) (λ i lt. h i (rw l at lt) ∙ sym (get_or-map hex_byte bytes i 0 [] (omega (arith, lt, l, k)))) in
    ap (flat_map (λ y. y)) mapped ∙ flat_map-map (λ y. y) hex_byte bytes

pub returns : goal.returns
returns g c =
    let m = c.map.ensures.items in
    let p = c.put.ensures in
    let e = c.as_flattened.ensures.value ∙ digits c.args.bytes.now c.map.result g.row.N c.told-bytes m.long (λ i l. (m.at i 0 [] l).2.met) in
    IfOk-equal _ _ _ _ p (ap (λ (l : List ℕ). c.args.out.now.items ++ l) e)

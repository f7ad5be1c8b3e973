-- Samples are steady by their smallest and largest just where each is in range and any two lie within the tolerance.
use Rattle.std.proofs.Common.{◌≡◌, ℕ, ◌<◌, true, ◌⊎◌, List, length, get_or, ℤ, pos, negsuc, ◌-ℤ◌, ◌≤ℤ◌, refl, subst, inl, inr, arith}
use Rattle.std.specs.List.{ContainsAt as Has}
use Rattle.std.proofs.ByRecursion.{All-get_or, has_get_or, folded_min_z_bounds, folded_max_z_bounds, folded_min_z_reached, folded_max_z_reached}
use Rattle.std.proofs.lemmas.Int.{ints}
use Rattle.weigher.specs.Cell.{smallest, largest, close, steady, Steady}

close_says : (tolerance low high : ℤ) → close tolerance low high ≡ true → (negsuc 3999999 ≤ℤ low) × (high ≤ℤ pos 4000000) × ((high -ℤ low) ≤ℤ tolerance)
close_says tolerance low high e = grind (arith, ints)

module _ (xs : List ℤ) where
  abbrev sample : ℕ → ℤ
  sample i = get_or xs i (pos 0)

  above : (i : ℕ) → i < length xs → smallest xs ≤ℤ sample i
  above i h = All-get_or _ xs i (pos 0) h (folded_min_z_bounds (pos 4000000) xs _ refl).1

  below : (i : ℕ) → i < length xs → sample i ≤ℤ largest xs
  below i h = All-get_or _ xs i (pos 0) h (folded_max_z_bounds (negsuc 3999999) xs _ refl).1

  -- what a fold gives is one of the samples, if there is one and it is the fold's limit wherever that is given
  reached : (limit r : ℤ) → 0 < length xs → (r ≡ limit → sample 0 ≡ r) → (r ≡ limit) ⊎ Has xs r → Has xs r
  reached limit r some first (inl e) = subst (Has xs) (first e) (has_get_or xs 0 (pos 0) some)
  reached limit r some first (inr h) = h

  close_samples : (tolerance low high : ℤ) → Steady tolerance xs → Has xs low → Has xs high → close tolerance low high ≡ true
  close_samples tolerance low high s (i, h, at) (j, k, at') =
      let e = at (pos 0) in
      let e' = at' (pos 0) in
      let a = s.in_range i h in
      let b = s.in_range j k in
      let n = s.near j i k h in
      grind (arith, ints)

  pub steady_says : (tolerance : ℤ) → steady tolerance xs ≡ true → Steady tolerance xs
  steady_says tolerance e =
      let c = close_says tolerance (smallest xs) (largest xs) e in
      record {
        in_range = λ i h. let a = above i h in let b = below i h in omega (arith, ints);
        near = λ i j h k. let a = above j k in let b = below i h in omega (arith, ints);
      }

  pub steady_only : (tolerance : ℤ) → 0 < length xs → Steady tolerance xs → steady tolerance xs ≡ true
  steady_only tolerance some s =
      let first = s.in_range 0 some in
      let a = above 0 some in
      let b = below 0 some in
      close_samples tolerance _ _ s
      (reached _ _ some (λ e. omega (arith, ints)) (folded_min_z_reached (pos 4000000) xs _ refl))
      (reached _ _ some (λ e. omega (arith, ints)) (folded_max_z_reached (negsuc 3999999) xs _ refl))

-- The sum of two lists one after the other, and of what is left of a list.
use Rattle.std.specs.Prelude.{◌≡◌, List, [], ◌∷◌, ◌++◌, ℕ, ◌+◌, ◌≤◌, ◌<◌, length, drop, get_or}
use Rattle.std.proofs.Common.{arith, drop_of_length-le, drop-cons}
use Rattle.std.proofs.Math.Numerals.{add-one}
use Rattle.laws.specs.Sums.{total}

pub total_append : (l m : List ℕ) → total (l ++ m) ≡ total l + total m
unfolding total
total_append [] m = omega arith
total_append (b ∷ l) m = omega (arith, total_append l m)

-- of what is left from i on
module _ (l : List ℕ) (i : ℕ) where
  pub total_more : i < length l → total (drop i l) ≡ get_or l i 0 + total (drop (i + 1) l)
  unfolding total
  total_more h = rw (drop-cons l i 0 h, add-one i)

  pub total_end : length l ≤ i → total (drop i l) ≡ 0
  unfolding total
  total_end h = rw (drop_of_length-le l h)

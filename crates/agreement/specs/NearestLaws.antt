-- The nearest whole number: `rounded` is it, and no other is.
use Rattle.std.specs.Prelude.{◌≡◌, ℕ, suc, ◌+◌, ◌*◌, ◌≤◌, ◌<◌, ℤ, ◌+ℤ◌, ◌*ℤ◌, ◌≤ℤ◌, ◌<ℤ◌}
use Rattle.std.proofs.Common.{mul-le-mul_right, add-mul, suc-mul}
use native.Mathlib.Omega.{arith}
use Rattle.std.proofs.Math.IntN.{pos}
use Rattle.paper.specs.Words.{Nearest}
use Rattle.laws.specs.Cases.{split}
use Rattle.laws.specs.Linear.{over, under, sum_parts, product_over, product_under, parts_of_order, parts_of_less, less_of_parts, same_parts}
use Rattle.whole.specs.Rounded.{rounded}
use Rattle.whole.specs.RoundedLaws.{floor_low, floor_high}
use Rattle.agreement.specs.TestsLaws.{less_tested, tested_less}

one_less : (a b : ℤ) → (a +ℤ pos 1) ≤ℤ b → a <ℤ b
one_less a b h = tested_less a b (less_of_parts a b (omega (arith, parts_of_order _ _ h, sum_parts a (pos 1))))

-- a × m ≤ y < b × m + m leaves a ≤ b
no_higher : (m : ℕ) (a b y : ℤ) → (a *ℤ pos m) ≤ℤ y → y <ℤ (b *ℤ pos m +ℤ pos m) → over a + under b ≤ over b + under a
no_higher m a b y low high =
    split (over a + under b) (over b + under a) (λ h. h)
    (λ (h : over b + under a < over a + under b).
    let l = parts_of_order _ _ low in
    let k = parts_of_less y (b *ℤ pos m +ℤ pos m) (less_tested y _ high) in
    let more : suc (over b + under a) * m ≤ (over a + under b) * m = mul-le-mul_right m h in
    absurd (omega (
      arith,
      more,
      l,
      k,
      suc-mul (over b + under a) m,
      add-mul (over b) (under a) m,
      add-mul (over a) (under b) m,
      sum_parts (b *ℤ pos m) (pos m),
      product_over a m,
      product_under a m,
      product_over b m,
      product_under b m,
    )))

module _ (n : ℤ) (d : ℕ) (p : 0 < d) where
  pub rounded_is_nearest : Nearest (rounded n d) n d
  unfolding rounded
  rounded_is_nearest =
      let q : 0 < 2 * d = omega arith in
      record {
        low = floor_low (2 * d) q (pos 2 *ℤ n +ℤ pos d);
        high = one_less (pos 2 *ℤ n +ℤ pos d) _ (floor_high (2 * d) q (pos 2 *ℤ n +ℤ pos d));
      }

  pub nearest_once : (x z : ℤ) → Nearest x n d → Nearest z n d → x ≡ z
  nearest_once x z a b =
      same_parts x z (omega (
        arith,
        no_higher (2 * d) x z (pos 2 *ℤ n +ℤ pos d) a.low b.high,
        no_higher (2 * d) z x (pos 2 *ℤ n +ℤ pos d) b.low a.high,
      ))

  pub nearest_is_rounded : (z : ℤ) → Nearest z n d → rounded n d ≡ z
  nearest_is_rounded z h = nearest_once (rounded n d) z rounded_is_nearest h

-- A character's value worked out by the range that it stands in, and the byte that a pair of characters spells.
use Rattle.std.specs.Prelude.{◌≡◌, ℕ, ◌+◌, ◌-◌, ◌*◌, ◌%◌, ◌<◌, ◌≤◌, max, Bool, true, false, ◌&&◌, List, length, drop, nat_le, slice_index}
use Rattle.std.proofs.Math.Path.{sym}
use Rattle.std.proofs.Common.{ap, ◌∙◌, leb-true}
use native.Mathlib.Omega.{arith}
use Rattle.laws.specs.Cases.{split, both_left, both_right}
use Rattle.hextext.specs.Record.{digit, all_digits}
use Rattle.hextext.proofs.RecordLaws.{digit_decimal, digit_upper_case, digit_lower_case, byte_at, all_digits_yes, all_digits_no}

-- ---- a character

module _ (first last c : ℕ) (inside : Bool) (e : inside ≡ (nat_le first c && nat_le c last)) (t : inside ≡ true) where
  pub range_first : first ≤ c
  range_first = leb-true first c (both_left (nat_le first c) (nat_le c last) (sym e ∙ t))

  range_last : c ≤ last
  range_last = leb-true c last (both_right (nat_le first c) (nat_le c last) (sym e ∙ t))

  ranged : (less : ℕ) → (first ≤ c → c ≤ last → digit c ≡ c - less) → c - less ≡ digit c
  ranged less d = sym (d range_first range_last)

module _ (c : ℕ) where
  pub decimal_digit : (inside : Bool) → inside ≡ (nat_le 48 c && nat_le c 57) → inside ≡ true → c - 48 ≡ digit c
  decimal_digit inside e t = ranged 48 57 c inside e t 48 (digit_decimal c)

  pub upper_case_digit : (inside : Bool) → inside ≡ (nat_le 65 c && nat_le c 70) → inside ≡ true → c - 65 + 10 ≡ digit c
  upper_case_digit inside e t = omega (arith, ranged 65 70 c inside e t 55 (digit_upper_case c), range_first 65 70 c inside e t)

  pub lower_case_digit : (inside : Bool) → inside ≡ (nat_le 97 c && nat_le c 102) → inside ≡ true → c - 97 + 10 ≡ digit c
  lower_case_digit inside e t = omega (arith, ranged 97 102 c inside e t 87 (digit_lower_case c), range_first 97 102 c inside e t)

  pub no_digit : (decimal upper lower : Bool) → decimal ≡ (nat_le 48 c && nat_le c 57) → upper ≡ (nat_le 65 c && nat_le c 70) → lower ≡ (nat_le 97 c && nat_le c 102)
      → decimal ≡ false → upper ≡ false → lower ≡ false → 16 ≡ digit c
  unfolding digit
  no_digit decimal upper lower e f g no-decimal no-upper no_lower = rw (sym e ∙ no-decimal, sym f ∙ no-upper, sym g ∙ no_lower)

-- ---- a pair

-- the pair at i is of digits, and spells the byte b
pub record SpellsByte (l : List ℕ) (i b : ℕ) : Type 0 where
  pub high : digit (slice_index l i) < 16
  pub low : digit (slice_index l (i + 1)) < 16
  pub is : b ≡ byte_at l i

module _ (l : List ℕ) (i : ℕ) (h : i + 1 < length l) where
  pub spells_digits : {b : ℕ} → SpellsByte l i b → all_digits (drop i l) ≡ all_digits (drop (i + 2) l)
  spells_digits p =
      let e : i + 1 + 1 ≡ i + 2 = omega arith in
      all_digits_yes l i (omega arith) p.high ∙ all_digits_yes l (i + 1) h p.low ∙ ap (λ (j : ℕ). all_digits (drop j l)) e

  -- of which one is no digit
  pub spells_none : (digit (slice_index l i) < 16 → digit (slice_index l (i + 1)) < 16 → ⊥) → all_digits (drop i l) ≡ false
  spells_none none =
      split 16 (digit (slice_index l i)) (λ q. all_digits_no l i (omega arith) q)
      (λ q. all_digits_yes l i (omega arith) q ∙ all_digits_no l (i + 1) h (split 16 (digit (slice_index l (i + 1))) (λ z. z) (λ z. absurd (none q z))))

-- by its two values
module _ (l : List ℕ) (i high low : ℕ) (p : high ≡ digit (slice_index l i)) (q : low ≡ digit (slice_index l (i + 1))) where
  pub digits_spell : max high low < 16 → SpellsByte l i (high % 16 * 16 + low % 16)
  unfolding byte_at
  digits_spell h = record { high = omega arith; low = omega arith; is = omega arith }

  pub digits_none : i + 1 < length l → 16 ≤ max high low → all_digits (drop i l) ≡ false
  digits_none h k = spells_none l i h (λ f g. omega arith)

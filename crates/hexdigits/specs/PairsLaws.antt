-- Pairs of characters one after the other: whether they are digits, and what their bytes add up to.
use Rattle.std.specs.Prelude.{◌≡◌, ℕ, ◌+◌, ◌*◌, ◌/◌, ◌%◌, ◌<◌, ◌≤◌, max, true, false, List, length, drop, ◌≢◌, slice_index, Some, None}
use Rattle.std.proofs.Common.{ap, ◌∙◌, arith, eq-eqb, ne_eqb}
use Rattle.laws.specs.Cases.{split}
use Rattle.laws.specs.Sums.{total}
use Rattle.hextext.specs.Record.{digit, all_digits, bytes_of}
use Rattle.hextext.proofs.RecordLaws.{all_digits_end, bytes_total_more, bytes_total_end}
use Rattle.hexdigits.specs.Digits.{digits_sum}
use Rattle.hexdigits.specs.DigitsLaws.{SpellsByte, spells_digits, digits_spell, digits_none}

-- n pairs from a place on are digits, and their bytes add up to s modulo 256
pub record PairsAddUp (l : List ℕ) (from n s : ℕ) : Type 0 where
  pub digits : all_digits (drop from l) ≡ all_digits (drop (from + n * 2) l)
  pub sum : total (bytes_of (drop from l)) % 256 ≡ (s + total (bytes_of (drop (from + n * 2) l))) % 256

pub add_up_none : (l : List ℕ) (from : ℕ) → PairsAddUp l from 0 0
add_up_none l from = let e : from + 0 * 2 ≡ from = omega arith in record { digits = rw e; sum = rw e (omega arith) }

pub add_up_one : (l : List ℕ) (i b : ℕ) → i + 1 < length l → SpellsByte l i b → PairsAddUp l i 1 b
add_up_one l i b h q = record { digits = spells_digits l i h q; sum = omega (arith, bytes_total_more l i h, q.is) }

pub add_up_then : (l : List ℕ) (from n m s t : ℕ) → PairsAddUp l from n s → PairsAddUp l (from + n * 2) m t → PairsAddUp l from (n + m) ((s + t) % 256)
add_up_then l from n m s t p q =
    let e : from + n * 2 + m * 2 ≡ from + (n + m) * 2 = omega arith in
    let more = rw e at q.sum in
    record { digits = p.digits ∙ rw e at q.digits; sum = omega (arith, p.sum, more) }

-- ---- added up one by one

-- after i of n, with the greatest digit so far: 16 where one was none
pub record AddingPairs (l : List ℕ) (from n s largest i : ℕ) : Type 0 where
  pub within : i ≤ n
  pub small : s < 256
  pub good : largest < 16 → PairsAddUp l from i s
  pub bad : 16 ≤ largest → all_digits (drop from l) ≡ false

pub adding_first : (l : List ℕ) (from n : ℕ) → AddingPairs l from n 0 0 0
adding_first l from n = record { within = omega arith; small = omega arith; good = λ h. add_up_none l from; bad = λ h. absurd (omega arith) }

pub adding_more : (l : List ℕ) (from n s largest i : ℕ) → AddingPairs l from n s largest i → (high low next greater larger : ℕ) → from + n * 2 ≤ length l → i < n
    → high ≡ digit (slice_index l (from + i * 2)) → low ≡ digit (slice_index l (from + i * 2 + 1))
    → next ≡ (s + (high % 16 * 16 + low % 16)) % 256 → greater ≡ max high low → larger ≡ max largest greater → AddingPairs l from n next larger (i + 1)
adding_more l from n s largest i h high low next greater larger long k p q e g f =
    record {
      within = omega arith;
      small = omega arith;
      good = λ z. rw e (add_up_then l from i 1 s _ (h.good (omega arith)) (add_up_one l (from + i * 2) _ (omega arith) (spelled (omega arith))));
      bad = λ z. split 16 largest h.bad (λ y. (h.good y).digits ∙ digits_none l (from + i * 2) high low p q (omega arith) (omega arith));
    }
  where
    spelled : max high low < 16 → SpellsByte l (from + i * 2) (high % 16 * 16 + low % 16)
    spelled = digits_spell l (from + i * 2) high low p q

-- ---- all characters of a slice

module _ (l : List ℕ) where
  pub sum_odd : (length l % 2 ≢ 0) → None ≡ digits_sum l
  unfolding digits_sum
  sum_odd h = rw (ne_eqb (length l % 2) 0 h)

  module _ (n s largest i : ℕ) (h : AddingPairs l 0 n s largest i) where
    pub sum_more : (high low next greater larger : ℕ) → n * 2 ≤ length l → i < n → high ≡ digit (slice_index l (i * 2)) → low ≡ digit (slice_index l (i * 2 + 1))
        → next ≡ (s + (high % 16 * 16 + low % 16)) % 256 → greater ≡ max high low → larger ≡ max largest greater → AddingPairs l 0 n next larger (i + 1)
    sum_more high low next greater larger long k p q e g f =
        let z : 0 + i * 2 ≡ i * 2 = omega arith in
        adding_more l 0 n s largest i h high low next greater larger (omega arith) k (rw z p) (rw z q) e g f

    module _ (even : length l % 2 ≡ 0) where
      pub sum_failed : 16 ≤ largest → None ≡ digits_sum l
      unfolding digits_sum
      sum_failed k = rw (eq-eqb (length l % 2) 0 even, h.bad k)

      pub sum_all : n ≡ length l / 2 → n ≤ i → largest < 16 → Some s ≡ digits_sum l
      unfolding digits_sum
      sum_all m k y =
          let p = h.good y in
          let d : all_digits l ≡ true = p.digits ∙ all_digits_end l (0 + i * 2) (omega (arith, h.within)) in
          let sum : s ≡ total (bytes_of l) % 256 = omega (arith, p.sum, bytes_total_end l (0 + i * 2) (omega (arith, h.within)), h.small) in
          rw (eq-eqb (length l % 2) 0 even, d) (ap Some sum)

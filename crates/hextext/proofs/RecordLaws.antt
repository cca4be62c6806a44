-- Laws of digits, of the bytes that they spell, and of a line's form.
use Rattle.std.specs.Prelude.{◌≡◌, refl, true, false, ◌&&◌, List, [], ◌∷◌, ltb, eqb, drop, get_or, Err}
use Rattle.std.proofs.Common.{ap, le_of_suc-le-suc, sub-one, drop-cons}
use Rattle.std.proofs.Math.Bool.{and-false}
use Prim.Native.Nat.{ℕ, zero, suc, ◌+◌, ◌-◌, ◌*◌, ◌≤◌, ◌<◌, suc-le-suc}
use native.Mathlib.Omega.{arith}
use Rattle.std.proofs.Math.Numerals.{add-one}
use borrow.Author.Tests.{lt-ltb, le-ltb, le-leb, lt-leb, ne_eqb, ltb-true, eqb-true}
use Rattle.std.proofs.Math.ListN.{length, drop_of_length-le}
use Rattle.laws.specs.Cases.{split, never, both_left, both_right}
use Rattle.laws.specs.Lists.{drop_two}
use Rattle.laws.specs.Sums.{total}
use Rattle.hextext.specs.Record.{digit, all_digits, bytes_of, record_bytes, count_of, formed, line_of, placed, judge}

-- ---- a digit, by where its character stands

module _ (c : ℕ) where
  pub digit_decimal : 48 ≤ c → c ≤ 57 → digit c ≡ c - 48
  unfolding digit
  digit_decimal h k = simp (le-leb 48 c h, le-leb c 57 k)

  pub digit_upper_case : 65 ≤ c → c ≤ 70 → digit c ≡ c - 55
  unfolding digit
  digit_upper_case h k = simp (le-leb 48 c (omega arith), lt-leb c 57 (omega arith), le-leb 65 c h, le-leb c 70 k)

  pub digit_lower_case : 97 ≤ c → c ≤ 102 → digit c ≡ c - 87
  unfolding digit
  digit_lower_case h k =
      let no-decimal = lt-leb c 57 (omega arith) in
      let no-upper-case = lt-leb c 70 (omega arith) in
      simp (le-leb 48 c (omega arith), no-decimal, le-leb 65 c (omega arith), no-upper-case, le-leb 97 c h, le-leb c 102 k)

  pub digit_low : c < 48 → digit c ≡ 16
  unfolding digit
  digit_low h = simp (lt-leb 48 c h, lt-leb 65 c (omega arith), lt-leb 97 c (omega arith))

  pub digit_between : 57 < c → c < 65 → digit c ≡ 16
  unfolding digit
  digit_between h k = simp (le-leb 48 c (omega arith), lt-leb c 57 h, lt-leb 65 c k, lt-leb 97 c (omega arith))

  pub digit_gap : 70 < c → c < 97 → digit c ≡ 16
  unfolding digit
  digit_gap h k = simp (le-leb 48 c (omega arith), lt-leb c 57 (omega arith), le-leb 65 c (omega arith), lt-leb c 70 h, lt-leb 97 c k)

  pub digit_high : 102 < c → digit c ≡ 16
  unfolding digit
  digit_high h =
      let no-decimal = lt-leb c 57 (omega arith) in
      let no-upper-case = lt-leb c 70 (omega arith) in
      simp (le-leb 48 c (omega arith), no-decimal, le-leb 65 c (omega arith), no-upper-case, le-leb 97 c (omega arith), lt-leb c 102 h)

-- ---- the lists from a place on, by what stands there

-- the byte that the two characters at i spell
unfoldable pub byte_at : List ℕ → ℕ → ℕ
byte_at l i = digit (get_or l i 0) * 16 + digit (get_or l (i + 1) 0)

module _ (l : List ℕ) (i : ℕ) where
  pub all_digits_yes : i < length l → digit (get_or l i 0) < 16 → all_digits (drop i l) ≡ all_digits (drop (i + 1) l)
  unfolding all_digits
  all_digits_yes h k = rw (drop-cons l i 0 h, add-one i, lt-ltb (digit (get_or l i 0)) 16 k)

  pub all_digits_no : i < length l → 16 ≤ digit (get_or l i 0) → all_digits (drop i l) ≡ false
  unfolding all_digits
  all_digits_no h k = rw (drop-cons l i 0 h, le-ltb (digit (get_or l i 0)) 16 k)

  pub bytes_of_more : i + 1 < length l → bytes_of (drop i l) ≡ byte_at l i ∷ bytes_of (drop (i + 2) l)
  unfolding bytes_of byte_at
  bytes_of_more h = rw (drop_two l i h)

  pub bytes_of_end : length l ≤ i + 1 → bytes_of (drop i l) ≡ []
  unfolding bytes_of
  bytes_of_end h =
      split (length l) i (λ k. rw (drop_of_length-le l k))
      (λ k. let e : length l ≤ suc i = omega arith in rw (drop-cons l i 0 k, drop_of_length-le l e))

  pub all_digits_end : length l ≤ i → all_digits (drop i l) ≡ true
  unfolding all_digits
  all_digits_end h = rw (drop_of_length-le l h)

  pub bytes_total_more : i + 1 < length l → total (bytes_of (drop i l)) ≡ byte_at l i + total (bytes_of (drop (i + 2) l))
  unfolding total
  bytes_total_more h = rw (bytes_of_more h)

  pub bytes_total_end : length l ≤ i + 1 → total (bytes_of (drop i l)) ≡ 0
  unfolding total
  bytes_total_end h = rw (bytes_of_end h)

-- ---- form

pub formed_short : (l : List ℕ) → length l < 11 → formed l ≡ false
unfolding formed
formed_short [] h = refl
formed_short (c ∷ l) h =
    let e : eqb (length l) ((count_of (bytes_of l) + 5) * 2) ≡ false = ne_eqb (length l) ((count_of (bytes_of l) + 5) * 2) (λ q. omega arith) in
    rw e (rw (and-false (all_digits l)) (and-false (eqb c 58)))

pub formed_at : (l : List ℕ) → 11 ≤ length l
    → formed l ≡ (eqb (get_or l 0 0) 58 && (all_digits (drop 1 l) && eqb (length l - 1) ((byte_at l 1 + 5) * 2)))
unfolding formed
formed_at [] h = absurd (omega arith)
formed_at (c ∷ l) h =
    let e : count_of (bytes_of l) ≡ byte_at (c ∷ l) 1 = ap (λ (m : List ℕ). get_or m 0 0) (bytes_of_more (c ∷ l) 1 (omega arith)) in
    rw (e, sub-one (suc (length l)))

pub record_bytes_head : (l : List ℕ) → 9 ≤ length l → record_bytes l ≡ byte_at l 1 ∷ byte_at l 3 ∷ byte_at l 5 ∷ byte_at l 7 ∷ bytes_of (drop 9 l)
unfolding record_bytes
record_bytes_head l h = rw (bytes_of_more l 1 (omega arith), bytes_of_more l 3 (omega arith), bytes_of_more l 5 (omega arith), bytes_of_more l 7 (omega arith))

pub formed_long : (l : List ℕ) → formed l ≡ true → 11 ≤ length l
formed_long l e = split 11 (length l) (λ h. h) (λ h. never (rw (formed_short l h) at e))

pub formed_colon : (l : List ℕ) → formed l ≡ true → get_or l 0 0 ≡ 58
unfolding formed
formed_colon [] e = never e
formed_colon (c ∷ l) e = eqb-true c 58 (both_left (eqb c 58) _ e)

pub formed_digits : (l : List ℕ) → formed l ≡ true → all_digits (drop 1 l) ≡ true
unfolding formed
formed_digits [] e = never e
formed_digits (c ∷ l) e = both_left (all_digits l) _ (both_right (eqb c 58) _ e)

pub formed_length : (l : List ℕ) → formed l ≡ true → length l ≡ 11 + count_of (record_bytes l) * 2
unfolding formed record_bytes
formed_length [] e = never e
formed_length (c ∷ l) e = omega (arith, eqb-true (length l) _ (both_right (all_digits l) _ (both_right (eqb c 58) _ e)))

pub judge_unformed : (room at : ℕ) (l : List ℕ) → formed l ≡ false → judge room at l ≡ Err 1
unfolding judge placed line_of
judge_unformed room at l e = rw e

-- ---- digits of a line, by their place

pub all_digits_at : (l : List ℕ) (i : ℕ) → all_digits l ≡ true → i < length l → digit (get_or l i 0) < 16
unfolding all_digits
all_digits_at [] i e h = absurd (omega arith)
all_digits_at (c ∷ l) zero e h = ltb-true (digit c) 16 (both_left (ltb (digit c) 16) (all_digits l) e)
all_digits_at (c ∷ l) (suc i) e h = all_digits_at l i (both_right (ltb (digit c) 16) (all_digits l) e) (le_of_suc-le-suc h)

pub get_d_bytes_of : (l : List ℕ) (i j : ℕ) → i + j * 2 + 1 < length l → get_or (bytes_of (drop i l)) j 0 ≡ byte_at l (i + j * 2)
get_d_bytes_of l i zero h =
    let e : i + zero * 2 ≡ i = omega arith in
    rw (e, bytes_of_more l i (omega arith))
get_d_bytes_of l i (suc j) h =
    let e : i + suc j * 2 ≡ (i + 2) + j * 2 = omega arith in
    rw (e, bytes_of_more l i (omega arith)) (get_d_bytes_of l (i + 2) j (omega arith))

pub length_bytes_of : (l : List ℕ) (i n : ℕ) → i + n * 2 ≤ length l → n ≤ length (bytes_of (drop i l))
length_bytes_of l i zero h = omega arith
length_bytes_of l i (suc n) h = rw (bytes_of_more l i (omega arith)) (suc-le-suc (length_bytes_of l (i + 2) n (omega arith)))

-- A line judged by itself, a law for each way out, and its data bytes.
use Rattle.std.proofs.Math.Path.{◌≡◌}
use Rattle.std.specs.Prelude.{refl, Bool, cond, eqb, Err, Ok, Option, Some, None, Result, ok_or}
use Rattle.std.proofs.Common.{◌∙◌, le_of_eq, drop-drop, get_or-take}
use Rattle.std.proofs.Math.Bool.{true, false, and-false, and-true}
use mathlib.Core.List.{List, [], ◌∷◌}
use Prim.Native.Nat.{ℕ, zero, suc, ◌+◌, ◌-◌, ◌*◌, ◌%◌, ◌≤◌, ◌<◌}
use native.Mathlib.Omega.{arith}
use borrow.Author.Tests.{eq-eqb, ne_eqb}
use Rattle.std.proofs.Math.ListN.{length, take, drop, get_or, length-drop, length-take, get_or-eq_default}
use Rattle.std.proofs.Math.Seq.{get_or-drop, take_all}
use Rattle.laws.specs.Cases.{split, decide}
use Rattle.laws.specs.Sums.{total}
use Rattle.hextext.specs.declared.Header.{Header}
use Rattle.hextext.specs.Record.{digit, all_digits, bytes_of, record_bytes, data_of, formed, summed, header, line_of}
use Rattle.hextext.proofs.RecordLaws.{digit_low, digit_decimal, digit_between, digit_upper_case, digit_gap, digit_lower_case, digit_high, byte_at, bytes_of_more, bytes_of_end, get_d_bytes_of, all_digits_at, formed_short, formed_at, formed_digits, formed_length}
use Rattle.hexdigits.specs.Digits.{digits_sum}
use Rattle.hexline.specs.Line.{data_byte}

-- ---- a byte of a line

digit_most : (c : ℕ) → digit c ≤ 16
digit_most c =
    split 103 c (λ h. omega (arith, digit_high c (omega arith)))
    (λ h. split 97 c (λ k. omega (arith, digit_lower_case c k (omega arith)))
    (λ k. split 71 c (λ j. omega (arith, digit_gap c (omega arith) k))
    (λ j. split 65 c (λ i. omega (arith, digit_upper_case c i (omega arith)))
    (λ i. split 58 c (λ g. omega (arith, digit_between c (omega arith) i))
    (λ g. split 48 c (λ f. omega (arith, digit_decimal c f (omega arith)))
    (λ f. omega (arith, digit_low c f)))))))

-- r is the byte that the two characters at a place spell, 0 where they are not there
pub record SpelledAt (l : List ℕ) (at r : ℕ) : Type 0 where
  pub is : r ≡ get_or (bytes_of (drop at l)) 0 0
  pub most : r ≤ 272

module _ (l : List ℕ) (at : ℕ) where
  pub spelled_there : (high low : ℕ) → at + 1 < length l → high ≡ digit (get_or l at 0) → low ≡ digit (get_or l (at + 1) 0)
      → SpelledAt l at (high * 16 + low)
  unfolding byte_at
  spelled_there high low h p q =
      record { is = rw (bytes_of_more l at h, p, q); most = omega (arith, digit_most (get_or l at 0), digit_most (get_or l (at + 1) 0)) }

bytes_of_tail : (l : List ℕ) (j : ℕ) → get_or (bytes_of l) (suc j) 0 ≡ get_or (bytes_of (drop 2 l)) j 0
unfolding bytes_of
bytes_of_tail [] j = refl
bytes_of_tail (a ∷ []) j = refl
bytes_of_tail (a ∷ b ∷ l) j = refl

byte_at_lem : (l : List ℕ) (i j : ℕ) → get_or (bytes_of (drop i l)) j 0 ≡ get_or (bytes_of (drop (i + j * 2) l)) 0 0
byte_at_lem l i zero = let e : i + zero * 2 ≡ i = omega arith in rw e
byte_at_lem l i (suc j) =
    let e : i + suc j * 2 ≡ i + 2 + j * 2 = omega arith in
    bytes_of_tail (drop i l) j ∙ rw (drop-drop 2 i l, e) (byte_at_lem l (i + 2) j)

-- ---- data byte i

-- where its characters are not there
pub data_cut : (l : List ℕ) (i : ℕ) → length l ≤ 9 + i * 2 + 1 → 0 ≡ data_byte l i
unfolding data_byte data_of record_bytes
data_cut l i h =
    let bytes : List ℕ = bytes_of (drop 1 l) in
    let e : 1 + (4 + i) * 2 ≡ 9 + i * 2 = omega arith in
    split (get_or bytes 0 0) i
    (λ k.
    let after : length (take (get_or bytes 0 0) (drop 4 bytes)) ≤ i = omega (arith, length-take (get_or bytes 0 0) (drop 4 bytes)) in
    rw (get_or-eq_default (take (get_or bytes 0 0) (drop 4 bytes)) 0 after))
    (λ k. rw (get_or-take (get_or bytes 0 0) (drop 4 bytes) i 0 k, get_or-drop 4 bytes i 0, byte_at_lem l 1 (4 + i), e, bytes_of_end l (9 + i * 2) h))

pub data_short : (l : List ℕ) (i : ℕ) → length l < 11 → 0 ≡ data_byte l i
data_short l i h = data_cut l i (omega arith)

pub data_past : (l : List ℕ) (i : ℕ) → 11 ≤ length l → length l - 11 < i * 2 → 0 ≡ data_byte l i
data_past l i k h = data_cut l i (omega arith)

module _ (l : List ℕ) (i n : ℕ) (c : SpelledAt l 1 n) where
  pub data_none : n ≤ i → 0 ≡ data_byte l i
  unfolding data_byte data_of record_bytes
  data_none h =
      let bytes : List ℕ = bytes_of (drop 1 l) in
      let after : length (take (get_or bytes 0 0) (drop 4 bytes)) ≤ i = omega (arith, c.is, length-take (get_or bytes 0 0) (drop 4 bytes)) in
      rw (get_or-eq_default (take (get_or bytes 0 0) (drop 4 bytes)) 0 after)

  pub data_there : i < n → (b : ℕ) → SpelledAt l (9 + i * 2) b → b % 256 ≡ data_byte l i
  unfolding data_byte data_of record_bytes
  data_there h b p =
      let bytes : List ℕ = bytes_of (drop 1 l) in
      let e : 1 + (4 + i) * 2 ≡ 9 + i * 2 = omega arith in
      rw (get_or-take (get_or bytes 0 0) (drop 4 bytes) i 0 (omega (arith, c.is)), get_or-drop 4 bytes i 0, byte_at_lem l 1 (4 + i), e, p.is)

-- in a record it is the byte as it stands
module _ (l : List ℕ) (h : Header) (good : line_of l ≡ Ok h) where
  good_formed : formed l ≡ true
  unfolding line_of
  good_formed =
      decide (formed l) (λ (q : formed l ≡ true). q)
      (λ (q : formed l ≡ false). let bad : Err 1 ≡ Ok h = rw q at good in let z : ◌≡◌ {A = ℕ} 0 1 = cc in absurd (omega arith))

  digit_small : (j : ℕ) → j < length l → 0 < j → digit (get_or l j 0) < 16
  digit_small j k p =
      let d = all_digits_at (drop 1 l) (j - 1) (formed_digits l good_formed) (omega (arith, length-drop 1 l)) in
      let e : 1 + (j - 1) ≡ j = omega arith in
      rw (get_or-drop 1 l (j - 1) 0, e) at d

  pub data_byte_in_record : (i : ℕ) → data_byte l i ≡ get_or (data_of (record_bytes l)) i 0
  unfolding data_byte data_of record_bytes byte_at
  data_byte_in_record i =
      let bytes : List ℕ = bytes_of (drop 1 l) in
      let long : length l ≡ 11 + get_or bytes 0 0 * 2 = formed_length l good_formed in
      split (get_or bytes 0 0) i
      (λ k.
      let after : length (take (get_or bytes 0 0) (drop 4 bytes)) ≤ i = omega (arith, length-take (get_or bytes 0 0) (drop 4 bytes)) in
      rw (get_or-eq_default (take (get_or bytes 0 0) (drop 4 bytes)) 0 after))
      (λ k.
      let at : ℕ = 1 + (4 + i) * 2 in
      let high = digit_small at (omega arith) (omega arith) in
      let low = digit_small (at + 1) (omega arith) (omega arith) in
      rw (get_or-take (get_or bytes 0 0) (drop 4 bytes) i 0 k, get_or-drop 4 bytes i 0, get_d_bytes_of l 1 (4 + i) (omega arith)) (omega arith))

-- ---- a line by itself

module _ (l : List ℕ) where
  pub bad_short : length l < 11 → Err 1 ≡ line_of l
  unfolding line_of
  bad_short h = rw (formed_short l h)

  module _ (long : 11 ≤ length l) where
    pub bad_colon : (get_or l 0 0 ≡ 58 → ⊥) → Err 1 ≡ line_of l
    unfolding line_of
    bad_colon k = rw (formed_at l long, ne_eqb (get_or l 0 0) 58 k)

    module _ (n : ℕ) (c : SpelledAt l 1 n) where
      counted : n ≡ byte_at l 1
      counted = rw (bytes_of_more l 1 (omega arith)) at c.is

      pub bad_length : (length l - 11 ≡ n * 2 → ⊥) → Err 1 ≡ line_of l
      unfolding line_of
      bad_length k =
          let e = ne_eqb (length l - 1) ((byte_at l 1 + 5) * 2) (λ q. k (omega (arith, counted))) in
          rw (formed_at l long, e, and-false (all_digits (drop 1 l)), and-false (eqb (get_or l 0 0) 58))

      -- each section knows one thing more
      module _ (colon : get_or l 0 0 ≡ 58) (fits : length l - 11 ≡ n * 2) (d : Option ℕ) (x : Result ℕ ℕ) (e : d ≡ digits_sum (take (length l - 1) (drop 1 l))) (f : x ≡ ok_or d 1) where
        formed_is : (b : Bool) → all_digits (drop 1 l) ≡ b → formed l ≡ b
        formed_is b d =
            rw (formed_at l long, eq-eqb (get_or l 0 0) 58 colon, d, eq-eqb (length l - 1) ((byte_at l 1 + 5) * 2) (omega (arith, counted))) (and-true b)

        sum_is : (b : Bool) → all_digits (drop 1 l) ≡ b → x ≡ ok_or (cond b (Some (total (record_bytes l) % 256)) None) 1
        unfolding digits_sum record_bytes
        sum_is b q =
            let whole : take (length l - 1) (drop 1 l) ≡ drop 1 l = take_all (length l - 1) (drop 1 l) (le_of_eq (length-drop 1 l)) in
            let even : length (drop 1 l) % 2 ≡ 0 = omega (arith, length-drop 1 l) in
            let same : d ≡ cond b (Some (total (bytes_of (drop 1 l)) % 256)) None = rw (whole, eq-eqb (length (drop 1 l) % 2) 0 even, q) at e in
            rw same at f

        all_digits_lem : (s : ℕ) → x ≡ Ok s → all_digits (drop 1 l) ≡ true
        all_digits_lem s h =
            decide (all_digits (drop 1 l)) (λ (q : all_digits (drop 1 l) ≡ true). q)
            (λ (q : all_digits (drop 1 l) ≡ false). let z : ◌≡◌ {A = ℕ} 0 1 = cc (h, sum_is false q) in absurd (omega arith))

        pub bad_digits : (n : ℕ) → x ≡ Err n → Err n ≡ line_of l
        unfolding line_of
        bad_digits n h =
            decide (all_digits (drop 1 l)) (λ (q : all_digits (drop 1 l) ≡ true). let z : ◌≡◌ {A = ℕ} 0 1 = cc (h, sum_is true q) in absurd (omega arith))
            (λ (q : all_digits (drop 1 l) ≡ false). let one : n ≡ 1 = cc (h, sum_is false q) in rw (formed_is false q, one))

        sum_of : (s : ℕ) → x ≡ Ok s → s ≡ total (record_bytes l) % 256
        sum_of s h = cc (h, sum_is true (all_digits_lem s h))

        pub bad_sum : (s : ℕ) → x ≡ Ok s → (s ≡ 0 → ⊥) → Err 2 ≡ line_of l
        unfolding line_of summed
        bad_sum s h k = rw (formed_is true (all_digits_lem s h), ← sum_of s h, ne_eqb s 0 k)

        pub good_line : (s : ℕ) → x ≡ Ok s → s ≡ 0 → (high low kind : ℕ) → SpelledAt l 3 high → SpelledAt l 5 low → SpelledAt l 7 kind
            → Ok (header n (high * 256 + low) kind) ≡ line_of l
        unfolding line_of summed record_bytes
        good_line s h z high low kind ph pl pk =
            rw (formed_is true (all_digits_lem s h), ← sum_of s h, eq-eqb s 0 z, byte_at_lem l 1 1, byte_at_lem l 1 2, byte_at_lem l 1 3, ← c.is, ← ph.is, ← pl.is, ← pk.is)

-- Laws of numbers among bytes: a number of two halves, a byte, nothing past the end, a number of its own bytes, a bound, a sign.
use Rattle.std.specs.Prelude.{◌≡◌, ℕ, zero, suc, ◌+◌, ◌-◌, ◌*◌, ◌^◌, ◌<◌, ◌≤◌, cond, nat_lt, List, [], ◌∷◌, ◌++◌, length, take, drop, replicate, min, ℤ, pos, negsuc, ◌-ℤ◌, slice_index, slice_set, refl}
use Rattle.std.proofs.Common.{sym, ◌∙◌, mul_assoc, mul_comm, pow-suc, zero-add, add-one, append_assoc, drop_of_length-le, drop-cons, drop-drop, take-take, take-suc, take_all, length-drop, length-take-le}
use Rattle.std.proofs.lemmas.List.{take-append-le, take-replicate, drop-replicate}
use Rattle.std.proofs.Math.Nat.{one-le-pow}
use native.Mathlib.Omega.{arith}
use borrow.Author.Tests.{lt-ltb, le-ltb}
use Rattle.std.proofs.Math.ListN.{get_or-eq_default}
use Rattle.std.proofs.Math.ListN.{length-replicate}
use Rattle.std.proofs.Math.Seq.{take-nil, take-append-add, set-append_seam}
use Rattle.std.specs.Int.{Width, w8, w16, w32, w64, w128}
use Rattle.std.specs.Int.{byte_worth, sum_through}
use mir.Val.{bits, hbits, to_z}
use Rattle.std.proofs.Math.Facts.{to_z_pos, to_z-neg}
use Rattle.laws.specs.Bytes.{Bytes}
use Rattle.laws.specs.BytesLaws.{bytes_drop}
use Rattle.laws.specs.Cases.{split}
use Rattle.laws.specs.Magnitude.{natural_difference, difference_lt}
use Rattle.numbers.specs.Fields.{little_endian, number_at, twos_complement, signed_at}

-- w bytes and then v more: the low part, and the high part after it
joined : (w v : ℕ) (l : List ℕ) → little_endian (take (w + v) l) ≡ little_endian (take w l) + 256 ^ w * little_endian (take v (drop w l))
unfolding little_endian
joined zero v l = rw (zero-add v) (omega arith)
joined (suc w) v [] = rw (take-nil (suc w + v), take-nil v) (omega arith)
joined (suc w) v (b ∷ l) =
    let e : suc w + v ≡ suc (w + v) = omega arith in
    rw (e, joined w v l, pow-suc 256 w, mul_comm (256 ^ w) 256, mul_assoc 256 (256 ^ w) (little_endian (take v (drop w l)))) (omega arith)

-- a number of w + v bytes, by its halves
pub number_of_halves : (w v : ℕ) (l : List ℕ) (place : ℕ) {low high : ℕ} → low ≡ number_at w l place → high ≡ number_at v l (place + w)
    → low + 256 ^ w * high ≡ number_at (w + v) l place
unfolding number_at
number_of_halves w v l place e f = rw (e, f, ← drop-drop w place l) (sym (joined w v (drop place l)))

pub number_of_byte : (l : List ℕ) (place : ℕ) → place < length l → slice_index l place ≡ number_at 1 l place
unfolding number_at little_endian
number_of_byte l place h = rw (drop-cons l place 0 h) (omega arith)

pub number_past_end : (w : ℕ) (l : List ℕ) (place : ℕ) → length l ≤ place → 0 ≡ number_at w l place
unfolding number_at little_endian
number_past_end w l place h = rw (drop_of_length-le l h, take-nil w)

-- seen from a place before it
pub number_from : (w : ℕ) (l : List ℕ) (from place : ℕ) → number_at w (drop from l) place ≡ number_at w l (from + place)
unfolding number_at
number_from w l from place = rw (drop-drop place from l)

-- among the first n bytes alone
part_within : (w place n : ℕ) (l : List ℕ) → place + w ≤ n → take w (drop place (take n l)) ≡ take w (drop place l)
part_within w zero n l h = take-take w n l (omega arith)
part_within w (suc place) zero l h = absurd (omega arith)
part_within w (suc place) (suc n) [] h = refl
part_within w (suc place) (suc n) (b ∷ l) h = part_within w place n l (omega arith)

pub number_within : (w : ℕ) (l : List ℕ) (place n : ℕ) → place + w ≤ n → number_at w (take n l) place ≡ number_at w l place
unfolding number_at
number_within w l place n h = rw (part_within w place n l h)

-- one byte and two, wherever they stand
pub byte_at_lem : (l : List ℕ) (place : ℕ) → number_at 1 l place ≡ slice_index l place
byte_at_lem l place =
    split (length l) place
    (λ (h : length l ≤ place). sym (number_past_end 1 l place h) ∙ sym (get_or-eq_default l 0 h))
    (λ (h : place < length l). sym (number_of_byte l place h))

pub two_bytes_at : (l : List ℕ) (place : ℕ) → number_at 2 l place ≡ slice_index l place + 256 * slice_index l (place + 1)
two_bytes_at l place = sym (number_of_halves 1 1 l place (sym (byte_at_lem l place)) (sym (byte_at_lem l (place + 1))))

-- w bytes one by one, from the i-th after a place on, and from the place itself on; 0 past the end
abbrev bytes_from : (w : ℕ) → List ℕ → (place i : ℕ) → List ℕ
bytes_from zero l place i = []
bytes_from (suc w) l place i = slice_index l (place + i) ∷ bytes_from w l place (i + 1)

abbrev pub bytes_at : (w : ℕ) → List ℕ → (place : ℕ) → List ℕ
bytes_at zero l place = []
bytes_at (suc w) l place = slice_index l place ∷ bytes_from w l place 1

-- a number by its low byte and the number after it
by_low_byte : (w : ℕ) (l : List ℕ) (place : ℕ) → slice_index l place + 256 * number_at w l (place + 1) ≡ number_at (suc w) l place
by_low_byte w l place = let e : suc w ≡ 1 + w = omega arith in rw e (number_of_halves 1 w l place (sym (byte_at_lem l place)) refl)

spelled_from : (w : ℕ) (l : List ℕ) (place i : ℕ) → number_at w (bytes_from w l place i) 0 ≡ number_at w l (place + i)
unfolding number_at little_endian
spelled_from zero l place i = refl
spelled_from (suc w) l place i =
    let e : place + (i + 1) ≡ place + i + 1 = omega arith in
    rw (spelled_from w l place (i + 1), e) (by_low_byte w l (place + i))

-- a number is that of its own bytes, wherever they are read from
spelled_alike : (w : ℕ) (l : List ℕ) (place : ℕ) → number_at w (bytes_at w l place) 0 ≡ number_at w l place
unfolding number_at little_endian
spelled_alike zero l place = refl
spelled_alike (suc w) l place = rw (spelled_from w l place 1) (by_low_byte w l place)

pub number_of_bytes : (w : ℕ) (l : List ℕ) (place : ℕ) {r : ℕ} → r ≡ number_at w (bytes_at w l place) 0 → r ≡ number_at w l place
number_of_bytes w l place e = rw (spelled_alike w l place) at e

pub signed_of_bytes : (w : ℕ) (l : List ℕ) (place : ℕ) {r : ℤ} → r ≡ signed_at w (bytes_at w l place) 0 → r ≡ signed_at w l place
signed_of_bytes w l place e = rw (spelled_alike w l place) at e

spelled_small : (w : ℕ) (l : List ℕ) → Bytes l → little_endian (take w l) < 256 ^ w
unfolding little_endian
spelled_small zero l h = omega arith
spelled_small (suc w) [] h = one-le-pow (suc w) 256 (omega arith)
spelled_small (suc w) (b ∷ l) h =
    let k = spelled_small w l (λ i. h (suc i)) in
    let f = h 0 in
    rw (pow-suc 256 w) (omega arith)

-- a number of w bytes
pub number_small : (w : ℕ) (l : List ℕ) (place : ℕ) → Bytes l → number_at w l place < 256 ^ w
unfolding number_at
number_small w l place h = spelled_small w (drop place l) (bytes_drop place l h)

-- ---- a number from an array of its bytes, as std reads one

-- an array of w bytes: those of the rest, and zeros where it has fewer
pub all_there : (w : ℕ) (rest : List ℕ) → w ≤ length rest → take w rest ≡ take w (rest ++ replicate w 0)
all_there w rest h = sym (take-append-le w rest (replicate w 0) h)

pub zeros_after : (w : ℕ) (rest : List ℕ) → length rest < w → rest ++ drop (length rest) (replicate w 0) ≡ take w (rest ++ replicate w 0)
zeros_after w rest h =
    let e : w ≡ length rest + (w - length rest) = omega arith in
    let zeros : take {A = ℕ} (w - length rest) (replicate w 0) ≡ drop (length rest) (replicate w 0) =
    take-replicate (w - length rest) w 0 (omega arith) ∙ sym (drop-replicate (length rest) w 0) in
    rw (← zeros) (sym (rw (← e) at (take-append-add rest (replicate w 0) (w - length rest))))

-- of i places of the array those that the rest has are written
pub record Padding (w : ℕ) (rest : List ℕ) (i : ℕ) (padded : List ℕ) : Type 0 where
  pub is : padded ≡ take i rest ++ drop (length (take i rest)) (replicate w 0)

pub padding_first : (w : ℕ) (rest : List ℕ) → Padding w rest 0 (replicate w 0)
padding_first w rest = record { is = refl }

module _ (w : ℕ) (rest : List ℕ) (i : ℕ) (padded : List ℕ) (h : Padding w rest i padded) where
  pub padding_more : (to from : ℕ) → to ≡ i → from ≡ i → i < w → i < length rest → Padding w rest (i + 1) (slice_set padded to (slice_index rest from))
  padding_more to from e f k there =
      let front : length (take i rest) ≡ i = length-take-le i rest (omega arith) in
      let next : length (take (suc i) rest) ≡ suc i = length-take-le (suc i) rest (omega arith) in
      let after = drop (suc i) (replicate w 0) in
      let zeros : drop i (replicate w 0) ≡ slice_index (replicate w 0) i ∷ after =
      drop-cons (replicate w 0) i 0 (omega (arith, length-replicate {A = ℕ} w 0)) in
      let written = set-append_seam (take i rest) (slice_index (replicate w 0) i) after (slice_index rest i) in
      record {
        is = rw (e, f, add-one i, next, take-suc rest i 0 there, append_assoc (take i rest) (slice_index rest i ∷ []) after, h.is, front, zeros)
            (rw front at written);
      }

  pub padding_past : length rest ≤ i → Padding w rest (i + 1) padded
  padding_past past = record { is = rw (take_all (i + 1) rest (omega arith)) (rw (take_all i rest past) at h.is) }

  pub padding_end : w ≤ i → length rest < w → padded ≡ take w (rest ++ replicate w 0)
  padding_end k short = (rw (take_all i rest (omega arith)) at h.is) ∙ zeros_after w rest short

pub rest_from : (place k : ℕ) (l : List ℕ) → k ≡ min place (length l) → take (length l - k) (drop k l) ≡ drop place l
rest_from place k l e = take_all (length l - k) (drop k l) (omega (arith, length-drop k l)) ∙ same
  where
    same : drop k l ≡ drop place l
    same =
        split place (length l)
        (λ (h : place ≤ length l). let f : k ≡ place = omega arith in rw f refl)
        (λ (h : length l < place). let f : length l ≤ k = omega arith in drop_of_length-le l f ∙ sym (drop_of_length-le l (omega arith)))

zeros_spell_nothing : (w m : ℕ) → little_endian (take w (replicate m 0)) ≡ 0
unfolding little_endian
zeros_spell_nothing zero m = refl
zeros_spell_nothing (suc w) zero = refl
zeros_spell_nothing (suc w) (suc m) = rw (zeros_spell_nothing w m) refl

padded : (w m : ℕ) (l : List ℕ) → little_endian (take w (l ++ replicate m 0)) ≡ little_endian (take w l)
unfolding little_endian
padded zero m l = refl
padded (suc w) m [] = zeros_spell_nothing (suc w) m
padded (suc w) m (b ∷ l) = rw (padded w m l) refl

spelled_through : (k : ℕ) (l : List ℕ) → sum_through (λ i. byte_worth i (slice_index l i)) k ≡ number_at (suc k) l 0
spelled_through zero l = sym (byte_at_lem l 0)
spelled_through (suc k) l =
    let e : suc (suc k) ≡ suc k + 1 = omega arith in
    let f : 0 + suc k ≡ suc k = omega arith in
    rw (e, mul_comm (slice_index l (suc k)) (256 ^ suc k)) (number_of_halves (suc k) 1 l 0 (spelled_through k l) (rw f (sym (byte_at_lem l (suc k)))))

-- r is read from b, an array of the k + 1 bytes from a place on, with zeros past the end; `from` is that place as it is worked out
module _ (k : ℕ) (l b : List ℕ) (from place r : ℕ) (there : b ≡ take (suc k) (drop from l ++ replicate (suc k) 0)) (same : from ≡ place) where
  spelled_there : number_at (suc k) b 0 ≡ number_at (suc k) l place
  unfolding number_at
  spelled_there = rw (there, same, take-take (suc k) (suc k) (drop place l ++ replicate (suc k) 0) (omega arith)) (padded (suc k) (suc k) (drop place l))

  pub number_read : r ≡ sum_through (λ i. byte_worth i (slice_index b i)) k → r ≡ number_at (suc k) l place
  number_read e = e ∙ spelled_through k b ∙ spelled_there

pub read_there : (w : ℕ) (l : List ℕ) (from place n : ℕ) → from ≡ place → n ≡ number_at w l from → n ≡ number_at w l place
read_there w l from place n e f = rw e at f

-- ---- the sign, at a width

both_halves : (w : Width) → 2 * 2 ^ hbits w ≡ 2 ^ bits w
both_halves w8 = refl
both_halves w16 = refl
both_halves w32 = refl
both_halves w64 = refl
both_halves w128 = refl

pub signed_read : (w : Width) (n : ℕ) → n < 2 ^ bits w → to_z w n ≡ twos_complement (2 ^ bits w) n
unfolding twos_complement
signed_read w n h =
    let b = both_halves w in
    split (2 ^ hbits w) n
    (λ (k : 2 ^ hbits w ≤ n). high k)
    (λ (k : n < 2 ^ hbits w). rw (to_z_pos w k, lt-ltb (2 * n) (2 ^ bits w) (omega arith)))
  where
    high : 2 ^ hbits w ≤ n → to_z w n ≡ cond (nat_lt (2 * n) (2 ^ bits w)) (pos n) (pos n -ℤ pos (2 ^ bits w))
    high k =
        let b = both_halves w in
        let e : n ≡ 2 ^ bits w - suc (2 ^ bits w - suc n) = omega arith in
        let below : to_z w (2 ^ bits w - suc (2 ^ bits w - suc n)) ≡ negsuc (2 ^ bits w - suc n) = to_z-neg w (2 ^ bits w - suc n) (omega arith) in
        rw (le-ltb (2 * n) (2 ^ bits w) (omega arith), natural_difference n (2 ^ bits w), difference_lt n (2 ^ bits w) h) (rw (← e) at below)

pub signed_at_read : (w : Width) (n m : ℕ) (z : ℤ) → z ≡ to_z w n → n < 2 ^ bits w → n ≡ m → z ≡ twos_complement (2 ^ bits w) m
signed_at_read w n m z e h f = e ∙ signed_read w n h ∙ rw f refl

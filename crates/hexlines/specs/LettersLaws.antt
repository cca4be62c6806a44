-- Characters that spell digits, several at once as one number.
use Rattle.std.specs.Prelude.{◌≡◌, refl, Bool, true, false, not, ◌&&◌, List, [], ◌∷◌, ℕ, zero, suc, ◌+◌, ◌-◌, ◌*◌, ◌/◌, ◌%◌, ◌^◌, ◌<◌, ltb, eqb, length}
use Rattle.std.proofs.Math.Path.{sym}
use Rattle.std.proofs.Common.{ap, ◌∙◌, ltb-true, eqb-true, ext_get_or, Fits}
use native.Mathlib.Omega.{arith}
use Rattle.std.specs.Int.Bits.{bit_and}
use Rattle.std.proofs.lemmas.Nat.{and_block, and_mask, and_le_r}
use Rattle.std.proofs.Math.ListN.{get_or}
use Rattle.std.specs.Int.{w32}
use Rattle.laws.specs.Bytes.{Bytes}
use Rattle.laws.specs.BytesLaws.{bytes_nil, bytes_cons}
use Rattle.laws.specs.Cases.{split, never, both_left, both_right}
use Rattle.numbers.specs.Fields.{little_endian, number_at}
use Rattle.numbers.specs.FieldsLaws.{number_of_halves, byte_at_lem}
use Rattle.hextext.specs.Record.{digit}
use Rattle.hextext.proofs.RecordLaws.{digit_decimal, digit_upper_case, digit_lower_case, byte_at}
use Rattle.hexdigits.specs.DigitsLaws.{SpellsByte}

-- ---- an answer that is yes only where something holds

pub record When (answer : Bool) (holds : Type 0) : Type 0 where
  pub says : answer ≡ true → holds

pub when_not : (holds : Type 0) → When false holds
when_not holds = record { says = λ e. never e }

-- after a test for no
pub when_yes : {holds : Type 0} (answer : Bool) → When answer holds → not answer ≡ false → holds
when_yes true w t = w.says refl
when_yes false w t = never (sym t)

-- ---- the character of a digit

module _ (d : ℕ) (h : d < 16) where
  lower_case_spells : digit (d + 48 + d / 10 * 39) ≡ d
  lower_case_spells =
      split 10 d (λ k. omega (arith, digit_lower_case (d + 48 + d / 10 * 39) (omega arith) (omega arith)))
      (λ k. omega (arith, digit_decimal (d + 48 + d / 10 * 39) (omega arith) (omega arith)))

  upper_case_spells : digit (d + 48 + d / 10 * 7) ≡ d
  upper_case_spells =
      split 10 d (λ k. omega (arith, digit_upper_case (d + 48 + d / 10 * 7) (omega arith) (omega arith)))
      (λ k. omega (arith, digit_decimal (d + 48 + d / 10 * 7) (omega arith) (omega arith)))

-- ---- the same number

by_low_byte : (w : ℕ) (l : List ℕ) (place : ℕ) → get_or l place 0 + 256 * number_at w l (place + 1) ≡ number_at (suc w) l place
by_low_byte w l place = let e : suc w ≡ 1 + w = omega arith in rw e (number_of_halves 1 w l place (sym (byte_at_lem l place)) refl)

-- equal numbers have equal bytes
same_low_byte : (w : ℕ) (l m : List ℕ) (p q : ℕ) → Bytes l → Bytes m → number_at (suc w) l p ≡ number_at (suc w) m q
    → (get_or l p 0 ≡ get_or m q 0) × (number_at w l (p + 1) ≡ number_at w m (q + 1))
same_low_byte w l m p q f g e =
    let a = f p in
    let b = g q in
    let x = by_low_byte w l p in
    let y = by_low_byte w m q in
    (omega arith, omega arith)

same_byte : (w : ℕ) (l m : List ℕ) (p q : ℕ) → Bytes l → Bytes m → number_at w l p ≡ number_at w m q → (i : ℕ) → i < w → get_or l (p + i) 0 ≡ get_or m (q + i) 0
same_byte zero l m p q f g e i h = absurd (omega arith)
same_byte (suc w) l m p q f g e zero h =
    let a : p + 0 ≡ p = omega arith in
    let b : q + 0 ≡ q = omega arith in
    rw (a, b) (same_low_byte w l m p q f g e).0
same_byte (suc w) l m p q f g e (suc i) h =
    let a : p + suc i ≡ p + 1 + i = omega arith in
    let b : q + suc i ≡ q + 1 + i = omega arith in
    rw (a, b) (same_byte w l m (p + 1) (q + 1) f g (same_low_byte w l m p q f g e).1 i (omega arith))

-- eight characters from a place on, as one number
pub record EightAt (l : List ℕ) (from r : ℕ) : Type 0 where
  pub is : r ≡ number_at 8 l from
  pub bytes : Bytes l

-- ---- four digits at once

-- four digits as a number of four bytes
pub record FourDigits (r : ℕ) : Type 0 where
  pub first : r % 256 < 16
  pub second : r / 256 % 256 < 16
  pub third : r / 65536 % 256 < 16
  pub fourth : r / 16777216 < 16

-- four characters that spell them
pub record SpelledDigits (found digits : ℕ) : Type 0 where
  pub first : digit (found % 256) ≡ digits % 256
  pub second : digit (found / 256 % 256) ≡ digits / 256 % 256
  pub third : digit (found / 65536 % 256) ≡ digits / 65536 % 256
  pub fourth : digit (found / 16777216) ≡ digits / 16777216

-- the bytes of a number
record FourBytes (n p q r s : ℕ) : Type 0 where
  pub first : n % 256 ≡ p
  pub second : n / 256 % 256 ≡ q
  pub third : n / 65536 % 256 ≡ r
  pub fourth : n / 16777216 ≡ s

four_bytes : (n p q r s : ℕ) → n ≡ p + 256 * (q + 256 * (r + 256 * s)) → p < 256 → q < 256 → r < 256 → FourBytes n p q r s
four_bytes n p q r s e small less least =
    let one : n / 256 ≡ q + 256 * (r + 256 * s) = rw e (omega arith) in
    let two : n / 65536 ≡ r + 256 * s = rw e (omega arith) in
    let three : n / 16777216 ≡ s = rw e (omega arith) in
    record { first = rw e (omega arith); second = rw one (omega arith); third = rw two (omega arith); fourth = three }

digits_of_bytes : {n p q r s : ℕ} → FourBytes n p q r s → p < 16 → q < 16 → r < 16 → s < 16 → FourDigits n
digits_of_bytes b small less least last =
    record { first = rw b.first small; second = rw b.second less; third = rw b.third least; fourth = rw b.fourth last }

-- those of a number that stands among bytes
number_bytes : (l : List ℕ) (i n : ℕ) → Bytes l → n ≡ number_at 4 l i
    → FourBytes n (get_or l i 0) (get_or l (i + 1) 0) (get_or l (i + 1 + 1) 0) (get_or l (i + 1 + 1 + 1) 0)
number_bytes l i n bytes is =
    four_bytes n _ _ _ _ (is ∙ rw (← by_low_byte 3 l i, ← by_low_byte 2 l (i + 1), ← by_low_byte 1 l (i + 1 + 1), byte_at_lem l (i + 1 + 1 + 1)))
    (bytes i) (bytes (i + 1)) (bytes (i + 1 + 1))

-- the mask keeps the lowest bit of each byte
mask_byte : (y m : ℕ) → bit_and y (m * 256 + 1) ≡ bit_and (y / 256) m * 256 + y % 2
mask_byte y m =
    let parts : y ≡ y / 256 * 2 ^ 8 + y % 256 = omega arith in
    let low : bit_and (y % 256) 1 ≡ y % 2 = and_mask (y % 256) 1 ∙ omega arith in
    ap (λ (n : ℕ). bit_and n (m * 2 ^ 8 + 1)) parts ∙ and_block 8 (y / 256) m (y % 256) 1 (omega arith) (omega arith)
    ∙ ap (λ (n : ℕ). bit_and (y / 256) m * 256 + n) low

mask_bytes : (y : ℕ) → bit_and y 16843009 ≡ ((y / 256 / 256 / 256 % 2 * 256 + y / 256 / 256 % 2) * 256 + y / 256 % 2) * 256 + y % 2
mask_bytes y =
    mask_byte y 65793
    ∙ rw (mask_byte (y / 256) 257, mask_byte (y / 256 / 256) 1) (rw (and_mask (y / 256 / 256 / 256) 1))

-- a digit with 6 added passes 16 where it is above 9
letter_bit : (d r : ℕ) → d < 16 → (d + 6 + 256 * r) / 16 % 2 ≡ d / 10
letter_bit d r h =
    split 10 d (λ k. let q : (d + 6 + 256 * r) / 16 ≡ 16 * r + 1 = omega arith in rw q (omega arith))
    (λ k. let q : (d + 6 + 256 * r) / 16 ≡ 16 * r = omega arith in rw q (omega arith))

last_bit : (d : ℕ) → d < 16 → (d + 6) / 16 % 2 ≡ d / 10
last_bit d h = let none : d + 6 + 256 * 0 ≡ d + 6 = omega arith in rw none at (letter_bit d 0 h)

letter_rest : (d r : ℕ) → d < 16 → (d + 6 + 256 * r) / 16 / 256 ≡ r / 16
letter_rest d r h = omega arith

letters_of : (a b c e : ℕ) → a < 16 → b < 16 → c < 16 → e < 16 → (y : ℕ) → y ≡ (a + 6 + 256 * (b + 6 + 256 * (c + 6 + 256 * (e + 6)))) / 16
    → bit_and y 16843009 ≡ ((e / 10 * 256 + c / 10) * 256 + b / 10) * 256 + a / 10
letters_of a b c e ha hb hc he y same =
    let one : y / 256 ≡ (b + 6 + 256 * (c + 6 + 256 * (e + 6))) / 16 = rw same (letter_rest a _ ha) in
    let two : y / 256 / 256 ≡ (c + 6 + 256 * (e + 6)) / 16 = rw one (letter_rest b _ hb) in
    let three : y / 256 / 256 / 256 ≡ (e + 6) / 16 = rw two (letter_rest c _ hc) in
    let first : y % 2 ≡ a / 10 = rw same (letter_bit a _ ha) in
    let second : y / 256 % 2 ≡ b / 10 = rw one (letter_bit b _ hb) in
    let third : y / 256 / 256 % 2 ≡ c / 10 = rw two (letter_bit c _ hc) in
    let fourth : y / 256 / 256 / 256 % 2 ≡ e / 10 = rw three (last_bit e he) in
    mask_bytes y ∙ rw (first, second, third, fourth)

-- such a number with so many for each letter fits 32 bits
module _ (digits y : ℕ) (h : FourDigits digits) where
  pub upper_case_fits : Fits w32 (digits + 808464432 + bit_and y 16843009 * 7)
  upper_case_fits = record { fits = omega (arith, and_le_r y 16843009, h.first, h.second, h.third, h.fourth) }

  pub lower_case_fits : Fits w32 (digits + 808464432 + bit_and y 16843009 * 39)
  lower_case_fits = record { fits = omega (arith, and_le_r y 16843009, h.first, h.second, h.third, h.fourth) }

pub upper_case_letters_fit : (y : ℕ) → Fits w32 (bit_and y 16843009 * 7)
upper_case_letters_fit y = record { fits = omega (arith, and_le_r y 16843009) }

pub lower_case_letters_fit : (y : ℕ) → Fits w32 (bit_and y 16843009 * 39)
lower_case_letters_fit y = record { fits = omega (arith, and_le_r y 16843009) }

module _ (digits : ℕ) (h : FourDigits digits) where
  parts : digits ≡ digits % 256 + 256 * (digits / 256 % 256 + 256 * (digits / 65536 % 256 + 256 * (digits / 16777216)))
  parts = omega arith

  letters_are : bit_and ((digits + 101058054) / 16) 16843009
      ≡ ((digits / 16777216 / 10 * 256 + digits / 65536 % 256 / 10) * 256 + digits / 256 % 256 / 10) * 256 + digits % 256 / 10
  letters_are =
      let more : digits + 101058054
      ≡ digits % 256 + 6 + 256 * (digits / 256 % 256 + 6 + 256 * (digits / 65536 % 256 + 6 + 256 * (digits / 16777216 + 6))) = omega (arith, parts) in
      letters_of _ _ _ _ h.first h.second h.third h.fourth _ (ap (λ (n : ℕ). n / 16) more)

  -- by what each byte of the characters is
  by_bytes : (found p q r s : ℕ) → found ≡ p + 256 * (q + 256 * (r + 256 * s)) → p < 256 → q < 256 → r < 256
      → digit p ≡ digits % 256 → digit q ≡ digits / 256 % 256 → digit r ≡ digits / 65536 % 256 → digit s ≡ digits / 16777216 → SpelledDigits found digits
  by_bytes found p q r s e small less least a b c d =
      let bytes = four_bytes found p q r s e small less least in
      record { first = rw bytes.first a; second = rw bytes.second b; third = rw bytes.third c; fourth = rw bytes.fourth d }

  pub upper_case_spelled : (found : ℕ) → found ≡ digits + 808464432 + bit_and ((digits + 101058054) / 16) 16843009 * 7 → When true (SpelledDigits found digits)
  upper_case_spelled found e =
      record {
        says = λ q. by_bytes found _ _ _ _ (omega (arith, e, parts, letters_are)) (omega (arith, h.first)) (omega (arith, h.second)) (omega (arith, h.third))
            (upper_case_spells _ h.first)
            (upper_case_spells _ h.second)
            (upper_case_spells _ h.third)
            (upper_case_spells _ h.fourth);
      }

  pub lower_case_spelled : (found : ℕ) (answer : Bool) → answer ≡ eqb found (digits + 808464432 + bit_and ((digits + 101058054) / 16) 16843009 * 39)
      → When answer (SpelledDigits found digits)
  lower_case_spelled found answer t =
      record {
        says = λ q.
            let e = eqb-true found _ (sym t ∙ q) in
            by_bytes found _ _ _ _ (omega (arith, e, parts, letters_are)) (omega (arith, h.first)) (omega (arith, h.second)) (omega (arith, h.third))
            (lower_case_spells _ h.first)
            (lower_case_spells _ h.second)
            (lower_case_spells _ h.third)
            (lower_case_spells _ h.fourth);
      }

-- ---- a line's address and type, and a byte

-- the address that is due, and type 00
pub record AddressDue (l : List ℕ) (at : ℕ) : Type 0 where
  pub high : SpellsByte l 3 (at / 256)
  pub low : SpellsByte l 5 (at % 256)
  pub kind : SpellsByte l 7 0

-- two characters that are known
spells : (l : List ℕ) (i high low byte : ℕ) → digit (get_or l i 0) ≡ high → digit (get_or l (i + 1) 0) ≡ low → high < 16 → low < 16
    → byte ≡ high * 16 + low → SpellsByte l i byte
unfolding byte_at
spells l i high low byte e f h k s = record { high = rw e h; low = rw f k; is = rw (e, f) s }

module _ (at : ℕ) (h : at < 4096) where
  address_bytes : FourBytes (at / 256 * 256 + at / 16 % 16 * 65536 + at % 16 * 16777216) 0 (at / 256) (at / 16 % 16) (at % 16)
  address_bytes = four_bytes _ 0 (at / 256) (at / 16 % 16) (at % 16) (omega arith) (omega arith) (omega arith) (omega arith)

  pub address_digits : FourDigits (at / 256 * 256 + at / 16 % 16 * 65536 + at % 16 * 16777216)
  address_digits = digits_of_bytes address_bytes (omega arith) (omega arith) (omega arith) (omega arith)

  pub address_is_due : (l : List ℕ) → Bytes l → (kind : ℕ) → kind ≡ number_at 2 l 7 → kind ≡ 12336 → (found : ℕ) → found ≡ number_at 4 l 3 → (answer : Bool)
      → When answer (SpelledDigits found (at / 256 * 256 + at / 16 % 16 * 65536 + at % 16 * 16777216)) → When answer (AddressDue l at)
  unfolding digit
  address_is_due l bytes kind e f found is answer w =
      let b = address_bytes in
      let c7 = bytes 7 in
      let c8 = bytes 8 in
      let two : get_or l 7 0 + 256 * get_or l 8 0 ≡ 12336 = sym (rw (← by_low_byte 1 l 7, byte_at_lem l 8)) ∙ sym e ∙ f in
      let seventh : get_or l 7 0 ≡ 48 = omega arith in
      let eighth : get_or l 8 0 ≡ 48 = omega arith in
      let c = number_bytes l 3 found bytes is in
      record {
        says = λ q.
            let s = w.says q in
            record {
              high = spells l 3 0 (at / 256) (at / 256) (rw (c.first, b.first) at s.first) (rw (c.second, b.second) at s.second)
                  (omega arith) (omega arith) (omega arith);
              low = spells l 5 (at / 16 % 16) (at % 16) (at % 256) (rw (c.third, b.third) at s.third) (rw (c.fourth, b.fourth) at s.fourth)
                  (omega arith) (omega arith) (omega arith);
              kind = spells l 7 0 0 0 (rw seventh) (rw eighth) (omega arith) (omega arith) refl;
            };
      }

module _ (byte : ℕ) (h : byte < 256) where
  byte_bytes : FourBytes (byte / 16 + byte % 16 * 256) (byte / 16) (byte % 16) 0 0
  byte_bytes = four_bytes _ (byte / 16) (byte % 16) 0 0 (omega arith) (omega arith) (omega arith) (omega arith)

  pub byte_digits : FourDigits (byte / 16 + byte % 16 * 256)
  byte_digits = digits_of_bytes byte_bytes (omega arith) (omega arith) (omega arith) (omega arith)

  pub byte_is_due : (l : List ℕ) (from found : ℕ) → Bytes l → found ≡ number_at 2 l from
      → (answer : Bool) → When answer (SpelledDigits (found + 808452096) (byte / 16 + byte % 16 * 256)) → When answer (SpellsByte l from byte)
  byte_is_due l from found bytes is answer w =
      let b = byte_bytes in
      let pair : found ≡ get_or l from 0 + 256 * get_or l (from + 1) 0 = is ∙ rw (← by_low_byte 1 l from, byte_at_lem l (from + 1)) in
      let c = four_bytes (found + 808452096) (get_or l from 0) (get_or l (from + 1) 0) 48 48 (omega (arith, pair)) (bytes from) (bytes (from + 1)) (omega arith) in
      record {
        says = λ q.
            let s = w.says q in
            spells l from (byte / 16) (byte % 16) byte (rw (c.first, b.first) at s.first) (rw (c.second, b.second) at s.second)
            (omega arith) (omega arith) (omega arith);
      }

-- ---- a usual start

-- `:100`
pub record UsualStart (l : List ℕ) : Type 0 where
  pub colon : get_or l 0 0 ≡ 58
  pub first : get_or l 1 0 ≡ 49
  pub second : get_or l 2 0 ≡ 48

pub usual_start : (l : List ℕ) (n : ℕ) → Bytes l → n ≡ number_at 4 l 0 → n ≡ 808464698 → UsualStart l
usual_start l n bytes is e =
    let there = number_bytes l 0 n bytes is in
    let due = four_bytes n 58 49 48 48 (e ∙ refl) (omega arith) (omega arith) (omega arith) in
    record { colon = sym there.first ∙ due.first; first = sym there.second ∙ due.second; second = sym there.third ∙ due.third }

-- ---- the end record

abbrev pub end_record : List ℕ
end_record = 58 ∷ 48 ∷ 48 ∷ 48 ∷ 48 ∷ 48 ∷ 48 ∷ 48 ∷ 49 ∷ 70 ∷ 70 ∷ 10 ∷ []

-- whether each is a byte
small : List ℕ → Bool
small [] = true
small (b ∷ l) = ltb b 256 && small l

small_bytes : (l : List ℕ) → small l ≡ true → Bytes l
unfolding small
small_bytes [] e = bytes_nil
small_bytes (b ∷ l) e =
    bytes_cons b l (ltb-true b 256 (both_left (ltb b 256) (small l) e)) (small_bytes l (both_right (ltb b 256) (small l) e))

end_bytes : Bytes end_record
unfolding small
end_bytes = small_bytes end_record refl

-- a line of as many characters, whose first eight and last eight are the end record's
module _ (l : List ℕ) (long : length l ≡ 12) (start rest first last : ℕ) (a : EightAt l 0 start) (b : EightAt l 4 rest)
    (f : first ≡ number_at 8 (58 ∷ 48 ∷ 48 ∷ 48 ∷ 48 ∷ 48 ∷ 48 ∷ 48 ∷ []) 0) (g : last ≡ number_at 8 (48 ∷ 48 ∷ 48 ∷ 48 ∷ 49 ∷ 70 ∷ 70 ∷ 10 ∷ []) 0)
    (s : start ≡ first) (t : rest ≡ last) where
  at_place : (i : ℕ) → i < length l → get_or l i 0 ≡ get_or end_record i 0
  unfolding number_at little_endian
  at_place i h =
      split 8 i
      (λ k.
      let e : 4 + (i - 4) ≡ i = omega arith in
      rw e at (same_byte 8 l end_record 4 4 b.bytes end_bytes (sym b.is ∙ t ∙ g) (i - 4) (omega arith)))
      (λ k.
      let e : 0 + i ≡ i = omega arith in
      rw e at (same_byte 8 l end_record 0 0 a.bytes end_bytes (sym a.is ∙ s ∙ f) i k))

  pub end_is : When true (l ≡ end_record)
  end_is = record { says = λ q. ext_get_or 0 l end_record long at_place }

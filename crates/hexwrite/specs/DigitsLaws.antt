-- The characters of numbers below 16, the table of them, and bytes written.
use Rattle.std.specs.Prelude.{◌≡◌, ℕ, ◌+◌, ◌*◌, ◌/◌, ◌%◌, ◌<◌, ◌≤◌, List, [], ◌∷◌, ◌++◌, length, take, slice_index, slice_set}
use Rattle.std.proofs.Math.Path.{refl}
use Rattle.std.proofs.Common.{◌∙◌, arith, add-one, lt-ltb, le-ltb, below_more, length-take, get_or-set_same, get_or-set_other, take-suc, take_all}
use Rattle.std.proofs.Math.ListN.{length-set}
use Rattle.laws.specs.BufferWrites.{WrittenAt, written_nothing, written_character, written_then}
use Rattle.hextext.specs.Written.{hex_digit, spell}
use Rattle.hextext.specs.WrittenLaws.{length_spell}

-- ---- a digit

module _ (n : ℕ) where
  pub digit_decimal : n < 10 → 48 + n ≡ hex_digit n
  unfolding hex_digit
  digit_decimal h = rw (lt-ltb n 10 h)

  pub digit_letter : 10 ≤ n → 55 + n ≡ hex_digit n
  unfolding hex_digit
  digit_letter h = rw (le-ltb n 10 h)

-- ---- the table

-- the first i of its 16 entries are the characters of their numbers
pub record Digits (t : List ℕ) (i : ℕ) : Type 0 where
  pub long : length t ≡ 16
  pub below : (n : ℕ) → n < i → slice_index t n ≡ hex_digit n

pub digits_first : (t : List ℕ) → length t ≡ 16 → Digits t 0
digits_first t e = record { long = e; below = λ n h. absurd (omega arith) }

module _ (t : List ℕ) (i : ℕ) (h : Digits t i) where
  pub digits_more : (c : ℕ) → i < 16 → c ≡ hex_digit i → Digits (slice_set t i c) (i + 1)
  digits_more c k e =
      record {
        long = length-set t i c ∙ h.long;
        below = below_more _ i (λ n m. get_or-set_other t i n c 0 (λ q. omega arith) ∙ h.below n m)
            (get_or-set_same t i c 0 (omega (arith, h.long)) ∙ e);
      }

  pub digits_end : 16 ≤ i → Digits t 16
  digits_end k = record { long = h.long; below = λ n m. h.below n (omega arith) }

-- ---- a byte's characters

module _ (at b : ℕ) (d : List ℕ) (h : at + 1 < length d) where
  wrote_pair : (u v : ℕ) → u ≡ hex_digit (b / 16) → v ≡ hex_digit (b % 16) → WrittenAt at (spell (b ∷ [])) d (slice_set (slice_set d at u) (at + 1) v)
  unfolding spell
  wrote_pair u v e f =
      rw (← e, ← f)
      (written_then at (at + 1) (u ∷ []) (v ∷ []) d (slice_set d at u) (slice_set (slice_set d at u) (at + 1) v)
      (written_character at u d (omega arith)) refl (written_character (at + 1) v (slice_set d at u) (simp length-set h)))

  pub wrote_byte : (t : List ℕ) → Digits t 16 → b < 256 → WrittenAt at (spell (b ∷ [])) d (slice_set (slice_set d at (slice_index t (b / 16))) (at + 1) (slice_index t (b % 16)))
  wrote_byte t s k = wrote_pair (slice_index t (b / 16)) (slice_index t (b % 16)) (s.below (b / 16) (omega arith)) (s.below (b % 16) (omega arith))

-- ---- the characters of bytes in a row

pub spell_append : (l m : List ℕ) → spell (l ++ m) ≡ spell l ++ spell m
unfolding spell
spell_append [] m = refl
spell_append (b ∷ l) m = rw (spell_append l m)

-- the first i of them are written
pub record WritingBytes (at : ℕ) (x d₀ d : List ℕ) (i : ℕ) : Type 0 where
  pub within : i ≤ length x
  pub kept : length d ≡ length d₀
  pub wrote : WrittenAt at (spell (take i x)) d₀ d

pub writing_bytes_first : (at : ℕ) (x d : List ℕ) → WritingBytes at x d d 0
unfolding spell
writing_bytes_first at x d = record { within = omega arith; kept = refl; wrote = written_nothing at d }

module _ (at : ℕ) (x d₀ d : List ℕ) (i : ℕ) (h : WritingBytes at x d₀ d i) where
  pub writing_bytes_more : (d' : List ℕ) → i < length x → length d' ≡ length d → WrittenAt (at + i * 2) (spell (slice_index x i ∷ [])) d d'
      → WritingBytes at x d₀ d' (i + 1)
  writing_bytes_more d' k same w =
      let e : at + i * 2 ≡ at + length (spell (take i x)) = omega (arith, length_spell (take i x), length-take i x) in
      record {
        within = omega arith;
        kept = same ∙ h.kept;
        wrote = rw (add-one i, take-suc x i 0 k, spell_append (take i x) (slice_index x i ∷ []))
            (written_then at (at + i * 2) (spell (take i x)) (spell (slice_index x i ∷ [])) d₀ d d' h.wrote e w);
      }

  -- the two characters written one after the other
  module _ (k : i < length x) (room : at + length x * 2 ≤ length d₀) (u : ℕ) where
    pub second_fits : at + i * 2 + 1 < length (slice_set d (at + i * 2) u)
    second_fits = simp length-set (omega (arith, h.kept))

    pub writing_bytes_pair : (v : ℕ) → u ≡ hex_digit (slice_index x i / 16) → v ≡ hex_digit (slice_index x i % 16)
        → WritingBytes at x d₀ (slice_set (slice_set d (at + i * 2) u) (at + i * 2 + 1) v) (i + 1)
    writing_bytes_pair v e f =
        writing_bytes_more (slice_set (slice_set d (at + i * 2) u) (at + i * 2 + 1) v) k (simp length-set)
        (wrote_pair (at + i * 2) (slice_index x i) d (omega (arith, h.kept)) u v e f)

  pub writing_bytes_end : length x ≤ i → WrittenAt at (spell x) d₀ d
  writing_bytes_end k = rw (take_all i x k) at h.wrote

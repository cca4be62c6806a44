-- A character's value by the table, and the byte that a pair of characters spells by it.
use Rattle.std.specs.Prelude.{◌≡◌, Bool, false, cond, List, ℕ, ◌+◌, ◌*◌, ◌≤◌, ◌<◌, T, ltb, eqb, length, drop, get_or}
use Rattle.std.proofs.Common.{◌∙◌, arith, lt-ltb, le-ltb, eqb→eq, Fits}
use Rattle.std.specs.Int.{w64}
use Rattle.laws.specs.Cases.{split}
use Rattle.laws.specs.TableTests.{every, entry}
use Rattle.hextext.specs.Record.{digit, all_digits}
use Rattle.hextext.proofs.RecordLaws.{byte_at}
use Rattle.hexdigits.specs.DigitsLaws.{SpellsByte, spells_digits, spells_none}

-- ---- a character

-- in place of a digit's value, and above what a record's six parts add up to
abbrev pub no_digit : ℕ
no_digit = 2048

unfoldable pub value_of : ℕ → ℕ
value_of c = cond (ltb (digit c) 16) (digit c) no_digit

module _ (c : ℕ) where
  value_yes : digit c < 16 → value_of c ≡ digit c
  unfolding value_of
  value_yes h = rw (lt-ltb (digit c) 16 h)

  value_no : 16 ≤ digit c → value_of c ≡ no_digit
  unfolding value_of
  value_no h = rw (le-ltb (digit c) 16 h)

  value_below : value_of c < no_digit → digit c < 16
  value_below h = split 16 (digit c) (λ k. omega (arith, value_no k)) (λ k. k)

-- r is this value
pub record DigitValue (c r : ℕ) : Type 0 where
  pub is : r ≡ value_of c
  pub bound : r ≤ no_digit

-- a table of these values
pub record DigitValues (t : List ℕ) : Type 0 where
  pub at : (c : ℕ) → c < 256 → get_or t c 0 ≡ value_of c

unfoldable pub is_value : ℕ → ℕ → Bool
is_value c x = eqb x (value_of c)

pub digit_values_by_test : (t : List ℕ) → length t ≡ 256 → T (every is_value 0 t) → DigitValues t
unfolding is_value
digit_values_by_test t e passed = record { at = λ c h. eqb→eq (get_or t c 0) (value_of c) (entry is_value t passed c (omega arith)) }

module _ (t : List ℕ) (c : ℕ) (v : DigitValues t) (h : c < 256) where
  value_bound : get_or t c 0 ≤ no_digit
  value_bound = split 16 (digit c) (λ k. omega (arith, v.at c h, value_no c k)) (λ k. omega (arith, v.at c h, value_yes c k))

  pub value_fits : Fits w64 (get_or t c 0)
  value_fits = record { fits = omega (arith, value_bound) }

  pub value_in_table : (r : ℕ) → r ≡ get_or t c 0 → DigitValue c r
  value_in_table r e = record { is = e ∙ v.at c h; bound = omega (arith, value_bound) }

-- ---- a pair

-- b is the byte that the pair at i spells, or no_digit and more where it has a character that is no digit
pub record Pair (l : List ℕ) (i b : ℕ) : Type 0 where
  pub is : b ≡ value_of (get_or l i 0) * 16 + value_of (get_or l (i + 1) 0)
  pub bound : b ≤ no_digit * 17

module _ (l : List ℕ) (i b : ℕ) (p : Pair l i b) where
  pub pair_small : digit (get_or l i 0) < 16 → digit (get_or l (i + 1) 0) < 16 → b < 256
  pair_small h k = omega (arith, p.is, value_yes (get_or l i 0) h, value_yes (get_or l (i + 1) 0) k)

  pair_spells : b < no_digit → SpellsByte l i b
  unfolding byte_at
  pair_spells h =
      let high = value_below (get_or l i 0) (omega (arith, p.is)) in
      let low = value_below (get_or l (i + 1) 0) (omega (arith, p.is)) in
      record { high = high; low = low; is = omega (arith, p.is, value_yes (get_or l i 0) high, value_yes (get_or l (i + 1) 0) low) }

  pub pair_below : b < no_digit → b < 256
  pair_below h = let s = pair_spells h in pair_small s.high s.low

  pub pair_byte : b < 256 → b ≡ byte_at l i
  pair_byte h = (pair_spells (omega arith)).is

  pub pair_digits : i + 1 < length l → b < 256 → all_digits (drop i l) ≡ all_digits (drop (i + 2) l)
  pair_digits h k = spells_digits l i h (pair_spells (omega arith))

  pub pair_none : i + 1 < length l → 256 ≤ b → all_digits (drop i l) ≡ false
  pair_none h k = spells_none l i h (λ q z. let f = pair_small q z in omega arith)

  pub none_after_pair : i + 1 < length l → all_digits (drop (i + 2) l) ≡ false → all_digits (drop i l) ≡ false
  none_after_pair h e = split 256 b (pair_none h) (λ k. pair_digits h k ∙ e)

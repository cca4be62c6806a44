-- What is printed on a page, words after words, and the digits of a number.
use Rattle.std.specs.Prelude.{◌≡◌, List, [], ◌∷◌, ◌++◌, ℕ, zero, suc, ◌+◌, ◌-◌, ◌*◌, ◌/◌, ◌%◌, ◌^◌, ◌≤◌, ◌<◌, length, take}
use Rattle.std.proofs.Common.{append_assoc, arith, lt-ltb, le-ltb}
use Rattle.std.proofs.Math.Nat.{one-le-pow, pow-le-pow_right}
use Rattle.std.proofs.Math.Numerals.{unary_clauses}
use Rattle.io.specs.Counts.{IsPrefixLen}
use Rattle.io.specs.Digits.{hex_digit_ascii, last_digits, IsDigitCount}
use Rattle.laws.specs.Cases.{split}
use Rattle.laws.specs.Characters.{characters}
use Rattle.display.specs.declared.words.Page.{Page}
use Rattle.display.specs.Words.{printed, digit, decimal_in, decimal, field, pair, two_digits, number_room}

pub printed_then : (page a b : Page) (p q : List ℕ) → printed a ≡ printed page ++ p → printed b ≡ printed a ++ q → printed b ≡ printed page ++ (p ++ q)
printed_then page a b p q e f = rw (f, e) (append_assoc (printed page) p q)

pub four_printed : (page a b c d : Page) (p q s t : List ℕ)
    → printed a ≡ printed page ++ p → printed b ≡ printed a ++ q → printed c ≡ printed b ++ s → printed d ≡ printed c ++ t
    → printed d ≡ printed page ++ (p ++ q ++ s ++ t)
four_printed page a b c d p q s t e f g h = rw (h, g, f, e) (simp append_assoc)

-- ---- the digits of a number

digit_of : (n : ℕ) → n < 10 → hex_digit_ascii n ≡ digit n
digit_of n h = rw (lt-ltb n 10 h)

module _ (n k : ℕ) (f : IsDigitCount 10 1 n (suc (suc k))) where
  high : n < 10 ^ k * 10 * 10
  high = simp unary_clauses at f.1

  low : 10 ^ k * 10 ≤ n
  low = simp unary_clauses at (f.2 (omega arith))

  ten : 10 ≤ n
  ten = omega (arith, low, one-le-pow k 10 (omega arith))

  fewer : IsDigitCount 10 1 (n / 10) (suc k)
  fewer = (omega arith, simp unary_clauses (omega (arith, high)), λ h. simp unary_clauses (omega (arith, low)))

-- the fewest digits are the number in decimal
fewest_are : (k n most : ℕ) → IsDigitCount 10 1 n (suc k) → n < suc most → last_digits 10 (suc k) n ≡ decimal_in (suc most) n
unfolding decimal_in
fewest_are zero n most f h =
    let small : n < 10 = omega (arith, f.1) in
    let same : n % 10 ≡ n = omega arith in
    rw (lt-ltb n 10 small, same, digit_of n small)
fewest_are (suc k) n zero f h = absurd (omega (arith, ten n k f))
fewest_are (suc k) n (suc most) f h =
    rw (le-ltb n 10 (ten n k f), digit_of (n % 10) (omega arith), fewest_are k (n / 10) most (fewer n k f) (omega (arith, ten n k f)))

fewest_decimal : (k n : ℕ) → IsDigitCount 10 1 n k → last_digits 10 k n ≡ decimal n
fewest_decimal zero n f = absurd (omega (arith, f.0))
fewest_decimal (suc k) n f = fewest_are k n n f (omega arith)

-- a number of 64 bits has 20 digits at most
few_digits : (k n : ℕ) → IsDigitCount 10 1 n k → n < 2 ^ 64 → k ≤ number_room
few_digits k n f h =
    split k 20 (λ few. few)
    (λ (many : 20 < k). absurd (omega (arith, f.2 (omega arith), pow-le-pow_right {n = 10} (omega arith) {i = 20} {j = k - 1} (omega arith))))

module _ (k n : ℕ) (out : List ℕ) (c : IsPrefixLen k out) (f : IsDigitCount 10 1 n k) (h : n < 2 ^ 64) where
  pub digits_fit : length (take k out) ≤ number_room
  digits_fit = omega (arith, c.1, few_digits k n f h)

  pub number_printed : (page r : Page) → take k out ≡ last_digits 10 k n
      → printed r ≡ printed page ++ take k out → r.end ≡ page.end + length (take k out)
      → (printed r ≡ printed page ++ decimal n) × (r.end ≤ page.end + number_room)
  number_printed page r e p q = (rw (← fewest_decimal k n f, ← e) p, omega (arith, digits_fit))

module _ (page a b : Page) where
  pub field_printed : (words : List ℕ) (n : ℕ)
      → printed a ≡ printed page ++ words → printed b ≡ printed a ++ decimal n → printed b ≡ printed page ++ field words n
  unfolding field
  field_printed words n = printed_then page a b words (decimal n)

  pub pair_printed : (words : List ℕ) (first second : ℕ)
      → printed a ≡ printed page ++ field words first → printed b ≡ printed a ++ field (characters " ") second
      → printed b ≡ printed page ++ pair words first second
  unfolding pair
  pair_printed words first second = printed_then page a b (field words first) (field (characters " ") second)

  pub two_digits_printed : (n : ℕ) → printed a ≡ printed page ++ field (characters "-") (n / 10) → printed b ≡ printed a ++ digit (n % 10) ∷ []
      → printed b ≡ printed page ++ two_digits n
  unfolding two_digits
  two_digits_printed n = printed_then page a b (field (characters "-") (n / 10)) (digit (n % 10) ∷ [])

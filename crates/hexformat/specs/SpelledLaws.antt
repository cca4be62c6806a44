-- The digits and bytes of the format are those that the reader's definitions see.
use Rattle.std.specs.Prelude.{◌≡◌, refl, true, ◌&&◌, List, [], ◌∷◌, ℕ, zero, suc, ◌+◌, ◌-◌, ◌*◌, ◌/◌, ◌%◌, ◌≤◌, ◌<◌, ltb, length, get_or}
use Rattle.std.proofs.Common.{arith, lt-ltb, ltb-true}
use Rattle.laws.specs.Cases.{split, both_left, both_right}
use Rattle.hextext.specs.Record.{digit, all_digits, bytes_of}
use Rattle.hextext.proofs.RecordLaws.{digit_decimal, digit_upper_case, digit_lower_case, digit_low, digit_between, digit_gap, digit_high}
use Rattle.hexformat.specs.Format.{Digit, decimal, upper_case, lower_case, Spelled, nothing, pair}

digit_small : {c n : ℕ} → Digit c n → n < 16
digit_small (decimal h e) = omega arith
digit_small (upper_case g h e) = h
digit_small (lower_case g h e) = h

pub digit_value : {c n : ℕ} → Digit c n → digit c ≡ n
digit_value {c} {n} (decimal h e) = omega (arith, digit_decimal c (omega arith) (omega arith))
digit_value {c} {n} (upper_case g h e) = omega (arith, digit_upper_case c (omega arith) (omega arith))
digit_value {c} {n} (lower_case g h e) = omega (arith, digit_lower_case c (omega arith) (omega arith))

-- a character that has a value is a digit of it
pub digit_of : (c n : ℕ) → digit c ≡ n → n < 16 → Digit c n
digit_of c n e h =
    split 48 c
    (λ (a : 48 ≤ c).
    split c 57 (λ (b : c ≤ 57). let q = digit_decimal c a b in decimal (omega arith) (omega arith))
    (λ (b : 57 < c).
    split 65 c
    (λ (d : 65 ≤ c).
    split c 70 (λ (f : c ≤ 70). let q = digit_upper_case c d f in upper_case (omega arith) (omega arith) (omega arith))
    (λ (f : 70 < c).
    split 97 c
    (λ (g : 97 ≤ c).
    split c 102 (λ (i : c ≤ 102). let q = digit_lower_case c g i in lower_case (omega arith) (omega arith) (omega arith))
    (λ (i : 102 < c). absurd (omega (arith, digit_high c i))))
    (λ (g : c < 97). absurd (omega (arith, digit_gap c f g)))))
    (λ (d : c < 65). absurd (omega (arith, digit_between c b d)))))
    (λ (a : c < 48). absurd (omega (arith, digit_low c a)))

pub spelled_digits : {b l : List ℕ} → Spelled b l → all_digits l ≡ true
unfolding all_digits
spelled_digits nothing = refl
spelled_digits (pair {byte = b} {high = c} {low = d} h l s) =
    rw (digit_value h, digit_value l, lt-ltb (b / 16) 16 (digit_small h), lt-ltb (b % 16) 16 (digit_small l)) (spelled_digits s)

pub spelled_bytes : {b l : List ℕ} → Spelled b l → bytes_of l ≡ b
unfolding bytes_of
spelled_bytes nothing = refl
spelled_bytes (pair {byte = b} h l s) =
    let e : b / 16 * 16 + b % 16 ≡ b = omega arith in
    rw (digit_value h, digit_value l, e, spelled_bytes s)

pub spelled_length : {b l : List ℕ} → Spelled b l → length l ≡ length b * 2
spelled_length nothing = refl
spelled_length (pair h l s) = omega (arith, spelled_length s)

-- digits in pairs spell their bytes
pub spelled_of : (l : List ℕ) (n : ℕ) → all_digits l ≡ true → length l ≡ n * 2 → Spelled (bytes_of l) l
unfolding all_digits bytes_of
spelled_of [] n e h = nothing
spelled_of (c ∷ []) n e h = absurd (omega arith)
spelled_of (c ∷ d ∷ l) n e h =
    let p = ltb-true (digit c) 16 (both_left (ltb (digit c) 16) _ e) in
    let r = both_right (ltb (digit c) 16) (ltb (digit d) 16 && all_digits l) e in
    let q = ltb-true (digit d) 16 (both_left (ltb (digit d) 16) (all_digits l) r) in
    pair (digit_of c ((digit c * 16 + digit d) / 16) (omega arith) (omega arith)) (digit_of d ((digit c * 16 + digit d) % 16) (omega arith) (omega arith))
    (spelled_of l (n - 1) (both_right (ltb (digit d) 16) (all_digits l) r) (omega arith))

-- what is spelled is bytes
pub spelled_small : {b l : List ℕ} → Spelled b l → (i : ℕ) → get_or b i 0 < 256
spelled_small nothing i = omega arith
spelled_small (pair h l s) zero = let k = digit_small h in omega arith
spelled_small (pair h l s) (suc i) = spelled_small s i

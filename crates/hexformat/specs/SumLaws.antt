-- The sum of the bytes that digits spell, as a function of one of the digits, or of two side by side.
use Rattle.std.specs.Prelude.{◌≡◌, refl, ◌⊎◌, List, [], ◌∷◌, ◌++◌, ℕ, ◌+◌, ◌-◌, ◌*◌, ◌%◌, ◌/◌, ◌≤◌, ◌<◌, length}
use Rattle.std.proofs.Common.{inl, inr, ⊎_elim, arith}
use Rattle.laws.specs.Cases.{split}
use Rattle.laws.specs.Sums.{total}
use Rattle.hextext.specs.Record.{digit, bytes_of}

-- how much a digit after the digits u counts
weight : List ℕ → ℕ
weight [] = 16
weight (a ∷ []) = 1
weight (a ∷ b ∷ u) = weight u

-- what the digits u and w count without a digit between them
others : List ℕ → List ℕ → ℕ
others [] [] = 0
others [] (b ∷ w) = digit b + total (bytes_of w)
others (a ∷ []) w = digit a * 16 + total (bytes_of w)
others (a ∷ b ∷ u) w = (digit a * 16 + digit b) + others u w

sum_is : (u w : List ℕ) (c n : ℕ) → length (u ++ c ∷ w) ≡ n * 2 → total (bytes_of (u ++ c ∷ w)) ≡ others u w + digit c * weight u
unfolding weight others total bytes_of
sum_is [] [] c n e = absurd (omega arith)
sum_is [] (b ∷ w) c n e = omega arith
sum_is (a ∷ []) w c n e = omega arith
sum_is (a ∷ b ∷ u) w c n e = let e' : length (u ++ c ∷ w) ≡ (n - 1) * 2 = omega arith in omega (arith, sum_is u w c (n - 1) e')

weight_is : (u : List ℕ) → (weight u ≡ 1) ⊎ (weight u ≡ 16)
unfolding weight
weight_is [] = inr refl
weight_is (a ∷ []) = inl refl
weight_is (a ∷ b ∷ u) = weight_is u

-- `omega` has no case split on the two quotients, so they are compared first
same_remainder : (s a b : ℕ) → a < 256 → b < 256 → (s + a) % 256 ≡ 0 → (s + b) % 256 ≡ 0 → a ≡ b
same_remainder s a b h h' e e' =
    split ((s + a) / 256) ((s + b) / 256)
    (λ (k : (s + a) / 256 ≤ (s + b) / 256). split ((s + b) / 256) ((s + a) / 256)
    (λ (l : (s + b) / 256 ≤ (s + a) / 256). omega arith)
    (λ (l : (s + a) / 256 < (s + b) / 256). absurd (omega arith)))
    (λ (k : (s + b) / 256 < (s + a) / 256). absurd (omega arith))

same_value : (s a b m : ℕ) → (m ≡ 1) ⊎ (m ≡ 16) → a < 16 → b < 16 → (s + a * m) % 256 ≡ 0 → (s + b * m) % 256 ≡ 0 → a ≡ b
same_value s a b m w h h' e e' =
    ⊎_elim
    (λ (q : m ≡ 1). omega (arith, same_remainder s (a * 1) (b * 1) (omega arith) (omega arith) (rw q at e) (rw q at e')))
    (λ (q : m ≡ 16). omega (arith, same_remainder s (a * 16) (b * 16) (omega arith) (omega arith) (rw q at e) (rw q at e')))
    w

-- where both sums are 0 modulo 256, a digit between u and w has one value
pub same_digit : (u w : List ℕ) (b c n : ℕ) → digit b < 16 → digit c < 16 → length (u ++ b ∷ w) ≡ n * 2 → length (u ++ c ∷ w) ≡ n * 2
    → total (bytes_of (u ++ b ∷ w)) % 256 ≡ 0 → total (bytes_of (u ++ c ∷ w)) % 256 ≡ 0 → digit b ≡ digit c
same_digit u w b c n h k l m e f =
    same_value (others u w) (digit b) (digit c) (weight u) (weight_is u) h k (rw (sum_is u w b n l) at e) (rw (sum_is u w c n m) at f)

pub same_bytes : (u w : List ℕ) (b c : ℕ) → digit b ≡ digit c → bytes_of (u ++ b ∷ w) ≡ bytes_of (u ++ c ∷ w)
unfolding bytes_of
same_bytes [] [] b c e = refl
same_bytes [] (d ∷ w) b c e = rw e
same_bytes (a ∷ []) w b c e = rw e
same_bytes (a ∷ d ∷ u) w b c e = rw (same_bytes u w b c e)

-- ---- two digits side by side

-- what the digits u and w count without two digits between them
around : List ℕ → List ℕ → ℕ
around [] w = total (bytes_of w)
around (a ∷ []) [] = 0
around (a ∷ []) (d ∷ w) = digit a * 16 + digit d + total (bytes_of w)
around (a ∷ b ∷ u) w = (digit a * 16 + digit b) + around u w

sum_of_two : (u w : List ℕ) (b c n : ℕ) → length (u ++ b ∷ c ∷ w) ≡ n * 2
    → total (bytes_of (u ++ b ∷ c ∷ w)) ≡ around u w + (digit b * weight u + digit c * (17 - weight u))
unfolding weight around total bytes_of
sum_of_two [] w b c n e = omega arith
sum_of_two (a ∷ []) [] b c n e = absurd (omega arith)
sum_of_two (a ∷ []) (d ∷ w) b c n e = omega arith
sum_of_two (a ∷ d ∷ u) w b c n e = let e' : length (u ++ b ∷ c ∷ w) ≡ (n - 1) * 2 = omega arith in omega (arith, sum_of_two u w b c (n - 1) e')

same_pair : (s b c m : ℕ) → (m ≡ 1) ⊎ (m ≡ 16) → b < 16 → c < 16
    → (s + (b * m + c * (17 - m))) % 256 ≡ 0 → (s + (c * m + b * (17 - m))) % 256 ≡ 0 → b ≡ c
same_pair s b c m w h h' e e' =
    ⊎_elim
    (λ (q : m ≡ 1). omega (arith, same_remainder s (b * 1 + c * 16) (c * 1 + b * 16) (omega arith) (omega arith) (rw q at e) (rw q at e')))
    (λ (q : m ≡ 16). omega (arith, same_remainder s (b * 16 + c * 1) (c * 16 + b * 1) (omega arith) (omega arith) (rw q at e) (rw q at e')))
    w

-- where the sum is 0 modulo 256 with b before c and with c before b, they have one value
pub same_either_way : (u w : List ℕ) (b c n : ℕ) → digit b < 16 → digit c < 16 → length (u ++ b ∷ c ∷ w) ≡ n * 2 → length (u ++ c ∷ b ∷ w) ≡ n * 2
    → total (bytes_of (u ++ b ∷ c ∷ w)) % 256 ≡ 0 → total (bytes_of (u ++ c ∷ b ∷ w)) % 256 ≡ 0 → digit b ≡ digit c
same_either_way u w b c n h k l m e f =
    same_pair (around u w) (digit b) (digit c) (weight u) (weight_is u) h k (rw (sum_of_two u w b c n l) at e) (rw (sum_of_two u w c b n m) at f)

pub same_bytes_exchanged : (u w : List ℕ) (b c : ℕ) → digit b ≡ digit c → bytes_of (u ++ b ∷ c ∷ w) ≡ bytes_of (u ++ c ∷ b ∷ w)
unfolding bytes_of
same_bytes_exchanged [] w b c e = rw e
same_bytes_exchanged (a ∷ []) [] b c e = rw e
same_bytes_exchanged (a ∷ []) (d ∷ w) b c e = rw e
same_bytes_exchanged (a ∷ d ∷ u) w b c e = rw (same_bytes_exchanged u w b c e)

-- Characters that a line does not hold.
use Rattle.std.specs.Prelude.{◌≡◌, Bool, true, false, cond, List, [], ◌∷◌, ◌++◌, ℕ, zero, suc, ◌-◌, ◌<◌, eqb, length, take, get_or}
use Rattle.std.proofs.Common.{arith, ne_eqb, eqb-true}
use Rattle.std.proofs.Math.ListN.{get_or-eq_default}
use Rattle.laws.specs.Cases.{split, decide}
use Rattle.laws.specs.Lists.{ends_with}
use Rattle.hextext.specs.Record.{all_digits, formed}
use Rattle.hextext.proofs.RecordLaws.{digit_low, all_digits_at, formed_long, formed_colon, formed_digits}
use Rattle.hextext.specs.Text.{bare}

-- no place of the list holds c
abbrev pub Without : ℕ → List ℕ → Type 0
Without c l = (i : ℕ) → get_or l i 0 ≡ c → ⊥

pub without_more : (c b : ℕ) (l : List ℕ) → (b ≡ c → ⊥) → Without c l → Without c (b ∷ l)
without_more c b l n w zero e = n e
without_more c b l n w (suc i) e = w i e

pub without_append : (c : ℕ) (l m : List ℕ) → Without c l → Without c m → Without c (l ++ m)
without_append c [] m v w i e = w i e
without_append c (b ∷ l) m v w zero e = v 0 e
without_append c (b ∷ l) m v w (suc i) e = without_append c l m (λ j. v (suc j)) w i e

pub without_one : (c b : ℕ) → 0 < c → (b ≡ c → ⊥) → Without c (b ∷ [])
without_one c b h n = without_more c b [] n (λ i e. omega arith)

-- digits have no control character among them
pub digits_without : (l : List ℕ) (c : ℕ) → all_digits l ≡ true → 0 < c → c < 48 → Without c l
digits_without l c e p q i w =
    split (length l) i (λ h. omega (arith, get_or-eq_default l 0 h))
    (λ h. omega (arith, all_digits_at l i e h, digit_low (get_or l i 0) (omega arith)))

pub bare_without : (l : List ℕ) → Without 13 l → bare l ≡ l
unfolding bare
bare_without l w = rw (ne_eqb (get_or l (length l - 1) 0) 13 (w (length l - 1)))

bare_cases : (l : List ℕ) (b : Bool) → eqb (get_or l (length l - 1) 0) 13 ≡ b → bare l ≡ cond b (take (length l - 1) l) l
unfolding bare
bare_cases l b e = rw e

-- a line in the form of a record has no LF before its own
formed_no_line_feed : (l : List ℕ) → formed l ≡ true → Without 10 l
formed_no_line_feed [] f = absurd (omega (arith, formed_long [] f))
formed_no_line_feed (c ∷ l) f =
    let colon = formed_colon (c ∷ l) f in
    without_more 10 c l (λ z. omega arith) (digits_without l 10 (formed_digits (c ∷ l) f) (omega arith) (omega arith))

pub formed_without : (l : List ℕ) → formed (bare l) ≡ true → Without 10 l
formed_without l f =
    decide (eqb (get_or l (length l - 1) 0) 13)
    (λ (q : eqb (get_or l (length l - 1) 0) 13 ≡ true).
    let front : List ℕ = take (length l - 1) l in
    let before = formed_no_line_feed front (rw (bare_cases l true q) at f) in
    rw (ends_with l 13 (omega arith) (eqb-true (get_or l (length l - 1) 0) 13 q))
    (without_append 10 front (13 ∷ []) before (without_one 10 13 (omega arith) (λ (z : 13 ≡ 10). omega arith))))
    (λ (q : eqb (get_or l (length l - 1) 0) 13 ≡ false). formed_no_line_feed l (rw (bare_cases l false q) at f))

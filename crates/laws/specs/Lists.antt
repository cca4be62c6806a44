-- A list by its last element, and from a place on by its first two.
use Rattle.std.specs.Prelude.{◌≡◌, List, [], ◌∷◌, ◌++◌, ℕ, suc, ◌+◌, ◌-◌, ◌≤◌, ◌<◌, length, take, drop, get_or}
use Rattle.std.proofs.Common.{sym, ap, ◌∙◌, add-one, arith, take-append-drop, drop_of_length-le, drop-cons}

pub drop_two : (l : List ℕ) (i : ℕ) → i + 1 < length l → drop i l ≡ get_or l i 0 ∷ get_or l (i + 1) 0 ∷ drop (i + 2) l
drop_two l i h =
    let k : i < length l = omega arith in
    let e : i + 2 ≡ suc (i + 1) = omega arith in
    rw (e, drop-cons l i 0 k, ← add-one i, drop-cons l (i + 1) 0 h)

-- a list of n + 1 elements is n and one more
pub last_apart : (l : List ℕ) (n : ℕ) → length l ≡ n + 1 → l ≡ take n l ++ get_or l n 0 ∷ []
last_apart l n e =
    let h : length l ≤ suc n = omega arith in
    let d : drop n l ≡ get_or l n 0 ∷ [] = rw (drop-cons l n 0 (omega arith), drop_of_length-le l h) in
    sym (take-append-drop n l) ∙ ap (λ (m : List ℕ). take n l ++ m) d

-- a list whose last element is known, and is not what stands for a missing one
pub ends_with : (l : List ℕ) (c : ℕ) → 0 < c → get_or l (length l - 1) 0 ≡ c → l ≡ take (length l - 1) l ++ c ∷ []
ends_with [] c h e = absurd (omega arith)
ends_with (a ∷ l) c h e =
    last_apart (a ∷ l) (length (a ∷ l) - 1) (omega arith) ∙ ap (λ (b : ℕ). take (length (a ∷ l) - 1) (a ∷ l) ++ b ∷ []) e

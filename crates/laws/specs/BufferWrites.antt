-- Pieces written into a buffer one after the other.
use Rattle.std.specs.Prelude.{◌≡◌, List, [], ◌∷◌, ◌++◌, ℕ, ◌+◌, ◌<◌, length, take, set}
use Rattle.std.proofs.Common.{sym, ap, ◌∙◌, append-nil, append_assoc, arith, add-one, length-append, take-suc-set}

-- the piece p was written at `at`: d' has d's first `at` bytes and then p. What stands after it is anything
pub record WrittenAt (at : ℕ) (p d d' : List ℕ) : Type 0 where
  pub is : take (at + length p) d' ≡ take at d ++ p

pub written_nothing : (at : ℕ) (d : List ℕ) → WrittenAt at [] d d
written_nothing at d = let e : at + 0 ≡ at = omega arith in record { is = rw e (sym (append-nil (take at d))) }

pub written_character : (at c : ℕ) (d : List ℕ) → at < length d → WrittenAt at (c ∷ []) d (set d at c)
written_character at c d h = record { is = rw (add-one at) (take-suc-set d at c h) }

pub written_then : (at m : ℕ) (p q d d₁ d₂ : List ℕ) → WrittenAt at p d d₁ → m ≡ at + length p → WrittenAt m q d₁ d₂ → WrittenAt at (p ++ q) d d₂
written_then at m p q d d₁ d₂ w e v =
    let n : at + length (p ++ q) ≡ m + length q = omega (arith, length-append p q) in
    record { is = rw n (v.is ∙ rw e (ap (λ (l : List ℕ). l ++ q) w.is ∙ append_assoc (take at d) p q)) }

-- Loop invariants: how many elements are left, and an array that is filled from its start.
use Rattle.std.specs.Prelude.{◌≡◌, List, [], ◌∷◌, ◌++◌, ℕ, suc, ◌+◌, ◌-◌, ◌≤◌, ◌<◌, length, take, set}
use Rattle.std.proofs.Common.{sym, ◌∙◌, append_assoc, append-nil, add-one, arith, length-set, take-suc-set, take_all}
use Rattle.std.proofs.Math.Nat.{sub-zero}

-- i of count elements are passed
pub one_left : (count i : ℕ) → i < count → count - i ≡ suc (count - (i + 1))
one_left count i h = omega arith

pub none_left : (count i : ℕ) → count ≤ i → count - i ≡ 0
none_left count i h = omega arith

-- the array l has its first i elements; `from left i` lists the `left` elements from the i-th on
pub record FilledTo {A : Type 0} (size : ℕ) (from : ℕ → ℕ → List A) (l : List A) (i : ℕ) : Type 0 where
  pub rest : take i l ++ from (size - i) i ≡ from size 0
  pub long : length l ≡ size

module _ {A : Type 0} (size : ℕ) (from : ℕ → ℕ → List A) (l : List A) where
  pub filled_none : length l ≡ size → FilledTo size from l 0
  filled_none e = record { rest = rw (sub-zero size); long = e }

  module _ (i : ℕ) (k : FilledTo size from l i) where
    pub filled_more : (a : A) → i < size → ((left : ℕ) → from (suc left) i ≡ a ∷ from left (i + 1)) → FilledTo size from (set l i a) (i + 1)
    filled_more a h next = record { rest = more ∙ k.rest; long = length-set l i a ∙ k.long }
      where
        more : take (i + 1) (set l i a) ++ from (size - (i + 1)) (i + 1) ≡ take i l ++ from (size - i) i
        more =
            let e : size - i ≡ suc (size - (i + 1)) = omega arith in
            let b : i < length l = omega (arith, k.long) in
            rw (e, next (size - (i + 1)), add-one i, take-suc-set l i a b) (append_assoc (take i l) (a ∷ []) (from (size - suc i) (suc i)))

    pub filled_all : size ≤ i → ((j : ℕ) → from 0 j ≡ []) → l ≡ from size 0
    filled_all h none =
        let e : size - i ≡ 0 = omega arith in
        let b : length l ≤ i = omega (arith, k.long) in
        sym (rw (e, none i, take_all i l b) (append-nil l)) ∙ k.rest

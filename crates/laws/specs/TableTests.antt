-- A table's rule at each entry, from one test that is computed over the whole table.
use Rattle.std.proofs.Common.{◌∙◌, subst, sym, add-zero, zero-add, add-suc, suc-add, le_of_suc-le-suc, not-suc-le-zero}
use Rattle.std.specs.Prelude.{Bool, true, ◌&&◌, List, [], ◌∷◌, ℕ, zero, suc, ◌+◌, ◌<◌, T, length, get_or}
use Rattle.std.proofs.Math.Facts.{and_yes}

-- the test passes at each entry and its place, counted from i
abbrev pub every : (ℕ → ℕ → Bool) → ℕ → List ℕ → Bool
every test i [] = true
every test i (x ∷ xs) = test i x && every test (suc i) xs

entry_from : (test : ℕ → ℕ → Bool) (xs : List ℕ) (i : ℕ) → T (every test i xs) → (k : ℕ) → k < length xs → T (test (i + k) (get_or xs k 0))
entry_from test [] i t k h = absurd (not-suc-le-zero h)
entry_from test (x ∷ xs) i t zero h = subst (λ (m : ℕ). T (test m x)) (sym (add-zero i)) (and_yes (test i x) (every test (suc i) xs) t).0
entry_from test (x ∷ xs) i t (suc k) h =
    subst (λ (m : ℕ). T (test m (get_or xs k 0))) (suc-add i k ∙ sym (add-suc i k))
    (entry_from test xs (suc i) (and_yes (test i x) (every test (suc i) xs) t).1 k (le_of_suc-le-suc h))

pub entry : (test : ℕ → ℕ → Bool) (xs : List ℕ) → T (every test 0 xs) → (k : ℕ) → k < length xs → T (test k (get_or xs k 0))
entry test xs t k h = subst (λ (m : ℕ). T (test m (get_or xs k 0))) (zero-add k) (entry_from test xs 0 t k h)

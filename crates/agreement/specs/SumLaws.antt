-- Laws of document 01's running sums: there is one, and which values it depends on.
use Rattle.std.specs.Prelude.{◌≡◌, ℕ, zero, suc, ◌+◌, ◌^◌, ◌≤◌, ℤ, ◌*ℤ◌}
use Rattle.std.proofs.Common.{sym, ◌∙◌, arith, lit<}
use Rattle.paper.specs.Reading.{Sum}
use Rattle.agreement.specs.NearestLaws.{nearest_once}

-- terms that are one each have one sum
module _ (x : ℤ) (Term : ℕ → ℤ → Type 0) (once : (i : ℕ) (c d : ℤ) → Term i c → Term i d → c ≡ d) where
  pub sum_once : (after i : ℕ) (y z : ℤ) → Sum x Term after i y → Sum x Term after i z → y ≡ z
  sum_once zero i y z a b = once i y z a b
  sum_once (suc after) i y z (t, r, p, t-is, r-is, p-is, e) (t', r', p', t-is', r-is', p-is', e') =
      let same_sum : r ≡ r' = sum_once after (i + 1) r r' r-is r-is' in
      let same-product : p ≡ p' = nearest_once (r' *ℤ x) (2 ^ 24) (lit< tt) p p' (rw same_sum at p-is) p-is' in
      e ∙ rw (once i t t' t-is t-is', same-product) (sym e')

-- the same terms, and an x that is the same where there is a step: the same sum
pub sum_as : (x x' : ℤ) (Term Term' : ℕ → ℤ → Type 0) (after i : ℕ) (z : ℤ) → (1 ≤ after → x ≡ x') → ((j : ℕ) (c : ℤ) → Term j c → Term' j c)
    → Sum x Term after i z → Sum x' Term' after i z
sum_as x x' Term Term' zero i z same f s = f i z s
sum_as x x' Term Term' (suc after) i z same f (t, r, p, t-is, r-is, p-is, e) =
    (t, r, p, f i t t-is, sum_as x x' Term Term' after (i + 1) r (λ h. same (omega arith)) f r-is, rw (same (omega arith)) at p-is, e)

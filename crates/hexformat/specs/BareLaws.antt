-- A line with and without the CR before its LF.
use Rattle.std.specs.Prelude.{◌≡◌, refl, Bool, true, false, cond, List, [], ◌∷◌, ◌++◌, ℕ, ◌+◌, ◌-◌, eqb, length, take, get_or}
use Rattle.std.proofs.Common.{ap, ◌∙◌, arith, length-append, get_or-append-add}
use Rattle.std.proofs.Math.Seq.{get_or-append_seam, take-append_seam, take-append-add}
use Rattle.hextext.specs.Text.{bare}
use Rattle.hextext.proofs.WithoutLaws.{without_one, bare_without}

pub bare_return : (l : List ℕ) → bare (l ++ 13 ∷ []) ≡ l
unfolding bare
bare_return l =
    let q : length (l ++ 13 ∷ []) - 1 ≡ length l = omega (arith, length-append l (13 ∷ [])) in
    rw (q, get_or-append_seam l 13 [] 0, take-append_seam l (13 ∷ []))

cond_push : (t : Bool) (u v w : List ℕ) → cond t (u ++ v) (u ++ w) ≡ u ++ cond t v w
cond_push true u v w = refl
cond_push false u v w = refl

-- only a line's last character is looked at
pub bare_append : (u v : List ℕ) (c : ℕ) → bare (u ++ c ∷ v) ≡ u ++ bare (c ∷ v)
unfolding bare
bare_append u v c =
    let e : length (u ++ c ∷ v) - 1 ≡ length u + length v = omega (arith, length-append u (c ∷ v)) in
    let e' : length (c ∷ v) - 1 ≡ length v = omega arith in
    rw (e, e', get_or-append-add u (c ∷ v) (length v) 0, take-append-add u (c ∷ v) (length v))
    (cond_push (eqb (get_or (c ∷ v) (length v) 0) 13) u (take (length v) (c ∷ v)) (c ∷ v))

pub bare_on : (u v : List ℕ) (c d : ℕ) → bare (u ++ c ∷ d ∷ v) ≡ u ++ c ∷ bare (d ∷ v)
bare_on u v c d = bare_append u (d ∷ v) c ∙ ap (λ (l : List ℕ). u ++ l) (bare_append (c ∷ []) v d)

pub bare_last : (u : List ℕ) (c : ℕ) → (c ≡ 13 → ⊥) → bare (u ++ c ∷ []) ≡ u ++ c ∷ []
bare_last u c h = bare_append u [] c ∙ ap (λ (l : List ℕ). u ++ l) (bare_without (c ∷ []) (without_one 13 c (omega arith) h))

-- Laws of sections with further ones among them: what they hold, and that they fit.
use Rattle.std.specs.Prelude.{Bool, true, false, cond, ◌||◌, List, [], ◌∷◌, ◌≡◌, refl, ℕ, suc, ◌+◌, ◌≤◌, ◌<◌, ltb, eqb, length}
use Rattle.std.proofs.Math.Option.{Option, some}
use Rattle.std.proofs.Common.{sym, ap, ◌∙◌, arith, ltb-true, ltb-false, eqb-true, eq-eqb, length-append}
use Rattle.std.proofs.lemmas.Bool.{eqb-false}
use Rattle.limits.specs.Limits.{largest_image}
use Rattle.laws.specs.Cases.{decide, never}
use Rattle.image.specs.Contents.{line_place}
use Rattle.image.specs.Sections.{Section, bodies_of, Rising, Fit}
use Rattle.image.specs.Find.{body_of}
use Rattle.image.specs.Merged.{inserted, merged, holds, EachKind, EachOnce, IsKind}

-- ---- what is held

holds_more : (kind : ℕ) (s : Section) (ss : List Section) → holds kind (s ∷ ss) ≡ (eqb kind s.kind || holds kind ss)
unfolding body_of
holds_more kind s ss = decide (eqb kind s.kind) (λ e. rw e) (λ e. rw e)

either_order : (a b c : Bool) → (a || (b || c)) ≡ (b || (a || c))
either_order true true c = refl
either_order true false c = refl
either_order false true c = refl
either_order false false c = refl

holds_inserted : (kind : ℕ) (x : Section) (ss : List Section) → holds kind (inserted x ss) ≡ (eqb kind x.kind || holds kind ss)
unfolding inserted
holds_inserted kind x [] = holds_more kind x []
holds_inserted kind x (s ∷ ss) =
    decide (ltb x.kind s.kind)
    (λ e. rw e (holds_more kind x (s ∷ ss)))
    (λ e. rw (e, holds_more kind s (inserted x ss), holds_inserted kind x ss, holds_more kind s ss)
    (either_order (eqb kind s.kind) (eqb kind x.kind) (holds kind ss)))

apart : (a b c : Bool) → (a || (b || c)) ≡ ((a || b) || c)
apart true b c = refl
apart false b c = refl

pub holds_merged : (kind : ℕ) (ss further : List Section) → holds kind (merged ss further) ≡ (holds kind further || holds kind ss)
unfolding merged body_of
holds_merged kind ss [] = refl
holds_merged kind ss (x ∷ further) =
    rw (holds_inserted kind x (merged ss further), holds_merged kind ss further, holds_more kind x further)
    (apart (eqb kind x.kind) (holds kind further) (holds kind ss))

-- ---- the bodies of other kinds stay

body_inserted : (kind : ℕ) (x : Section) (ss : List Section) → eqb kind x.kind ≡ false → body_of kind (inserted x ss) ≡ body_of kind ss
unfolding inserted body_of
body_inserted kind x [] other = rw other
body_inserted kind x (s ∷ ss) other =
    decide (ltb x.kind s.kind)
    (λ e. rw (e, other))
    (λ e. rw e (ap (λ (o : Option (List ℕ)). cond (eqb kind s.kind) (some s.body) o) (body_inserted kind x ss other)))

-- ---- each further section has its own body

neither : (a b : Bool) → (a || b) ≡ false → (a ≡ false) × (b ≡ false)
neither true b e = never (sym e)
neither false b e = (refl, e)

body_here : (x : Section) (ss : List Section) → holds x.kind ss ≡ false → body_of x.kind (inserted x ss) ≡ some x.body
unfolding inserted body_of
body_here x [] new = rw (eq-eqb x.kind x.kind refl)
body_here x (s ∷ ss) new =
    let others = neither (eqb x.kind s.kind) (holds x.kind ss) (sym (holds_more x.kind s ss) ∙ new) in
    decide (ltb x.kind s.kind) (λ e. rw (e, eq-eqb x.kind x.kind refl)) (λ e. rw (e, others.0) (body_here x ss others.1))

-- a further section's kind has its body, and every other kind the body that it had
pub body_of_merged : (kind : ℕ) (ss further : List Section) → EachOnce further → EachKind (λ other. holds other ss ≡ false) further
    → body_of kind (merged ss further) ≡ cond (holds kind further) (body_of kind further) (body_of kind ss)
unfolding merged body_of
body_of_merged kind ss [] once new = refl
body_of_merged kind ss (x ∷ further) once new =
    decide (eqb kind x.kind)
    (λ (e : eqb kind x.kind ≡ true).
    let same = eqb-true kind x.kind e in
    let apart_from : holds x.kind (merged ss further) ≡ false = rw (holds_merged x.kind ss further, once.0, new.0) in
    rw (e, same) (body_here x (merged ss further) apart_from))
    (λ (e : eqb kind x.kind ≡ false). rw e (body_inserted kind x (merged ss further) e ∙ body_of_merged kind ss further once.1 new.1))

-- ---- they fit

rising_inserted : (previous : ℕ) (x : Section) (ss : List Section) → previous < x.kind → x.kind ≤ 255 → holds x.kind ss ≡ false → Rising previous ss
    → Rising previous (inserted x ss)
unfolding inserted
rising_inserted previous x [] above most new rising = (above, most, tt)
rising_inserted previous x (s ∷ ss) above most new rising =
    let others = neither (eqb x.kind s.kind) (holds x.kind ss) (sym (holds_more x.kind s ss) ∙ new) in
    decide (ltb x.kind s.kind)
    (λ e. rw e (above, most, (ltb-true x.kind s.kind e, rising.1, rising.2)))
    (λ (e : ltb x.kind s.kind ≡ false).
    let higher = ltb-false x.kind s.kind e in
    let differ = eqb-false x.kind s.kind others.0 in
    rw e (rising.0, rising.1, rising_inserted s.kind x ss (omega arith) most others.1 rising.2))

rising_merged : (ss further : List Section) → Rising 0 ss → EachKind IsKind further → EachOnce further → EachKind (λ kind. holds kind ss ≡ false) further
    → Rising 0 (merged ss further)
unfolding merged
rising_merged ss [] rising kinds once new = rising
rising_merged ss (x ∷ further) rising kinds once new =
    let apart_from : holds x.kind (merged ss further) ≡ false = rw (holds_merged x.kind ss further, once.0, new.0) in
    rising_inserted 0 x (merged ss further) kinds.0.0 kinds.0.1 apart_from (rising_merged ss further rising kinds.1 once.1 new.1)

length_inserted : (x : Section) (ss : List Section) → length (inserted x ss) ≡ suc (length ss)
unfolding inserted
length_inserted x [] = refl
length_inserted x (s ∷ ss) = decide (ltb x.kind s.kind) (λ e. rw e) (λ e. rw (e, length_inserted x ss))

length_merged : (ss further : List Section) → length (merged ss further) ≡ length ss + length further
unfolding merged
length_merged ss [] = omega arith
length_merged ss (x ∷ further) = omega (arith, length_inserted x (merged ss further), length_merged ss further)

bodies_inserted : (x : Section) (ss : List Section) → length (bodies_of (inserted x ss)) ≡ length x.body + length (bodies_of ss)
unfolding inserted bodies_of
bodies_inserted x [] = length-append x.body []
bodies_inserted x (s ∷ ss) =
    decide (ltb x.kind s.kind)
    (λ e. rw e (length-append x.body (bodies_of (s ∷ ss))))
    (λ e. rw e (omega (arith, length-append s.body (bodies_of (inserted x ss)), length-append s.body (bodies_of ss), bodies_inserted x ss)))

bodies_merged : (ss further : List Section) → length (bodies_of (merged ss further)) ≡ length (bodies_of ss) + length (bodies_of further)
unfolding merged bodies_of
bodies_merged ss [] = omega arith
bodies_merged ss (x ∷ further) =
    omega (arith, bodies_inserted x (merged ss further), bodies_merged ss further, length-append x.body (bodies_of further))

module _ (ss further : List Section) (fit : Fit ss) (kinds : EachKind IsKind further) (once : EachOnce further)
    (new : EachKind (λ kind. holds kind ss ≡ false) further) (few : length ss + length further ≤ 16)
    (room : line_place (length ss + length further) + (length (bodies_of ss) + length (bodies_of further)) ≤ largest_image) where
  pub merged_fit : Fit (merged ss further)
  merged_fit =
      let count = length_merged ss further in
      let bytes = bodies_merged ss further in
      record {
        some = omega (arith, fit.some);
        few = omega arith;
        rising = rising_merged ss further fit.rising kinds once new;
        room = omega arith;
      }

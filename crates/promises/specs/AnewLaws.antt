-- Laws of an image laid out anew: which rows of the verdict's table are given of it.
use Rattle.std.specs.Prelude.{List, [], ◌∷◌, ◌⊎◌, ◌≡◌, refl, ℕ, ◌+◌, ◌≤◌, ◌<◌}
use Rattle.std.proofs.Common.{inl, inr, ⊎_elim, arith}
use Rattle.paper.specs.Words.{Not, Lowest}
use Rattle.paper.specs.Table.{row, NoneGiven, FirstGiven}
use Rattle.paper.specs.Image.{HasKind, HasBody, layout_table}
use Rattle.paper.specs.Verdict.{IsLevel, Knows, UnknownLow, Missing, BodyWrong, sections_table, verdict_table}
use Rattle.laws.specs.Cases.{split}
use Rattle.image.specs.Sections.{Section}
use Rattle.agreement.specs.TableLaws.{none_append, none_after, first_append}
use Rattle.agreement.specs.VerdictAgrees.{none_without_lowest}
use Rattle.promises.specs.LaidOutAnew.{HasSection, FurtherSections, LaidAnew, AllHigh, LowestLow}

-- ---- of an image that a panel accepts

module _ (level : ℕ) (image : List ℕ) (accepted : NoneGiven (verdict_table level image)) where
  sections_pass : NoneGiven (sections_table level image)
  sections_pass = none_after (row 20 0 (Not (IsLevel level)) ∷ layout_table image) (sections_table level image) accepted

  pub none_unknown : (kind : ℕ) → Not (UnknownLow level image kind)
  none_unknown kind u = none_without_lowest (UnknownLow level image) sections_pass.0 (kind + 1) kind (omega arith) u

  pub none_missing : (kind : ℕ) → Not (Missing image kind)
  none_missing kind m = none_without_lowest (Missing image) sections_pass.1.0 (kind + 1) kind (omega arith) m

  -- another image passes too, where it has no unknown kind below 128, and of the kinds that its level knows the same bodies
  module _ (other : ℕ) (image' : List ℕ) (is_level : Not (Not (IsLevel other))) (good : NoneGiven (layout_table image'))
      (no-unknown : (kind : ℕ) → Not (UnknownLow other image' kind)) (still : (kind : ℕ) → HasKind image kind → HasKind image' kind)
      (back : (kind : ℕ) (body : List ℕ) → Knows other kind → HasBody image' kind body → HasBody image kind body)
      (both_two : other ≡ 2 → level ≡ 2) where
    wrong_before : (kind : ℕ) (Wrong : List ℕ → Type 0) → Knows other kind → BodyWrong image' kind Wrong → BodyWrong image kind Wrong
    wrong_before kind Wrong known (body, has, wrong) = (body, back kind body known has, wrong)

    wrong_first : (kind : ℕ) (Wrong : List ℕ → Type 0) → 1 ≤ kind → kind ≤ 3 → Not (BodyWrong image kind Wrong) → Not (BodyWrong image' kind Wrong)
    wrong_first kind Wrong h k right wrong = is_level (λ l. right (wrong_before kind Wrong (inl (l, h, k)) wrong))

    pub still_accepted : NoneGiven (verdict_table other image')
    still_accepted =
        let bodies = sections_pass.1.1 in (
          λ d g. is_level g.1,
          none_append (layout_table image') (sections_table other image') good (
            λ d g. no-unknown d g.0,
            (
              λ d g. none_missing d (g.0.0, g.0.1, λ has. g.0.2 (still d has)),
              (
                λ d g. wrong_first 1 _ (omega arith) (omega arith) (λ w. bodies.0 0 (refl, w)) g.1,
                (
                  λ d g. wrong_first 2 _ (omega arith) (omega arith) (λ w. bodies.1.0 0 (refl, w)) g.1,
                  (
                    λ d g. wrong_first 3 _ (omega arith) (omega arith) (λ w. bodies.1.1.0 0 (refl, w)) g.1,
                    (
                      -- the rows of trim and note
                      λ d g. bodies.1.1.1.0 0 (refl, (both_two g.1.0, wrong_before 4 _ (inr (g.1.0, inl refl)) g.1.1)),
                      (λ d g. bodies.1.1.1.1.0 0 (refl, (both_two g.1.0, wrong_before 129 _ (inr (g.1.0, inr refl)) g.1.1)), tt),
                    ),
                  ),
                ),
              ),
            ),
          ),
        )

-- the lowest unknown kind below 128 is named, where level and layout are good
pub names_unknown : (level : ℕ) (image : List ℕ) (kind : ℕ) → Not (Not (IsLevel level)) → NoneGiven (layout_table image) → Lowest (UnknownLow level image) kind
    → FirstGiven (verdict_table level image) 9 kind
names_unknown level image kind is_level good lowest =
    inr (λ d g. is_level g.1, first_append (layout_table image) (sections_table level image) 9 kind good (inl (refl, lowest)))

-- ---- laid out anew

module _ (level : ℕ) (image : List ℕ) (further : List Section) (anew : List ℕ) (f : FurtherSections level image further)
    (laid : LaidAnew image further anew) where
  still_there : (kind : ℕ) → HasKind image kind → HasKind anew kind
  still_there kind h = ((laid.has kind _).1 (inl (record { has = h; is = refl }))).has

  -- a kind of the new image is one of the old image or a new one
  pub old_or_new : (kind : ℕ) → HasKind anew kind → HasKind image kind ⊎ HasSection kind further
  old_or_new kind h = ⊎_elim (λ old. inl old.has) (λ new. inr (_, new)) ((laid.has kind _).0 (record { has = h; is = refl }))

  is_level : Not (Not (IsLevel level))
  is_level n = f.accepted.0 0 (refl, n)

  pub anew_accepted : AllHigh further → NoneGiven (verdict_table level anew)
  anew_accepted high =
      still_accepted level image f.accepted level anew is_level laid.good
      (λ kind (has, low, unknown).
      ⊎_elim
      (λ old. none_unknown level image f.accepted kind (old, low, unknown))
      (λ new. let h = high kind new in omega arith)
      (old_or_new kind has))
      still_there
      (λ kind body known has.
      ⊎_elim (λ old. old) (λ new. absurd (f.not_known kind (body, new) known)) ((laid.has kind body).0 has))
      (λ two. two)

  pub anew_names : (kind : ℕ) → LowestLow further kind → FirstGiven (verdict_table level anew) 9 kind
  anew_names kind l =
      names_unknown level anew kind is_level laid.good (
        (((laid.has kind _).1 (inr l.0.0.1)).has, l.0.1, f.not_known kind l.0.0),
        λ j h (has, low, unknown).
            ⊎_elim (λ old. none_unknown level image f.accepted j (old, low, unknown)) (λ new. l.1 j h (new, low)) (old_or_new j has),
      )

-- ---- there is no third case

pub high_or_lowest : (further : List Section) → AllHigh further ⊎ ((kind : ℕ) × LowestLow further kind)
high_or_lowest [] = inl (λ kind s. absurd s.1)
high_or_lowest (s ∷ ss) = ⊎_elim none some (high_or_lowest ss)
  where
    here : HasSection s.kind (s ∷ ss)
    here = (s.body, inl (refl, refl))

    none : AllHigh ss → AllHigh (s ∷ ss) ⊎ ((kind : ℕ) × LowestLow (s ∷ ss) kind)
    none high =
        split 128 s.kind
        (λ h. inl (λ kind (body, a). ⊎_elim (λ e. omega (arith, e.0)) (λ b. high kind (body, b)) a))
        (λ h. inr (s.kind, ((here, h), λ j k ((body, a), low). ⊎_elim (λ e. omega (arith, e.0)) (λ b. let up = high j (body, b) in omega arith) a)))

    some : (kind : ℕ) × LowestLow ss kind → AllHigh (s ∷ ss) ⊎ ((kind : ℕ) × LowestLow (s ∷ ss) kind)
    some (kind, l) =
        split kind s.kind
        (λ (h : kind ≤ s.kind).
        inr (
          kind,
          (
            ((l.0.0.0, inr l.0.0.1), l.0.1),
            λ j k ((body, a), low). ⊎_elim (λ e. omega (arith, e.0)) (λ b. l.1 j k ((body, b), low)) a,
          ),
        ))
        (λ (h : s.kind < kind).
        inr (
          s.kind,
          (
            (here, omega (arith, l.0.1)),
            λ j k ((body, a), low). ⊎_elim (λ e. omega (arith, e.0)) (λ b. l.1 j (omega arith) ((body, b), low)) a,
          ),
        ))

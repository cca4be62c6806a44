-- The verdict on an image is document 01's: 20, then 5 to 13, 15, 16, the first that is given.
use Rattle.std.specs.Prelude.{Bool, ◌||◌, ◌⊎◌, ◌↔◌, ◌≡◌, eqb, Err, Ok}
use mathlib.Core.List.{List, [], ◌∷◌, ◌++◌}
use Rattle.std.proofs.Common.{inl, inr, ⊎_elim, sym, ap, ◌∙◌, add-one, arith, leb-true, leb-false}
use Rattle.std.proofs.Math.Option.{Option, none, some}
use Rattle.std.proofs.Math.Path.{refl}
use Prim.Native.Nat.{ℕ, zero, suc, ◌+◌, ◌≤◌, ◌<◌}
use Rattle.paper.specs.Words.{Not, Lowest}
use Rattle.paper.specs.Table.{Row, row, NoneGiven, FirstGiven}
use Rattle.paper.specs.Image.{HasKind, HasBody, layout_table}
use Rattle.paper.specs.Bodies.{IdentityWrong, SetWrong, TrimWrong, NoteWrong}
use Rattle.paper.specs.Verdict.{IsLevel, Knows, UnknownLow, Missing, BodyWrong, sections_table, verdict_table}
use Rattle.limits.specs.Limits.{last_level}
use Rattle.laws.specs.Cases.{split, decide, never}
use Rattle.refusals.specs.Refusals.{refusal, and_then}
use Rattle.refusals.specs.VerdictLaws.{asked}
use Rattle.image.specs.Contents.{line_count, kind_at}
use Rattle.image.specs.Layout.{layout_verdict}
use Rattle.image.specs.Sections.{sections_from, sections}
use Rattle.image.specs.Find.{body_of, is_there}
use Rattle.image.specs.OrderLaws.{Ascending, sections_ascend}
use Rattle.panel.specs.Levels.{is_level, knows, may_pass}
use Rattle.panel.specs.Verdict.{level_verdict, unknown_verdict, missing_verdict, kind_verdict, there_verdict, kinds_verdict, bodies_verdict, sections_verdict, verdict_of}
use Rattle.agreement.specs.TableLaws.{Gives, Judges, none_before, none_after, gives_append, gives_then, Single, single_append, row_once, lowest_once, refused_exactly, accepted_exactly}
use Rattle.agreement.specs.TestsLaws.{Fails, fails_as, Passes, passes_eq, passes_le, passes_or, passes_and, passes_never, passes_as, passes_fails, ask_judges, judges_as}
use Rattle.agreement.specs.FieldsAgree.{number_same}
use Rattle.agreement.specs.KindsAgree.{later_above, found_is_had, had_is_found, there_passes}
use Rattle.agreement.specs.LayoutAgrees.{NoneBelow, none_next, lowest, lowest_then, lowest_last, layout_gives, layout_single, layout_accepted_exactly}
use Rattle.agreement.specs.BodiesAgree.{identity_judges, set_judges, trim_judges, note_judges}

-- ---- levels, and the kinds that each knows

level_passes : (level : ℕ) → Passes (is_level level) (IsLevel level)
level_passes level =
    passes_as
    (λ h. split level 1 (λ (k : level ≤ 1). inl (omega (arith, h.0))) (λ (k : 1 < level). inr (omega (arith, h.1))))
    (⊎_elim (λ e. (omega arith, omega arith)) (λ e. (omega arith, omega arith)))
    (passes_and (passes_le 1 level) (passes_le level last_level))

-- one of kinds 1 to 3, or what another test finds
three_then : (kind : ℕ) {c : Bool} {Q : Type 0} → Passes c Q → Passes (eqb kind 1 || (eqb kind 2 || (eqb kind 3 || c))) (((1 ≤ kind) × (kind ≤ 3)) ⊎ Q)
three_then kind f =
    passes_as
    (⊎_elim (λ a. inl (omega arith)) (⊎_elim (λ a. inl (omega arith)) (⊎_elim (λ a. inl (omega arith)) inr)))
    (⊎_elim
    (λ a. split kind 1 (λ (h : kind ≤ 1). inl (omega (arith, a.0)))
    (λ (h : 1 < kind). inr (split kind 2 (λ (k : kind ≤ 2). inl (omega arith)) (λ (k : 2 < kind). inr (inl (omega (arith, a.1)))))))
    (λ q. inr (inr (inr q))))
    (passes_or (passes_eq kind 1) (passes_or (passes_eq kind 2) (passes_or (passes_eq kind 3) f)))

knows_passes : (level : ℕ) → IsLevel level → (kind : ℕ) → Passes (knows level kind) (Knows level kind)
unfolding knows
knows_passes level (inl e) kind =
    rw e
    (passes_as (⊎_elim (λ a. inl (inl refl, a.0, a.1)) (λ a. absurd a)) (⊎_elim (λ a. inl (a.1, a.2)) (λ a. absurd (omega (arith, a.0))))
    (three_then kind passes_never))
knows_passes level (inr e) kind =
    rw e
    (passes_as
    (⊎_elim (λ a. inl (inr refl, a.0, a.1)) (⊎_elim (λ a. inr (refl, inl a)) (⊎_elim (λ a. inr (refl, inr a)) (λ a. absurd a))))
    (⊎_elim (λ a. inl (a.1, a.2)) (λ a. inr (⊎_elim inl (λ b. inr (inl b)) a.1)))
    (three_then kind (passes_or (passes_eq kind 4) (passes_or (passes_eq kind 129) passes_never))))

module _ (level : ℕ) (image : List ℕ) (known : IsLevel level) (good : layout_verdict image ≡ Ok tt) where
  -- ---- 9

  abbrev Stops : (kind : ℕ) → Type 0
  Stops kind = (kind < 128) × Not (Knows level kind)

  pass_fails : (kind : ℕ) → Fails (may_pass level kind) (Stops kind)
  pass_fails kind =
      let f = knows_passes level known kind in
      decide (knows level kind)
      (λ e. rw e (record { bad = λ g. never (sym g); good = λ g w. w.1 (f.yes e) }))
      (λ e. rw e (record { bad = λ g. (leb-false 128 kind g, f.no e); good = λ g w. let h = leb-true 128 kind g in omega (arith, w.0) }))

  -- where the lines before line i may all be passed over, an unknown kind is that of a later line
  unknown_later : (i : ℕ) → NoneBelow (λ line. Stops (kind_at image line)) i → (kind : ℕ) → UnknownLow level image kind
      → (line : ℕ) × (i ≤ line) × (line < line_count image) × (kind_at image line ≡ kind)
  unknown_later i before kind w =
      let line = w.0.line in
      let named : kind_at image line ≡ kind = rw number_same at w.0.named in
      split i line
      (λ (h : i ≤ line). (line, h, rw number_same at w.0.there, named))
      (λ (h : line < i). absurd (before line h (rw named (w.1, w.2))))

  unknown_judges : (left i previous : ℕ) → i + left ≡ line_count image → Ascending previous (sections_from image left i)
      → NoneBelow (λ line. Stops (kind_at image line)) i → Judges (lowest 9 (UnknownLow level image)) (unknown_verdict level (sections_from image left i))
  unfolding sections_from unknown_verdict
  unknown_judges zero i previous h rising before = λ d g. let l = unknown_later i before d g.0 in omega (arith, l.1, l.2)
  unknown_judges (suc left) i previous h rising before =
      let has : HasKind image (kind_at image i) = record { line = i; there = rw number_same (omega arith); named = rw number_same refl } in
      lowest_then 9 (UnknownLow level image) (kind_at image i) (may_pass level (kind_at image i)) (unknown_verdict level (sections_from image left (i + 1)))
      (fails_as (λ w. (has, w.0, w.1)) (λ w. (w.1, w.2)) (pass_fails (kind_at image i)))
      (λ kind k w.
      let l = unknown_later i before kind w in
      split l.0 i
      (λ (m : l.0 ≤ i). let same : l.0 ≡ i = omega (arith, l.1) in omega (arith, rw same at l.3))
      (λ (m : i < l.0). omega (arith, l.3, later_above image left (i + 1) (kind_at image i) l.0 rising.1 (omega arith) (omega (arith, l.2)))))
      (λ e. rw (add-one i)
      (unknown_judges left (suc i) (kind_at image i) (omega arith) (rw (add-one i) at rising.1)
      (none_next (λ line. Stops (kind_at image line)) i before ((pass_fails (kind_at image i)).good e))))

  -- ---- 10

  missing_fails : (kind : ℕ) → 1 ≤ kind → kind ≤ 3 → Fails (is_there (body_of kind (sections image))) (Missing image kind)
  missing_fails kind h k = fails_as (λ w. (h, k, w)) (λ w. w.2) (passes_fails (there_passes image kind good))

  missing_judges : Judges (lowest 10 (Missing image)) (missing_verdict (sections image))
  unfolding missing_verdict
  missing_judges =
      let one = missing_fails 1 (omega arith) (omega arith) in
      let two = missing_fails 2 (omega arith) (omega arith) in
      let three = missing_fails 3 (omega arith) (omega arith) in
      let below : NoneBelow (Missing image) 1 = λ j h w. omega (arith, w.0) in
      lowest_then 10 (Missing image) 1 _ _ one below
      (λ e.
      let next = none_next (Missing image) 1 below (one.good e) in
      lowest_then 10 (Missing image) 2 _ _ two next
      (λ f. lowest_last 10 (Missing image) 3 _ three (none_next (Missing image) 2 next (two.good f)) (λ j w. w.1)))

  -- ---- 11, 12, 13, 15, 16

  module _ (kind number : ℕ) (Wrong : List ℕ → Type 0) (judges : (body : List ℕ) → Judges (row number 0 (Wrong body)) (kind_verdict kind body)) where
    body_judges : Judges (row number 0 (BodyWrong image kind Wrong)) (there_verdict (kind_verdict kind) (body_of kind (sections image)))
    body_judges = by (body_of kind (sections image)) refl
      where
        by : (o : Option (List ℕ)) → body_of kind (sections image) ≡ o
            → Judges (row number 0 (BodyWrong image kind Wrong)) (there_verdict (kind_verdict kind) o)
        by none e = λ d g. never (ap is_there (sym e ∙ had_is_found image kind good g.1.0 g.1.1))
        by (some body) e =
            judges_as number 0
            (λ w. (body, found_is_had image kind body e, w))
            (λ w. let same : w.0 ≡ body = cc (had_is_found image kind good w.0 w.1, e) in rw same at w.2)
            (kind_verdict kind body) (judges body)

    -- where a condition holds beside it
    also_judges : (Also : Type 0) → Also
        → Judges (row number 0 (Also × BodyWrong image kind Wrong)) (there_verdict (kind_verdict kind) (body_of kind (sections image)))
    also_judges Also holds = judges_as number 0 (λ w. (holds, w)) (λ w. w.1) (there_verdict (kind_verdict kind) (body_of kind (sections image))) body_judges

  -- one kind more, by its row
  kind_gives : (kind : ℕ) (kinds : List ℕ) (r : Row) (rows : List Row) → Judges r (there_verdict (kind_verdict kind) (body_of kind (sections image)))
      → Gives rows (kinds_verdict kinds (sections image)) → Gives (r ∷ rows) (kinds_verdict (kind ∷ kinds) (sections image))
  unfolding kinds_verdict
  kind_gives kind kinds r rows judges others =
      gives_then r rows (there_verdict (kind_verdict kind) (body_of kind (sections image))) (kinds_verdict kinds (sections image)) judges (λ _. others)

  abbrev identity : Row
  identity = row 11 0 (BodyWrong image 1 IdentityWrong)

  abbrev pressure : Row
  pressure = row 12 0 (BodyWrong image 2 SetWrong)

  abbrev temperature : Row
  temperature = row 13 0 (BodyWrong image 3 SetWrong)

  abbrev trim : (level : ℕ) → Row
  trim level = row 15 0 ((level ≡ 2) × BodyWrong image 4 TrimWrong)

  abbrev note : (level : ℕ) → Row
  note level = row 16 0 ((level ≡ 2) × BodyWrong image 129 NoteWrong)

  -- kinds 1 to 3, which every level knows, and then the others
  first_kinds_give : (rows : List Row) (kinds : List ℕ) → Gives rows (kinds_verdict kinds (sections image))
      → Gives (identity ∷ pressure ∷ temperature ∷ rows) (kinds_verdict (1 ∷ 2 ∷ 3 ∷ kinds) (sections image))
  unfolding kind_verdict
  first_kinds_give rows kinds others =
      kind_gives 1 (2 ∷ 3 ∷ kinds) identity (pressure ∷ temperature ∷ rows) (body_judges 1 11 IdentityWrong identity_judges)
      (kind_gives 2 (3 ∷ kinds) pressure (temperature ∷ rows) (body_judges 2 12 SetWrong (set_judges 12))
      (kind_gives 3 kinds temperature rows (body_judges 3 13 SetWrong (set_judges 13)) others))

  abbrev body_rows : (level : ℕ) → List Row
  body_rows level = identity ∷ pressure ∷ temperature ∷ trim level ∷ note level ∷ []

  bodies_give : Gives (body_rows level) (bodies_verdict level (sections image))
  unfolding kind_verdict kinds_verdict
  bodies_give = by known
    where
      by : IsLevel level → Gives (body_rows level) (bodies_verdict level (sections image))
      by (inl one) = rw one (first_kinds_give (trim 1 ∷ note 1 ∷ []) [] (λ d g. omega (arith, g.1.0), (λ d g. omega (arith, g.1.0), tt)))
      by (inr two) =
          rw two
          (first_kinds_give (trim 2 ∷ note 2 ∷ []) (4 ∷ 129 ∷ [])
          (kind_gives 4 (129 ∷ []) (trim 2) (note 2 ∷ []) (also_judges 4 15 TrimWrong trim_judges (2 ≡ 2) refl)
          (kind_gives 129 [] (note 2) [] (also_judges 129 16 NoteWrong note_judges (2 ≡ 2) refl) tt)))

  sections_give : Gives (sections_table level image) (sections_verdict level (sections image))
  unfolding sections sections_verdict
  sections_give =
      let ss = sections image in
      let missing = lowest 10 (Missing image) in
      gives_then (lowest 9 (UnknownLow level image)) (missing ∷ body_rows level)
      (unknown_verdict level ss) (and_then (missing_verdict ss) (bodies_verdict level ss))
      (unknown_judges (line_count image) 0 0 (omega arith) (sections_ascend image good) (λ j h. absurd (omega arith)))
      (λ a. gives_then missing (body_rows level) (missing_verdict ss) (bodies_verdict level ss) missing_judges (λ b. bodies_give))

-- ---- the whole verdict

module _ (level : ℕ) (image : List ℕ) where
  pub verdict_gives : Gives (verdict_table level image) (verdict_of level image)
  unfolding verdict_of
  verdict_gives =
      let rest = sections_verdict level (sections image) in
      gives_then (row 20 0 (Not (IsLevel level))) (layout_table image ++ sections_table level image)
      (level_verdict level) (and_then (layout_verdict image) rest)
      (ask_judges 20 0 (is_level level) (passes_fails (level_passes level)))
      (λ known. gives_append (layout_table image) (sections_table level image) (layout_verdict image) rest (layout_gives image)
      (λ good. sections_give level image ((level_passes level).yes (asked (is_level level) 20 0 known)) good))

  pub verdict_single : Single (verdict_table level image)
  verdict_single = (
    row_once 0 _,
    single_append (layout_table image) (sections_table level image) (layout_single image)
        (lowest_once _, (lowest_once _, (row_once 0 _, (row_once 0 _, (row_once 0 _, (row_once 0 _, (row_once 0 _, tt))))))),
  )

  -- an image is refused by a number with a detail exactly where document 01 says so, and accepted exactly where no row is given
  pub verdict_refused_exactly : (number detail : ℕ)
      → (verdict_of level image ≡ Err (refusal number detail)) ↔ FirstGiven (verdict_table level image) number detail
  verdict_refused_exactly = refused_exactly (verdict_table level image) verdict_single (verdict_of level image) verdict_gives

  pub verdict_accepted_exactly : (verdict_of level image ≡ Ok tt) ↔ NoneGiven (verdict_table level image)
  verdict_accepted_exactly = accepted_exactly (verdict_table level image) verdict_single (verdict_of level image) verdict_gives

-- ---- what an acceptance says of the bodies that a reading takes

-- where no number is the lowest with a property, none has it
pub none_without_lowest : (P : ℕ → Type 0) → ((k : ℕ) → Not (Lowest P k)) → (i : ℕ) → NoneBelow P i
none_without_lowest P n zero = λ j h. absurd (omega arith)
none_without_lowest P n (suc i) = let below = none_without_lowest P n i in none_next P i below (λ p. n i (p, below))

pub record Readable (image : List ℕ) : Type 0 where
  pub good : layout_verdict image ≡ Ok tt
  pub has_identity : HasKind image 1
  pub has_pressure_set : HasKind image 2
  pub has_temperature_set : HasKind image 3
  pub pressure_set_right : (body : List ℕ) → HasBody image 2 body → Not (SetWrong body)
  pub temperature_set_right : (body : List ℕ) → HasBody image 3 body → Not (SetWrong body)
  pub trim_right : (body : List ℕ) → HasBody image 4 body → Not (TrimWrong body)

module _ (level : ℕ) (image : List ℕ) (accepted : verdict_of level image ≡ Ok tt) where
  rows : NoneGiven (verdict_table level image)
  rows = (verdict_accepted_exactly level image).0 accepted

  kinds : NoneGiven (sections_table level image)
  kinds = none_after (row 20 0 (Not (IsLevel level)) ∷ layout_table image) (sections_table level image) rows

  laid : layout_verdict image ≡ Ok tt
  laid = (layout_accepted_exactly image).1 (none_before (layout_table image) (sections_table level image) rows.1)

  -- kinds 1, 2 and 3 are there
  there : (kind : ℕ) → 1 ≤ kind → kind ≤ 3 → HasKind image kind
  there kind h k =
      decide (is_there (body_of kind (sections image)))
      (λ e. (there_passes image kind laid).yes e)
      (λ e. absurd (none_without_lowest (Missing image) kinds.1.0 4 kind (omega arith) (h, k, (there_passes image kind laid).no e)))

  -- level 1 accepts no trim
  pub no_trim : level ≡ 1 → Not (HasKind image 4)
  no_trim one has =
      none_without_lowest (UnknownLow level image) kinds.0 5 4 (omega arith) (has, omega arith, ⊎_elim (λ k. omega (arith, k.2)) (λ k. omega (arith, k.0)))

  pub accepted_readable : Readable image
  accepted_readable =
      let bodies = kinds.1.1 in
      record {
        good = laid;
        has_identity = there 1 (omega arith) (omega arith);
        has_pressure_set = there 2 (omega arith) (omega arith);
        has_temperature_set = there 3 (omega arith) (omega arith);
        pressure_set_right = λ body h w. bodies.1.0 0 (refl, (body, h, w));
        temperature_set_right = λ body h w. bodies.1.1.0 0 (refl, (body, h, w));
        trim_right =
            λ body h w.
            rows.0 0 (refl, ⊎_elim (λ one. no_trim one h.has) (λ two. bodies.1.1.1.0 0 (refl, (two, (body, h, w)))));
      }

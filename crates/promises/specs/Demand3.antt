-- The third demand: an image with further sections, and the levels of panels.
use Rattle.std.specs.Prelude.{List, ◌⊎◌, ◌↔◌, ℕ, ◌<◌, pos, Err, Ok}
use Rattle.std.proofs.Common.{inl, inr, ⊎_elim, sym, ap, ◌∙◌, arith}
use Rattle.std.proofs.Math.Path.{◌≡◌, refl}
use Rattle.paper.specs.Words.{Not, Lowest}
use Rattle.paper.specs.Table.{NoneGiven}
use Rattle.paper.specs.Image.{HasKind, layout_table}
use Rattle.paper.specs.Verdict.{UnknownLow, verdict_table}
use Rattle.laws.specs.Cases.{decide}
use Rattle.refusals.specs.Answers.{Verdict}
use Rattle.refusals.specs.Refusals.{refusal}
use Rattle.refusals.specs.ForC.{verdict_for_c}
use Rattle.image.specs.Sections.{Section, sections}
use Rattle.image.specs.Find.{body_of, is_there}
use Rattle.reading.specs.declared.Counts.{Counts}
use Rattle.reading.specs.declared.Reading.{Reading}
use Rattle.reading.specs.ForC.{answer_for_c}
use Rattle.panel.specs.Verdict.{verdict_of}
use Rattle.panel.specs.Reading.{sections_reading, after_verdict, reading_of}
use Rattle.agreement.specs.KindsAgree.{there_passes}
use Rattle.agreement.specs.LayoutAgrees.{layout_accepted_exactly}
use Rattle.agreement.specs.SameBodies.{found_same}
use Rattle.agreement.specs.VerdictAgrees.{verdict_refused_exactly, verdict_accepted_exactly, accepted_readable}
use Rattle.promises.specs.LaidOutAnew.{FurtherSections, LaidAnew, AllHigh, LowestLow}
use Rattle.promises.specs.LowerLevel.{LowerLevel}
use Rattle.promises.specs.AnewLaws.{anew_accepted, anew_names, high_or_lowest, none_unknown, still_accepted, names_unknown}

-- ---- further sections

module _ (level : ℕ) (image : List ℕ) (further : List Section) (anew : List ℕ) (f : FurtherSections level image further)
    (laid : LaidAnew image further anew) where
  was_accepted : verdict_of level image ≡ Ok tt
  was_accepted = (verdict_accepted_exactly level image).1 f.accepted

  module _ (high : AllHigh further) where
    -- If all the new kinds are 128 or above, the verdict is the same as before
    pub high_verdict : verdict_of level anew ≡ verdict_of level image
    high_verdict = (verdict_accepted_exactly level anew).1 (anew_accepted level image further anew f laid high) ∙ sym was_accepted

    kept : (kind : ℕ) → kind < 128 → body_of kind (sections anew) ≡ body_of kind (sections image)
    kept kind low =
        found_same anew image kind ((layout_accepted_exactly anew).1 laid.good) (accepted_readable level image was_accepted).good
        (λ body. (
          λ has. ⊎_elim (λ old. old) (λ new. let h = high kind (body, new) in absurd (omega arith)) ((laid.has kind body).0 has),
          λ has. (laid.has kind body).1 (inl has),
        ))

    -- and, for all counts, the reading or refusal.
    pub high_reading : (counts : Counts) → reading_of level anew counts ≡ reading_of level image counts
    unfolding reading_of sections_reading
    high_reading counts = rw (high_verdict, kept 1 (omega arith), kept 2 (omega arith), kept 3 (omega arith), kept 4 (omega arith))

  module _ (kind : ℕ) (lowest : LowestLow further kind) where
    -- If one is lower, the panel refuses by number 9 and names the lowest such kind.
    pub low_verdict : verdict_of level anew ≡ Err (refusal 9 kind)
    low_verdict = (verdict_refused_exactly level anew 9 kind).1 (anew_names level image further anew f laid kind lowest)

    pub low_reading : (counts : Counts) → reading_of level anew counts ≡ Err (refusal 9 kind)
    unfolding reading_of
    low_reading counts = rw low_verdict

    -- In the numbers that C gets: 9, that kind, and every value 0.
    pub low_for_c : (counts : Counts)
        → (verdict_for_c (verdict_of level anew) ≡ record { number = 9; detail = kind })
        × (answer_for_c (reading_of level anew counts) ≡ record { number = 9; detail = kind; pressure = pos 0; temperature = pos 0; unit = 0; mark = 0 })
    low_for_c counts = (ap verdict_for_c low_verdict, ap answer_for_c (low_reading counts))

  -- If all are 128 or above, C gets the same numbers as before.
  pub high_for_c : AllHigh further → (counts : Counts)
      → (verdict_for_c (verdict_of level anew) ≡ verdict_for_c (verdict_of level image))
      × (answer_for_c (reading_of level anew counts) ≡ answer_for_c (reading_of level image counts))
  high_for_c high counts = (ap verdict_for_c (high_verdict high), ap answer_for_c (high_reading high counts))

-- There is no third case: all new kinds are 128 or above, or there is a lowest below 128.
pub high_or_low : (further : List Section) → AllHigh further ⊎ ((kind : ℕ) × LowestLow further kind)
high_or_low = high_or_lowest

-- ---- a level and a lower one

module _ (lower higher : ℕ) (below : LowerLevel lower higher) (image : List ℕ) (counts : Counts) (reading : Reading)
    (shown : reading_of higher image counts ≡ Ok reading) where
  accepted : verdict_of higher image ≡ Ok tt
  unfolding reading_of
  accepted = by (verdict_of higher image) shown
    where
      by : (v : Verdict) → after_verdict v (sections_reading (sections image) counts) ≡ Ok reading → v ≡ Ok tt
      by (Ok tt) e = refl
      by (Err r) e = let z : ◌≡◌ {A = ℕ} 0 1 = cc in absurd (omega arith)

  passes : NoneGiven (verdict_table higher image)
  passes = (verdict_accepted_exactly higher image).0 accepted

  good : NoneGiven (layout_table image)
  good = (layout_accepted_exactly image).0 (accepted_readable higher image accepted).good

  both_two : lower ≡ 2 → higher ≡ 2
  both_two two = ⊎_elim (λ (l, h, k). absurd (omega arith)) (λ (e, k). e) (below.grows 4 (inr (two, inl refl)))

  -- Where a panel gives a reading, a panel of a lower level gives the same one if the image holds no kind below 128 that it does not know.
  pub lower_reads : ((kind : ℕ) → Not (UnknownLow lower image kind)) → reading_of lower image counts ≡ Ok reading
  unfolding reading_of
  lower_reads none =
      let rows =
      still_accepted higher image passes lower image (λ n. n below.level) good none (λ kind h. h) (λ kind body known h. h) both_two in
      rw ((verdict_accepted_exactly lower image).1 rows) (rw accepted at shown)

  -- Else it refuses by 9 and names the lowest such kind.
  pub lower_refuses : (kind : ℕ) → Lowest (UnknownLow lower image) kind → reading_of lower image counts ≡ Err (refusal 9 kind)
  unfolding reading_of
  lower_refuses kind lowest = rw ((verdict_refused_exactly lower image 9 kind).1 (names_unknown lower image kind (λ n. n below.level) good lowest))

-- ---- levels 1 and 2

one_below_two : LowerLevel 1 2
one_below_two = record { level = inl refl; grows = λ kind. ⊎_elim (λ (l, h, k). inl (inr refl, h, k)) (λ (e, k). absurd (omega arith)) }

module _ (image : List ℕ) (counts : Counts) (reading : Reading) (shown : reading_of 2 image counts ≡ Ok reading) where
  rows_of_two : NoneGiven (verdict_table 2 image)
  rows_of_two = passes 1 2 one_below_two image counts reading shown

  -- the one kind below 128 that level 2 accepts and level 1 does not know
  only_trim : (kind : ℕ) → UnknownLow 1 image kind → Not (Not (kind ≡ 4))
  only_trim kind (has, low, unknown) not-four =
      none_unknown 2 image rows_of_two kind (
        has,
        low,
        ⊎_elim (λ (l, h, k). unknown (inl (inl refl, h, k))) (λ (e, k). ⊎_elim not-four (λ note. omega arith) k),
      )

  -- Where a level 2 panel gives a reading, a level 1 panel gives the same one
  pub without_trim : Not (HasKind image 4) → reading_of 1 image counts ≡ Ok reading
  without_trim none =
      lower_reads 1 2 one_below_two image counts reading shown (λ kind u. only_trim kind u (λ four. none (rw four at u.0)))

  -- or, if kind 4 is present, refuses by 9 naming it,
  pub with_trim : HasKind image 4 → reading_of 1 image counts ≡ Err (refusal 9 4)
  with_trim there =
      lower_refuses 1 2 one_below_two image counts reading shown 4 (
        (there, omega arith, ⊎_elim (λ (l, h, k). omega arith) (λ (e, k). omega arith)),
        λ j h u. only_trim j u (λ four. omega arith),
      )

  trim_there : HasKind image 4 ⊎ Not (HasKind image 4)
  trim_there =
      let tested = there_passes image 4 (accepted_readable 2 image (accepted 1 2 one_below_two image counts reading shown)).good in
      decide (is_there (body_of 4 (sections image))) (λ e. inl (tested.yes e)) (λ e. inr (tested.no e))

  -- exactly if it is.
  pub refuses_exactly : (reading_of 1 image counts ≡ Err (refusal 9 4)) ↔ HasKind image 4
  refuses_exactly = (
    λ e. ⊎_elim (λ there. there) (λ absent. let z : ◌≡◌ {A = ℕ} 0 1 = cc (e, without_trim absent) in absurd (omega arith)) trim_there,
    with_trim,
  )

  pub shows_exactly : (reading_of 1 image counts ≡ Ok reading) ↔ Not (HasKind image 4)
  shows_exactly = (
    λ e there. let z : ◌≡◌ {A = ℕ} 0 1 = cc (e, with_trim there) in omega arith,
    without_trim,
  )

  -- In the numbers that C gets: the same as level 2's, or 9, 4 and every value 0.
  pub levels_for_c : (answer_for_c (reading_of 1 image counts) ≡ answer_for_c (reading_of 2 image counts))
      ⊎ (HasKind image 4
      × (answer_for_c (reading_of 1 image counts) ≡ record { number = 9; detail = 4; pressure = pos 0; temperature = pos 0; unit = 0; mark = 0 }))
  levels_for_c =
      ⊎_elim (λ there. inr (there, ap answer_for_c (with_trim there))) (λ absent. inl (ap answer_for_c (without_trim absent ∙ sym shown))) trim_there

-- The verdict on each body is document 01's: identity, pressure set and temperature set, trim, note.
use Rattle.std.specs.Prelude.{Bool, true, false, cond, ◌&&◌, ◌||◌, List, ◌⊎◌, ◌≡◌, refl, ℕ, ◌+◌, ◌*◌, ◌%◌, ◌^◌, ◌≤◌, ◌<◌, leb, eqb, length, get_or}
use Rattle.std.proofs.Math.Bool.{and_assoc}
use Rattle.std.proofs.Common.{inl, inr, ⊎_elim, arith, leb-true, leb-false, eqb-true}
use Rattle.std.proofs.lemmas.Bool.{eqb-false}
use Rattle.paper.specs.Words.{Not, Outside, Beyond}
use Rattle.paper.specs.Table.{row}
use Rattle.paper.specs.Bodies.{LeapYear, NoSuchDay, IdentityWrong, PrescaleWrong, SetWrong, TrimWrong, NoteWrong}
use Rattle.laws.specs.Cases.{decide, never, both_left, both_right}
use Rattle.numbers.specs.Fields.{number_at, signed_at}
use Rattle.bodies.specs.Identity.{leap_year, days_in, identity_fields, identity_verdict}
use Rattle.bodies.specs.MonthLaws.{in_every_month}
use Rattle.bodies.specs.Trim.{trim_fields, trim_verdict}
use Rattle.bodies.specs.Note.{character_field, character_fields, note_fields, note_verdict}
use Rattle.sets.specs.Set.{coefficient_at, coefficient_field, coefficient_fields, multiplier_right, offset_right, set_fields, set_verdict}
use Rattle.agreement.specs.TableLaws.{Judges}
use Rattle.agreement.specs.TestsLaws.{
  Fails,
  fails_le,
  fails_eq,
  fails_leℤ,
  fails_beyond,
  fails_and,
  fails_early,
  fails_last,
  fails_as,
  fails_outside,
  Passes,
  passes_eq,
  passes_or,
  passes_and,
  passes_not,
  all,
  fields_judge,
  rule_fails,
}
use Rattle.agreement.specs.FieldsAgree.{number_same, signed_same}

-- ---- 1, identity

leap_passes : (year : ℕ) → Passes (leap_year year) (LeapYear year)
leap_passes year = passes_and (passes_eq (year % 4) 0) (passes_or (passes_not (passes_eq (year % 100) 0)) (passes_eq (year % 400) 0))

abbrev OfThirty : (month : ℕ) → Type 0
OfThirty month = (month ≡ 4) ⊎ (month ≡ 6) ⊎ (month ≡ 9) ⊎ (month ≡ 11)

abbrev of_thirty : (month : ℕ) → Bool
of_thirty month = eqb month 4 || (eqb month 6 || (eqb month 9 || eqb month 11))

thirty_passes : (month : ℕ) → Passes (of_thirty month) (OfThirty month)
thirty_passes month = passes_or (passes_eq month 4) (passes_or (passes_eq month 6) (passes_or (passes_eq month 9) (passes_eq month 11)))

abbrev days_said : (leap : Bool) (month : ℕ) → ℕ
days_said leap month = cond (of_thirty month) 30 (cond (eqb month 2) (cond leap 29 28) 31)

-- the list of the months says the same
days_as_said : (year month : ℕ) → (leb 1 month && leb month 12) ≡ true → days_in year month ≡ days_said (leap_year year) month
days_as_said year month listed =
    in_every_month year (days_said (leap_year year)) (decide (leap_year year) (λ leap. rw leap tt) (λ common. rw common tt)) month
    (leb-true 1 month (both_left (leb 1 month) (leb month 12) listed))
    (leb-true month 12 (both_right (leb 1 month) (leb month 12) listed))

module _ (year month day : ℕ) where
  -- in a month of so many days
  days_fail : (days : ℕ) → days ≤ 31 → (days < day → NoSuchDay year month day)
      → (OfThirty month × (30 < day) → days < day)
      → ((month ≡ 2) × (29 < day) → days < day)
      → ((month ≡ 2) × Not (LeapYear year) × (28 < day) → days < day)
      → Fails (leb 1 day && leb day days) (NoSuchDay year month day)
  days_fail days h above f g k =
      fails_as (⊎_elim (λ o. inl (inl o)) above)
      (⊎_elim (⊎_elim inl (λ o. inr (omega arith))) (⊎_elim (λ w. inr (f w)) (⊎_elim (λ w. inr (g w)) (λ w. inr (k w)))))
      (fails_outside 1 days day)

  day_fails : (leb 1 month && leb month 12) ≡ true → Fails (leb 1 day && leb day (days_in year month)) (NoSuchDay year month day)
  day_fails listed =
      let thirty = thirty_passes month in
      let february = passes_eq month 2 in
      let leap = leap_passes year in
      rw (days_as_said year month listed)
      (decide (of_thirty month)
      (λ e. rw e
      (days_fail 30 (omega arith) (λ o. inr (inl (thirty.yes e, o))) (λ w. w.1) (λ w. never (rw w.0 at e)) (λ w. never (rw w.0 at e))))
      (λ e. decide (eqb month 2)
      (λ f. decide (leap_year year)
      (λ g. rw (e, f, g)
      (days_fail 29 (omega arith) (λ o. inr (inr (inl (february.yes f, o))))
      (λ w. absurd (thirty.no e w.0)) (λ w. w.1) (λ w. absurd (w.1 (leap.yes g)))))
      (λ g. rw (e, f, g)
      (days_fail 28 (omega arith) (λ o. inr (inr (inr (february.yes f, leap.no g, o))))
      (λ w. absurd (thirty.no e w.0)) (λ w. omega (arith, w.1)) (λ w. w.2))))
      (λ f. rw (e, f)
      (days_fail 31 (omega arith) (λ o. inl (inr o))
      (λ w. absurd (thirty.no e w.0)) (λ w. absurd (february.no f w.0)) (λ w. absurd (february.no f w.0))))))

-- a test, and the next where it passes
fails_then : {a b : Bool} {P Q : Type 0} → Fails a P → (a ≡ true → Fails b Q) → Fails (a && b) (P ⊎ Q)
fails_then {a = true} f g = fails_and f (g refl)
fails_then {a = false} f g = record { bad = λ e. inl (f.bad refl); good = λ e. never e }

pub identity_judges : (body : List ℕ) → Judges (row 11 0 (IdentityWrong body)) (identity_verdict body)
unfolding identity_fields
identity_judges body =
    let year = number_at 2 body 4 in
    let month = number_at 1 body 6 in
    rw (number_same, signed_same)
    (fields_judge 11 (identity_fields body)
    (fails_and (fails_eq (length body) 24)
    (fails_and (fails_outside 1980 2099 year)
    (fails_then (fails_outside 1 12 month)
    (λ e. fails_and (day_fails year month (number_at 1 body 7) e)
    (fails_and (fails_leℤ (signed_at 4 body 8) (signed_at 4 body 12)) (fails_last (fails_leℤ (signed_at 4 body 16) (signed_at 4 body 20)))))))))

-- ---- 2 and 3, pressure set and temperature set

prescale_fails : (order multiplier offset : ℕ)
    → Fails (multiplier_right order multiplier && offset_right order offset) (PrescaleWrong order multiplier offset)
prescale_fails order multiplier offset =
    decide (eqb order 0)
    (λ e.
    let none = eqb-true order 0 e in
    rw e (fails_as (λ w. inr (none, w)) (⊎_elim (λ h. absurd (h.0 none)) (λ h. h.1)) (fails_and (fails_eq multiplier 0) (fails_eq offset 0))))
    (λ e.
    let some = eqb-false order 0 e in
    rw e
    (fails_as (λ w. inl (some, w)) (⊎_elim (λ h. h.1) (λ h. absurd (some h.0)))
    (fails_and (fails_outside 1 (2 ^ 30) multiplier) (fails_le offset 6553600000))))

-- two tests of one condition, and the next
fails_two : (a b : Bool) {c : Bool} {P Q : Type 0} → Fails (a && b) P → Fails c Q → Fails (a && (b && c)) (P ⊎ Q)
fails_two a b {c} f g = rw (← and_assoc a b c) (fails_and f g)

coefficients_fail : (body : List ℕ) (count : ℕ)
    → Fails (all (coefficient_fields body count)) ((i : ℕ) × (i < count) × Beyond (2 ^ 34) (coefficient_at body i))
coefficients_fail body count =
    fails_as (λ h. (h.0, omega (arith, h.2), h.3)) (λ h. (h.0, omega arith, omega (arith, h.1), h.2))
    (rule_fails (coefficient_field body) (λ i. Beyond (2 ^ 34) (coefficient_at body i)) (λ i. fails_beyond (2 ^ 34) (coefficient_at body i)) count 0)

pub set_judges : (number : ℕ) (body : List ℕ) → Judges (row number 0 (SetWrong body)) (set_verdict number body)
unfolding set_fields
set_judges number body =
    let np = number_at 1 body 2 in
    let nt = number_at 1 body 3 in
    let mp = number_at 4 body 4 in
    let fp = number_at 8 body 8 in
    let mt = number_at 4 body 16 in
    let ft = number_at 8 body 20 in
    let count = (np + 1) * (nt + 1) in
    rw (number_same, signed_same)
    (fields_judge number (set_fields body)
    (fails_early (λ e. let short = leb-false 4 (length body) e in inr (inr (inr (inr (inl (λ h. omega (arith, h)))))))
    (fails_and (fails_eq (number_at 1 body 0) 1)
    (fails_and (fails_eq (number_at 1 body 1) 1)
    (fails_and (fails_le np 4)
    (fails_and (fails_le nt 4)
    (fails_and (fails_eq (length body) (28 + 8 * count))
    (fails_two (multiplier_right np mp) (offset_right np fp) (prescale_fails np mp fp)
    (fails_two (multiplier_right nt mt) (offset_right nt ft) (prescale_fails nt mt ft) (coefficients_fail body count))))))))))

-- ---- 4, trim

pub trim_judges : (body : List ℕ) → Judges (row 15 0 (TrimWrong body)) (trim_verdict body)
unfolding trim_fields
trim_judges body =
    rw (number_same, signed_same)
    (fields_judge 15 (trim_fields body)
    (fails_and (fails_eq (length body) 16)
    (fails_and (fails_outside 1 3 (number_at 1 body 0))
    (fails_and (fails_eq (number_at 1 body 1) 0)
    (fails_and (fails_eq (number_at 1 body 2) 0)
    (fails_and (fails_eq (number_at 1 body 3) 0)
    (fails_and (fails_outside 1 (2 ^ 31) (number_at 4 body 4))
    (fails_last (fails_beyond (2 ^ 40) (signed_at 8 body 8))))))))))

-- ---- 129, note

characters_fail : (body : List ℕ) → Fails (all (character_fields body)) ((i : ℕ) × (i < length body) × Outside 32 126 (get_or body i 0))
characters_fail body =
    fails_as (λ h. (h.0, omega (arith, h.2), h.3)) (λ h. (h.0, omega arith, omega (arith, h.1), h.2))
    (rule_fails (character_field body) (λ i. Outside 32 126 (get_or body i 0)) (λ i. fails_outside 32 126 (get_or body i 0)) (length body) 0)

pub note_judges : (body : List ℕ) → Judges (row 16 0 (NoteWrong body)) (note_verdict body)
unfolding note_fields
note_judges body = fields_judge 16 (note_fields body) (fails_and (fails_outside 1 64 (length body)) (characters_fail body))

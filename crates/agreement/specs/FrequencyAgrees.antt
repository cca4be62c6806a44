-- Frequencies, and X: known as document 01 says, or refused by 21 to 24 where it says so.
use Rattle.std.specs.Prelude.{◌&&◌, ◌⊎◌, ◌≡◌, ℕ, ◌*◌, ◌^◌, ◌≤◌, eqb, ℤ, ◌-ℤ◌, ◌*ℤ◌, ◌<ℤ◌, Ok}
use mathlib.Core.List.{[], ◌∷◌}
use native.Mathlib.Omega.{arith}
use borrow.Author.Tests.{leb-true, eqb-true, eqb-false}
use Rattle.std.proofs.Math.Dec.{leb}
use Rattle.std.proofs.Common.{lit<}
use Rattle.std.proofs.Math.IntN.{pos}
use Rattle.std.specs.Int.Signed.{le_z}
use Rattle.limits.specs.Limits.{highest_frequency}
use Rattle.paper.specs.Words.{Outside, Beyond}
use Rattle.paper.specs.Table.{row}
use Rattle.paper.specs.Reading.{Frequency, Prescaled}
use Rattle.paper.specs.ReadingTable.{channel_table}
use Rattle.laws.specs.Cases.{decide}
use Rattle.refusals.specs.Refusals.{ask}
use Rattle.refusals.specs.VerdictLaws.{asked}
use Rattle.whole.specs.Rounded.{rounded}
use Rattle.reading.specs.Value.{given}
use Rattle.reading.specs.Frequency.{hertz, frequency_of, scaled_of, prescaled_of}
use Rattle.agreement.specs.TestsLaws.{Fails, fails_le, fails_leℤ, fails_and, fails_as, fails_outside, ask_judges}
use Rattle.agreement.specs.NearestLaws.{rounded_is_nearest, nearest_is_rounded, nearest_once}
use Rattle.agreement.specs.ValueLaws.{ValueGives, given_then, within_gives}

-- ---- F

module _ (channel ns nr : ℕ) where
  abbrev FrequencyOutside : Type 0
  FrequencyOutside = (f : ℤ) × Frequency ns nr f × ((f <ℤ pos 655360000) ⊎ (pos highest_frequency <ℤ f))

  hertz_nearest : 1 ≤ nr → Frequency ns nr (hertz ns nr)
  unfolding hertz
  hertz_nearest h = rounded_is_nearest (pos (7200000 * 65536 * ns)) nr h

  hertz_fails : 1 ≤ nr → Fails (le_z (pos 655360000) (hertz ns nr) && le_z (hertz ns nr) (pos highest_frequency)) FrequencyOutside
  hertz_fails h =
      fails_as (λ w. (hertz ns nr, hertz_nearest h, w))
      (λ (f, is, w). rw (nearest_once (pos (7200000 * 65536 * ns)) nr h (hertz ns nr) f (hertz_nearest h) is) w)
      (fails_and (fails_leℤ (pos 655360000) (hertz ns nr)) (fails_leℤ (hertz ns nr) (pos highest_frequency)))

  reference_fails : Fails (leb 1 nr) (nr ≡ 0)
  reference_fails = fails_as (λ h. omega arith) (λ h. omega arith) (fails_le 1 nr)

  -- what is known has some reference cycles
  abbrev pub Counted : (f : ℤ) → Type 0
  Counted f = (1 ≤ nr) × Frequency ns nr f

  pub frequency_gives : ValueGives (channel_table channel ns nr) Counted (frequency_of channel ns nr)
  unfolding frequency_of
  frequency_gives =
      let row22 = row 22 channel (nr ≡ 0) in
      let row23 = row 23 channel FrequencyOutside in
      let in_limits = le_z (pos 655360000) (hertz ns nr) && le_z (hertz ns nr) (pos highest_frequency) in
      let known = Ok (hertz ns nr) in
      given_then (row 21 channel (Outside 1 1048576 ns)) (row22 ∷ row23 ∷ []) Counted (ask (leb 1 ns && leb ns 1048576) 21 channel)
      (given (ask (leb 1 nr) 22 channel) (given (ask in_limits 23 channel) known))
      (ask_judges 21 channel (leb 1 ns && leb ns 1048576) (fails_outside 1 1048576 ns))
      (λ a. given_then row22 (row23 ∷ []) Counted (ask (leb 1 nr) 22 channel) (given (ask in_limits 23 channel) known)
      (ask_judges 22 channel (leb 1 nr) reference_fails)
      (λ b.
      let h = leb-true 1 nr (asked (leb 1 nr) 22 channel b) in
      given_then row23 [] Counted (ask in_limits 23 channel) known (ask_judges 23 channel in_limits (hertz_fails h)) (λ c. (tt, (h, hertz_nearest h)))))

-- ---- X

module _ (detail order multiplier offset : ℕ) (f : ℤ) where
  abbrev Is : ℤ → Type 0
  Is x = 1 ≤ order → Prescaled multiplier offset f x

  abbrev XBeyond : Type 0
  XBeyond = (1 ≤ order) × ((x : ℤ) × Prescaled multiplier offset f x × Beyond (2 ^ 24) x)

  pub prescaled_gives : {C : Type 0} → (XBeyond → C) → (C → XBeyond)
      → ValueGives (row 24 detail C ∷ []) Is (prescaled_of detail (record { order = order; multiplier = multiplier; offset = offset }) f)
  unfolding prescaled_of scaled_of
  prescaled_gives {C} into out =
      let product = pos multiplier *ℤ (f -ℤ pos offset) in
      let nearest = rounded_is_nearest product (2 ^ 32) (lit< tt) in
      decide (eqb order 0)
      (λ e.
      let none = eqb-true order 0 e in
      rw e ((λ d g. let w = out g.1 in omega (arith, w.0), tt), λ h. absurd (omega arith)))
      (λ e.
      let some = eqb-false order 0 e in
      rw e
      (within_gives (2 ^ 24) 24 detail (rounded product (2 ^ 32)) Is (λ h. nearest)
      (λ y is. nearest_is_rounded product (2 ^ 32) (lit< tt) y (is (omega arith)))
      (λ (y, is, b). into (omega arith, (y, is (omega arith), b)))
      (λ c. let w = out c in (w.1.0, λ h. w.1.1, w.1.2))))

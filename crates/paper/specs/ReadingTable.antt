-- The refusals of a reading: "the verdict, then 21 to 23 for pressure, then for temperature, then 24 (XP, XT), 25, 26 for the pressure
-- set, then for the temperature set".
use Rattle.std.specs.Prelude.{List, [], ◌∷◌, ◌++◌, ◌⊎◌, ◌≡◌, ℕ, ◌+◌, ◌^◌, ◌≤◌, ℤ, pos, ◌<ℤ◌}
use Rattle.paper.specs.Words.{Outside, Beyond}
use Rattle.paper.specs.Fields.{number}
use Rattle.paper.specs.Table.{Row, row}
use Rattle.paper.specs.Image.{HasBody}
use Rattle.paper.specs.Bodies.{pressure_order, temperature_order}
use Rattle.paper.specs.Verdict.{verdict_table}
use Rattle.paper.specs.Reading.{Counts, Frequency, Prescaled, IsXP, IsXT, RowsFrom, RunningSum}

-- "NS 0 or above 1,048,576; NR 0; F outside 655,360,000 to 6,553,600,000"; the channel is 1 for pressure, 2 for temperature
abbrev pub channel_table : (channel ns nr : ℕ) → List Row
channel_table channel ns nr =
    row 21 channel (Outside 1 1048576 ns)
    ∷ row 22 channel (nr ≡ 0)
    ∷ row 23 channel ((f : ℤ) × Frequency ns nr f × ((f <ℤ pos 655360000) ⊎ (pos 6553600000 <ℤ f)))
    ∷ []

module _ (body : List ℕ) (fp ft : ℤ) where
  -- "X beyond 2^24 either side", where its order is not 0
  abbrev pub XPBeyond : Type 0
  XPBeyond = (1 ≤ pressure_order body) × ((x : ℤ) × Prescaled (number 4 body 4) (number 8 body 8) fp x × Beyond (2 ^ 24) x)

  abbrev pub XTBeyond : Type 0
  XTBeyond = (1 ≤ temperature_order body) × ((x : ℤ) × Prescaled (number 4 body 16) (number 8 body 20) ft x × Beyond (2 ^ 24) x)

  -- "running sum beyond 500,000,000,000 either side"
  abbrev pub SumBeyond : Type 0
  SumBeyond = (xp xt z : ℤ) × IsXP body fp xp × IsXT body ft xt × RunningSum body xp xt z × Beyond 500000000000 z

  -- "set's result beyond 2^31 either side"
  abbrev pub ResultBeyond : Type 0
  ResultBeyond = (xp xt z : ℤ) × IsXP body fp xp × IsXT body ft xt × RowsFrom body xp xt 0 z × Beyond (2 ^ 31) z

module _ (image : List ℕ) (counts : Counts) where
  -- of the set of a kind, at the frequencies of both channels
  abbrev pub InSet : (kind : ℕ) → (List ℕ → (fp ft : ℤ) → Type 0) → Type 0
  InSet kind P =
      (body : List ℕ) × (fp ft : ℤ) × HasBody image kind body × Frequency counts.pressure_ns counts.pressure_nr fp
      × Frequency counts.temperature_ns counts.temperature_nr ft × P body fp ft

  -- the detail of 24 is `first` for the set's XP and one more for its XT, that of 25 and 26 the set's kind
  abbrev pub set_table : (kind first : ℕ) → List Row
  set_table kind first =
      row 24 first (InSet kind XPBeyond)
      ∷ row 24 (first + 1) (InSet kind XTBeyond)
      ∷ row 25 kind (InSet kind SumBeyond)
      ∷ row 26 kind (InSet kind ResultBeyond)
      ∷ []

  abbrev pub counts_table : List Row
  counts_table =
      channel_table 1 counts.pressure_ns counts.pressure_nr
      ++ channel_table 2 counts.temperature_ns counts.temperature_nr
      ++ set_table 2 1
      ++ set_table 3 3

abbrev pub reading_table : (level : ℕ) → (image : List ℕ) → Counts → List Row
reading_table level image counts = verdict_table level image ++ counts_table image counts

-- "From counts to a reading." What is shown, said of the image's bytes and the counts; when it is not shown is said in ReadingTable.
use Rattle.std.specs.Prelude.{List, ◌⊎◌, ◌≡◌, ℕ, zero, suc, ◌+◌, ◌-◌, ◌*◌, ◌^◌, ◌≤◌, ℤ, pos, ◌+ℤ◌, ◌-ℤ◌, ◌*ℤ◌, ◌≤ℤ◌, ◌<ℤ◌}
use Rattle.paper.specs.Words.{Not, Nearest}
use Rattle.paper.specs.Fields.{number, signed}
use Rattle.paper.specs.Image.{HasKind, HasBody}
use Rattle.paper.specs.Bodies.{pressure_order, temperature_order}

-- sensor counts NS and reference counts NR of both channels
pub record Counts : Type 0 where
  pub pressure_ns : ℕ
  pub pressure_nr : ℕ
  pub temperature_ns : ℕ
  pub temperature_nr : ℕ

-- "F, in 1/65,536 Hz, is 7,200,000 × 65,536 × NS / NR rounded."
abbrev pub Frequency : (ns nr : ℕ) → (f : ℤ) → Type 0
Frequency ns nr f = Nearest f (pos (7200000 * 65536 * ns)) nr

-- "X = M × (F - F0) / 2^32 rounded"
abbrev pub Prescaled : (multiplier offset : ℕ) → (f x : ℤ) → Type 0
Prescaled multiplier offset f x = Nearest x (pos multiplier *ℤ (f -ℤ pos offset)) (2 ^ 32)

-- ---- the sum of a set

-- "A row's sum starts at its last coefficient; each step is the next lower coefficient plus (running sum × XT / 2^24) rounded."
-- z is the running sum from term i on, which has so many terms after it
abbrev pub Sum : (x : ℤ) → (Term : ℕ → ℤ → Type 0) → (after i : ℕ) → (z : ℤ) → Type 0
Sum x Term zero i z = Term i z
Sum x Term (suc after) i z =
    (term running product : ℤ) × Term i term × Sum x Term after (i + 1) running × Nearest product (running *ℤ x) (2 ^ 24) × (z ≡ term +ℤ product)

module _ (body : List ℕ) where
  -- XP by MP at 4 and FP0 at 8, XT by MT at 16 and FT0 at 20. "Not worked out where its order is 0": then it may be any number
  abbrev pub IsXP : (f x : ℤ) → Type 0
  IsXP f x = 1 ≤ pressure_order body → Prescaled (number 4 body 4) (number 8 body 8) f x

  abbrev pub IsXT : (f x : ℤ) → Type 0
  IsXT f x = 1 ≤ temperature_order body → Prescaled (number 4 body 16) (number 8 body 20) f x

  -- A0, A1, .. B0, .. of 8 bytes from 28 on: row 0 is A0, A1, .., row 1 is B0, B1, ..
  abbrev pub Coefficient : (row place : ℕ) → (c : ℤ) → Type 0
  Coefficient row place c = c ≡ signed 8 body (28 + 8 * (row * (temperature_order body + 1) + place))

  -- a row summed from a place on; its sum is that from place 0
  abbrev pub RowFrom : (xt : ℤ) → (row place : ℕ) → (z : ℤ) → Type 0
  RowFrom xt row place z = Sum xt (λ (p : ℕ) (c : ℤ). Coefficient row p c) (temperature_order body - place) place z

  -- "The rows are summed the same way with XP.": from a row on; the set's result is that from row 0
  abbrev pub RowsFrom : (xp xt : ℤ) → (row : ℕ) → (z : ℤ) → Type 0
  RowsFrom xp xt row z = Sum xp (λ (r : ℕ) (c : ℤ). RowFrom xt r 0 c) (pressure_order body - row) row z

  -- a running sum: of a row from one of its places on, or of the rows from one of them on
  abbrev pub RunningSum : (xp xt z : ℤ) → Type 0
  RunningSum xp xt z =
      ((row place : ℕ) × (row ≤ pressure_order body) × (place ≤ temperature_order body) × RowFrom xt row place z)
      ⊎ ((row : ℕ) × (row ≤ pressure_order body) × RowsFrom xp xt row z)

  -- "Both sets use both frequencies, each set its own prescale."
  pub record Result (fp ft z : ℤ) : Type 0 where
    pub xp : ℤ
    pub xt : ℤ
    pub xp_is : IsXP fp xp
    pub xt_is : IsXT ft xt
    pub is : RowsFrom xp xt 0 z

-- ---- mark and trim

-- 1 where z, in 1/65,536, lies outside the whole numbers from low to high, else 0
abbrev pub OutsideBit : (z low high : ℤ) → (bit : ℕ) → Type 0
OutsideBit z low high bit =
    (((z <ℤ (low *ℤ pos 65536)) ⊎ ((high *ℤ pos 65536) <ℤ z)) × (bit ≡ 1))
    ⊎ (((low *ℤ pos 65536) ≤ℤ z) × (z ≤ℤ (high *ℤ pos 65536)) × (bit ≡ 0))

-- "Mark: 1 if temperature lies outside TMIN..TMAX, plus 2 if pressure lies outside PMIN..PMAX, before trim."
pub record Mark (identity : List ℕ) (pressure temperature : ℤ) (mark : ℕ) : Type 0 where
  pub temperature_bit : ℕ
  pub pressure_bit : ℕ
  pub temperature_is : OutsideBit temperature (signed 4 identity 8) (signed 4 identity 12) temperature_bit
  pub pressure_is : OutsideBit pressure (signed 4 identity 16) (signed 4 identity 20) pressure_bit
  pub is : mark ≡ temperature_bit + 2 * pressure_bit

module _ (image : List ℕ) (pressure shown : ℤ) (unit : ℕ) where
  -- without a trim "unit 1", and the pressure as it is
  pub record Untrimmed : Type 0 where
    pub no_trim : Not (HasKind image 4)
    pub is : shown ≡ pressure
    pub in_psi : unit ≡ 1

  -- "With trim, pressure = zero + (span × pressure / 2^28) rounded, in the unit named": unit at 0, span at 4, zero at 8
  pub record Trimmed : Type 0 where
    pub trim : List ℕ
    pub has : HasBody image 4 trim
    pub product : ℤ
    pub product_is : Nearest product (pos (number 4 trim 4) *ℤ pressure) (2 ^ 28)
    pub is : shown ≡ signed 8 trim 8 +ℤ product
    pub named : unit ≡ number 1 trim 0

-- ---- what is shown

-- each set's result being as `IsResult` says
pub record ShowsBy (IsResult : (body : List ℕ) → (fp ft z : ℤ) → Type 0) (image : List ℕ) (counts : Counts)
    (shown_pressure shown_temperature : ℤ) (unit mark : ℕ) : Type 0 where
  pub identity : List ℕ
  pub pressure_set : List ℕ
  pub temperature_set : List ℕ
  pub identity_is : HasBody image 1 identity
  pub pressure_set_is : HasBody image 2 pressure_set
  pub temperature_set_is : HasBody image 3 temperature_set
  pub fp : ℤ
  pub ft : ℤ
  pub fp_is : Frequency counts.pressure_ns counts.pressure_nr fp
  pub ft_is : Frequency counts.temperature_ns counts.temperature_nr ft
  pub pressure : ℤ
  pub pressure_is : IsResult pressure_set fp ft pressure
  pub temperature_is : IsResult temperature_set fp ft shown_temperature
  pub mark_is : Mark identity pressure shown_temperature mark
  pub trim_is : Untrimmed image pressure shown_pressure unit ⊎ Trimmed image pressure shown_pressure unit

abbrev pub Shows : (image : List ℕ) → Counts → (shown_pressure shown_temperature : ℤ) → (unit mark : ℕ) → Type 0
Shows = ShowsBy (λ body fp ft z. Result body fp ft z)

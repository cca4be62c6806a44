-- The levels and the kinds that the code has names for, by their numbers.
use Rattle.std.specs.Prelude.{◌≡◌, true, ℕ, Ok}
use Rattle.panel.specs.declared.levels.Kind.{Kind}
use Rattle.panel.specs.declared.levels.Kind.TheVariants.{Identity, PressureSet, TemperatureSet, Trim, Note}
use Rattle.panel.specs.declared.levels.Level.{Level}
use Rattle.panel.specs.declared.levels.Level.TheVariants.{One, Two}
use Rattle.panel.specs.Levels.{knows}
use Rattle.panel.specs.Verdict.{level_verdict}

abbrev pub level_number : Level → ℕ
level_number One = 1
level_number Two = 2

abbrev pub kind_number : Kind → ℕ
kind_number Identity = 1
kind_number PressureSet = 2
kind_number TemperatureSet = 3
kind_number Trim = 4
kind_number Note = 129

-- the level of a number, or its refusal
pub record IsLevel (level : Level) (number : ℕ) : Type 0 where
  pub same : number ≡ level_number level
  pub passes : level_verdict number ≡ Ok tt

-- the kind of a number, which the level knows
pub record IsKnown (level number : ℕ) (kind : Kind) : Type 0 where
  pub same : number ≡ kind_number kind
  pub known : knows level number ≡ true

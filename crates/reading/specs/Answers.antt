-- What a reading answers, and what the steps on the way to it answer.
use Rattle.std.specs.Prelude.{Option, Result, ℤ}
use Rattle.refusals.specs.declared.Refusal.{Refusal}
use Rattle.bodies.specs.declared.Trim.{Trim}
use Rattle.reading.specs.declared.Reading.{Reading}

-- a number on the way to a reading, or why there is none
abbrev pub Value : Type 0
Value = Result ℤ Refusal

-- a reading, or a refusal, which holds no pressure
abbrev pub Answer : Type 0
Answer = Result Reading Refusal

-- the gauge's trim, where it has one
abbrev pub Trimming : Type 0
Trimming = Option Trim

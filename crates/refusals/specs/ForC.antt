-- Answers as C gets them, and what is then promised of a lent buffer.
use Rattle.std.specs.Prelude.{List, ◌≡◌, ℕ, length}
use Rattle.refusals.specs.Answers.{Verdict}
use Rattle.refusals.specs.Answers.{Filled}
use Rattle.refusals.specs.declared.for_c.VerdictForC.{VerdictForC}
use Rattle.refusals.specs.declared.for_c.FilledForC.{FilledForC}
use Rattle.refusals.specs.InNumbers.{verdict_number, verdict_detail, filled_number, filled_detail, filled_length}
use Rattle.refusals.specs.Refusals.{Outcome, answer_to, held_after}

abbrev pub verdict_for_c : Verdict → VerdictForC
verdict_for_c verdict = record { number = verdict_number verdict; detail = verdict_detail verdict }

abbrev pub filled_for_c : Filled → FilledForC
filled_for_c filled = record { number = filled_number filled; detail = filled_detail filled; length = filled_length filled }

-- `Fills`, with the answer as C gets it
pub record FillsForC (outcome : Outcome) (before : List ℕ) (answer : FilledForC) (after : List ℕ) : Type 0 where
  pub answers : answer ≡ filled_for_c (answer_to outcome)
  pub holds : after ≡ held_after (length before) outcome

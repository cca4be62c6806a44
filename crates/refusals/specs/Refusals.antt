-- Checks in order, of which the first refusal wins, and what a lent buffer holds.
use Rattle.std.specs.Prelude.{Bool, cond, List, ◌++◌, ◌≡◌, ℕ, ◌-◌, length, replicate, Err, Ok}
use Rattle.numbers.specs.Slices.{cleared_from}
use Rattle.refusals.specs.declared.Refusal.{Refusal}
use Rattle.refusals.specs.Answers.{Verdict}
use Rattle.refusals.specs.InNumbers.{filled_length}
use Rattle.refusals.specs.Answers.{Filled}

abbrev pub refusal : (number detail : ℕ) → Refusal
refusal number detail = record { number = number; detail = detail }

-- ---- the first refusal wins

-- a check: what must hold, and the refusal where it doesn't
abbrev pub ask : Bool → (number detail : ℕ) → Verdict
ask holds number detail = cond holds (Ok tt) (Err (refusal number detail))

abbrev pub and_then : Verdict → Verdict → Verdict
and_then (Ok tt) next = next
and_then (Err r) next = Err r

-- ---- a lent buffer

-- the outcome of a function that fills a buffer
pub data Outcome : Type 0 where
  result : List ℕ → Outcome
  refused : Refusal → Outcome

-- the result x, where the checks before it are passed
abbrev pub checked : Verdict → List ℕ → Outcome
checked (Ok tt) x = result x
checked (Err r) x = refused r

abbrev pub answer_to : Outcome → Filled
answer_to (result x) = Ok (length x)
answer_to (refused r) = Err r

-- the buffer after it, `size` bytes: the result from its start and zeros after it, or all zeros
abbrev pub held_after : (size : ℕ) → Outcome → List ℕ
held_after size (result x) = x ++ replicate (size - length x) 0
held_after size (refused r) = replicate size 0

-- the contract of such a function: its answer, and the buffer, which was `before` and is `after`
pub record Fills (outcome : Outcome) (before : List ℕ) (answer : Filled) (after : List ℕ) : Type 0 where
  pub answers : answer ≡ answer_to outcome
  pub holds : after ≡ held_after (length before) outcome

-- an answer passed on, and the rest of the buffer, after the result, cleared
pub record Settled (answer : Filled) (before : List ℕ) (passed : Filled) (after : List ℕ) : Type 0 where
  pub same : passed ≡ answer
  pub cleared : after ≡ cleared_from (filled_length answer) before

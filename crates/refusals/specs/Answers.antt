-- What a check answers, and what the filling of a lent buffer answers.
use Rattle.std.specs.Prelude.{ℕ, Result, ⊤}
use Rattle.refusals.specs.declared.Refusal.{Refusal}

-- accepted, or the refusal
abbrev pub Verdict : Type 0
Verdict = Result ⊤ Refusal

-- how many bytes of the buffer, from its start, are the result; or why there is none
abbrev pub Filled : Type 0
Filled = Result ℕ Refusal

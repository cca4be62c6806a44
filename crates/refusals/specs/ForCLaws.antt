-- Laws of answers as C gets them: each case, and an answer that a definition gives.
use Rattle.std.specs.Prelude.{List, ◌≡◌, ℕ, Err, Ok}
use Rattle.std.proofs.Common.{ap, ◌∙◌}
use Rattle.refusals.specs.declared.Refusal.{Refusal}
use Rattle.refusals.specs.Answers.{Verdict}
use Rattle.refusals.specs.Answers.{Filled}
use Rattle.refusals.specs.declared.for_c.VerdictForC.{VerdictForC}
use Rattle.refusals.specs.declared.for_c.FilledForC.{FilledForC}
use Rattle.refusals.specs.Refusals.{Outcome, Fills}
use Rattle.refusals.specs.ForC.{verdict_for_c, filled_for_c, FillsForC}

module _ {v : Verdict} where
  pub for_c_accepted : v ≡ Ok tt → record { number = 0; detail = 0 } ≡ verdict_for_c v
  for_c_accepted e = rw e

  pub for_c_refused : (r : Refusal) → v ≡ Err r → record { number = r.number; detail = r.detail } ≡ verdict_for_c v
  for_c_refused r e = rw e

module _ {f : Filled} where
  pub for_c_length : (n : ℕ) → f ≡ Ok n → record { number = 0; detail = 0; length = n } ≡ filled_for_c f
  for_c_length n e = rw e

  pub for_c_unfilled : (r : Refusal) → f ≡ Err r → record { number = r.number; detail = r.detail; length = 0 } ≡ filled_for_c f
  for_c_unfilled r e = rw e

pub verdict_for_c_lem : {v said : Verdict} {r : VerdictForC} → v ≡ said → r ≡ verdict_for_c v → r ≡ verdict_for_c said
verdict_for_c_lem e f = f ∙ ap verdict_for_c e

pub fills_for_c : {outcome : Outcome} {before after : List ℕ} {answer : Filled} {r : FilledForC} → Fills outcome before answer after → r ≡ filled_for_c answer
    → FillsForC outcome before r after
fills_for_c f e = record { answers = e ∙ ap filled_for_c f.answers; holds = f.holds }

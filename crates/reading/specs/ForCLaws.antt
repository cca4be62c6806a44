-- A law of an answer as C gets it, where a definition gives the answer.
use Rattle.std.specs.Prelude.{◌≡◌}
use Rattle.std.proofs.Common.{ap, ◌∙◌}
use Rattle.reading.specs.Answers.{Answer}
use Rattle.reading.specs.declared.for_c.AnswerForC.{AnswerForC}
use Rattle.reading.specs.ForC.{answer_for_c}

pub answer_for_c_lem : {answer said : Answer} {r : AnswerForC} → answer ≡ said → r ≡ answer_for_c answer → r ≡ answer_for_c said
answer_for_c_lem e f = f ∙ ap answer_for_c e

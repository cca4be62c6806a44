-- An answer as C gets it.
use Rattle.reading.specs.Answers.{Answer}
use Rattle.reading.specs.declared.for_c.AnswerForC.{AnswerForC}
use Rattle.reading.specs.InNumbers.{answer_number, answer_detail, answer_pressure, answer_temperature, answer_unit, answer_mark}

abbrev pub answer_for_c : Answer → AnswerForC
answer_for_c answer =
    record {
      number = answer_number answer;
      detail = answer_detail answer;
      pressure = answer_pressure answer;
      temperature = answer_temperature answer;
      unit = answer_unit answer;
      mark = answer_mark answer;
    }

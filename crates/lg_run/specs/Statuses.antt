-- The status that the program ends with.
use Rattle.std.specs.Prelude.{ℕ}
use Rattle.lg_run.specs.declared.answer.Answer.{Answer}
use Rattle.lg_run.specs.declared.answer.Answer.TheVariants.{Ended, Listed, Undefined, Refused, Usage, ReadFault, WriteFault, StepsOut, Fault, OutOfMemory}

abbrev pub status_of_answer : Answer → ℕ
status_of_answer (Ended status) = status
status_of_answer Listed = 0
status_of_answer (Undefined line) = 120
status_of_answer (Refused refusal) = 121
status_of_answer Usage = 122
status_of_answer ReadFault = 123
status_of_answer WriteFault = 124
status_of_answer StepsOut = 125
status_of_answer (Fault kind pc) = 126
status_of_answer OutOfMemory = 127

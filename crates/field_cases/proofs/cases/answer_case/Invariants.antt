-- Each line taken leaves one less.
use Rattle.std.proofs.Common.{length}
use Rattle.field_cases.proofs.cases.answer_case.Given as goal

abbrev pub decreases-loop-lines : goal.decreases-loop-lines
decreases-loop-lines l = length l.lines

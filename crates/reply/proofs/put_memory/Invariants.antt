use Rattle.std.proofs.Common.{true}
use Rattle.frame.specs.Writing.{Put}
use Rattle.record.specs.Records.{bytes_from}
use Rattle.reply.proofs.put_memory.Given as goal

abbrev pub invariant-loop-place : goal.invariant-loop-place
invariant-loop-place l = Put (bytes_from l.tag.memory l.address l.place) l.initial.writer l.writer true

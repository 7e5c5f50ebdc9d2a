use Rattle.std.proofs.Common.{◌≡◌, fold, length}
use Rattle.crc.specs.Check.{byte_taken}
use Rattle.crc.proofs.after_bytes.Given as goal

-- What is left leads from the value to where all bytes lead from the register.
abbrev pub invariant-loop-left : goal.invariant-loop-left
invariant-loop-left l = fold byte_taken l.value l.left ≡ fold byte_taken l.register l.bytes

abbrev pub decreases-loop-left : goal.decreases-loop-left
decreases-loop-left l = length l.left

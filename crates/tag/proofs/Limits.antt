-- The counter at its limit, computed; and what a reply leaves in the register. Assumes nothing.
use Rattle.std.proofs.Common.{ℕ, Bool, List, Some, None, Option, refl, arith}
use Rattle.crc.specs.Check.{moved_up, bit_taken, bits, byte_taken, sealed}
use Rattle.crc.proofs.Moves.{residue}
use Rattle.protocol.specs.Commands.{command_with_code}
use Rattle.frame.specs.Openings.{Opening, opening, is_sealed, without_check_value, parameters_of}
use Rattle.tag.specs.Cases.{FullCounters}
use Rattle.record.specs.declared.Tag.{Tag}
use Rattle.tag.specs.Orders.{order_in}
use Rattle.reply.specs.Replies.{sealed_reply, Residual}
use Rattle.tag.specs.Steps.{prepared, answered, replied}

pub full_counters : FullCounters
unfolding FullCounters opening is_sealed without_check_value parameters_of command_with_code moved_up bit_taken bits byte_taken sealed
full_counters = ((λ t coin s n. rw (s, n) refl), ((λ t coin s n. rw (s, n) refl), tt))

sounding_residual : (reply : Option (List ℕ)) → Residual (sealed_reply reply)
unfolding sealed
sounding_residual None = tt
sounding_residual (Some bytes) = residue 0xffff bytes (omega arith)

pub replied_residual : (frame : Opening) (coin : Bool) (t : Tag) → Residual (replied frame coin t)
replied_residual frame coin t = sounding_residual (answered (order_in frame) coin (prepared t))

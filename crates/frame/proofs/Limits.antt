-- The cases at the limits, computed. Assumes nothing.
use Rattle.std.proofs.Common.{refl}
use Rattle.crc.specs.Check.{moved_up, bit_taken, bits, byte_taken, sealed}
use Rattle.frame.specs.Cases.{BareFrames, ShortReplies, DamagedFrames}
use Rattle.protocol.specs.Commands.{command_with_code}
use Rattle.frame.specs.Makings.{making}
use Rattle.frame.specs.Openings.{opening, is_sealed, without_check_value, parameters_of}

pub bare_frames : BareFrames
unfolding BareFrames making opening is_sealed without_check_value parameters_of command_with_code moved_up bit_taken bits byte_taken sealed
bare_frames = ((refl, refl), ((refl, refl), ((refl, refl), ((refl, refl), tt))))

pub short_replies : ShortReplies
unfolding ShortReplies moved_up bit_taken bits byte_taken sealed
short_replies = (refl, (refl, (refl, (refl, tt))))

pub damaged_frames : DamagedFrames
unfolding DamagedFrames opening is_sealed without_check_value command_with_code moved_up bit_taken bits byte_taken sealed
damaged_frames = (refl, (refl, tt))

-- The listing, computed. Assumes nothing.
use Rattle.crc.specs.Check.{moved_up, bit_taken, bits, byte_taken, sealed}
use Rattle.protocol.specs.Commands.{command_with_code}
use Rattle.frame.specs.Openings.{opening, is_sealed, without_check_value, parameters_of}
use Rattle.panel.specs.Listings.{ShownFrames}

pub shown_frames : ShownFrames
unfolding ShownFrames opening is_sealed without_check_value parameters_of command_with_code moved_up bit_taken bits byte_taken sealed
shown_frames = search

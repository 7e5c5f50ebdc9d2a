-- The listings, computed. Assumes nothing.
use Rattle.crc.specs.Check.{moved_up, bit_taken, bits, byte_taken, sealed}
use Rattle.protocol.specs.Commands.{command_with_code}
use Rattle.frame.specs.Makings.{making}
use Rattle.frame.specs.Openings.{opening, is_sealed, without_check_value, parameters_of}
use Rattle.frame.specs.Writing.{overlaid}
use Rattle.worked_cases.specs.Frame.{OpenedFrames, RefusedFrames, MadeFrames, LaidBytes}

pub opened_frames : OpenedFrames
unfolding OpenedFrames opening is_sealed without_check_value parameters_of command_with_code moved_up bit_taken bits byte_taken sealed
opened_frames = search

pub refused_frames : RefusedFrames
unfolding RefusedFrames opening is_sealed without_check_value parameters_of command_with_code moved_up bit_taken bits byte_taken sealed
refused_frames = search

pub made_frames : MadeFrames
unfolding MadeFrames making command_with_code moved_up bit_taken bits byte_taken sealed
made_frames = search

pub laid_bytes : LaidBytes
unfolding LaidBytes overlaid
laid_bytes = search

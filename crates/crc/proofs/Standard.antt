-- The standard's case, computed. Assumes nothing.
use Rattle.crc.specs.Check.{moved_up, bit_taken, bits, byte_taken}
use Rattle.crc.specs.Standard.{CheckVector}

pub check_vector : CheckVector
unfolding CheckVector moved_up bit_taken bits byte_taken
check_vector = search

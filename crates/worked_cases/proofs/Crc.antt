-- The listings, computed. Assumes nothing.
use Rattle.crc.specs.Check.{moved_up, bit_taken, bits, byte_taken, sealed}
use Rattle.worked_cases.specs.Crc.{BitsTaken, BytesTaken, SealedMessages}

pub bits_taken : BitsTaken
unfolding BitsTaken moved_up bit_taken
bits_taken = search

pub bytes_taken : BytesTaken
unfolding BytesTaken moved_up bit_taken bits byte_taken
bytes_taken = search

pub sealed_messages : SealedMessages
unfolding SealedMessages moved_up bit_taken bits byte_taken sealed
sealed_messages = search

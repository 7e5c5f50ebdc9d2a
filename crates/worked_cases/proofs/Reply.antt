-- The listings, computed. Assumes nothing.
use Rattle.crc.specs.Check.{moved_up, bit_taken, bits, byte_taken, sealed}
use Rattle.record.specs.Records.{bytes_from}
use Rattle.worked_cases.specs.Reply.{Stretches, WrittenReplies}

pub stretches : Stretches
unfolding Stretches bytes_from
stretches = search

pub written_replies : WrittenReplies
unfolding WrittenReplies moved_up bit_taken bits byte_taken sealed bytes_from
written_replies = search

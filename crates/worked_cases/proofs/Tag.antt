-- The listings, computed. Assumes nothing.
use Rattle.crc.specs.Check.{moved_up, bit_taken, bits, byte_taken, sealed}
use Rattle.protocol.specs.Commands.{command_with_code}
use Rattle.frame.specs.Openings.{opening, is_sealed, without_check_value, parameters_of}
use Rattle.record.specs.Masks.{stored}
use Rattle.record.specs.Records.{bytes_from}
use Rattle.worked_cases.specs.Tag.{Selects, UnselectsNe, UnselectsFlag, UnselectsNoFlag, Queries, Scrolls, Repeats}
use Rattle.worked_cases.specs.Tag.{Resets, Reads, FlexibleReads, Verifies, Writes, LocksTried, LockQueries, NoFrames}

pub selects : Selects
unfolding Selects opening is_sealed without_check_value parameters_of command_with_code moved_up bit_taken bits byte_taken sealed stored bytes_from
selects = search

pub unselects_ne : UnselectsNe
unfolding UnselectsNe opening is_sealed without_check_value parameters_of command_with_code moved_up bit_taken bits byte_taken sealed stored bytes_from
unselects_ne = search

pub unselects_flag : UnselectsFlag
unfolding UnselectsFlag opening is_sealed without_check_value parameters_of command_with_code moved_up bit_taken bits byte_taken sealed stored bytes_from
unselects_flag = search

pub unselects_no_flag : UnselectsNoFlag
unfolding UnselectsNoFlag opening is_sealed without_check_value parameters_of command_with_code moved_up bit_taken bits byte_taken sealed stored bytes_from
unselects_no_flag = search

pub queries : Queries
unfolding Queries opening is_sealed without_check_value parameters_of command_with_code moved_up bit_taken bits byte_taken sealed stored bytes_from
queries = search

pub scrolls : Scrolls
unfolding Scrolls opening is_sealed without_check_value parameters_of command_with_code moved_up bit_taken bits byte_taken sealed stored bytes_from
scrolls = search

pub repeats : Repeats
unfolding Repeats opening is_sealed without_check_value parameters_of command_with_code moved_up bit_taken bits byte_taken sealed stored bytes_from
repeats = search

pub resets : Resets
unfolding Resets opening is_sealed without_check_value parameters_of command_with_code moved_up bit_taken bits byte_taken sealed stored bytes_from
resets = search

pub reads : Reads
unfolding Reads opening is_sealed without_check_value parameters_of command_with_code moved_up bit_taken bits byte_taken sealed stored bytes_from
reads = search

pub flexible_reads : FlexibleReads
unfolding FlexibleReads opening is_sealed without_check_value parameters_of command_with_code moved_up bit_taken bits byte_taken sealed stored bytes_from
flexible_reads = search

pub verifies : Verifies
unfolding Verifies opening is_sealed without_check_value parameters_of command_with_code moved_up bit_taken bits byte_taken sealed stored bytes_from
verifies = search

pub writes : Writes
unfolding Writes opening is_sealed without_check_value parameters_of command_with_code moved_up bit_taken bits byte_taken sealed stored bytes_from
writes = search

pub locks_tried : LocksTried
unfolding LocksTried opening is_sealed without_check_value parameters_of command_with_code moved_up bit_taken bits byte_taken sealed stored bytes_from
locks_tried = search

pub lock_queries : LockQueries
unfolding LockQueries opening is_sealed without_check_value parameters_of command_with_code moved_up bit_taken bits byte_taken sealed stored bytes_from
lock_queries = search

pub no_frames : NoFrames
unfolding NoFrames opening is_sealed without_check_value parameters_of command_with_code moved_up bit_taken bits byte_taken sealed stored bytes_from
no_frames = search

-- The listings, computed. Assumes nothing.
use Rattle.std.proofs.Common.{inl, inr}
use Rattle.crc.specs.Check.{moved_up, bit_taken, bits, byte_taken, sealed}
use Rattle.protocol.specs.Commands.{command_with_code}
use Rattle.frame.specs.Openings.{opening, is_sealed, without_check_value, parameters_of}
use Rattle.record.specs.Records.{bytes_from}
use Rattle.field.specs.Sends.{stepped_all, on_air, padded}
use Rattle.slot.specs.Commands.{select, query, scroll, repeat, read, serial_in}
use Rattle.slot.specs.Rules.{advanced, next_plain_hearing, MayHearNext, run_by, MayHearAll, replayed}
use Rattle.worked_cases.specs.Sweep.{WorkedSweeps, SpoiledSweeps, DeepSweeps, WorkedFates}

pub worked_sweeps : WorkedSweeps
unfolding WorkedSweeps advanced next_plain_hearing MayHearNext run_by MayHearAll replayed select query scroll repeat read serial_in stepped_all on_air padded opening is_sealed without_check_value parameters_of command_with_code moved_up bit_taken bits byte_taken sealed bytes_from
worked_sweeps = (search, (search inl, (search inl, (search, (search, (search inl, (search inl, (search inl, (search inl, search inl)))))))))

pub spoiled_sweeps : SpoiledSweeps
unfolding SpoiledSweeps advanced next_plain_hearing MayHearNext run_by MayHearAll replayed select query scroll repeat read serial_in stepped_all on_air padded opening is_sealed without_check_value parameters_of command_with_code moved_up bit_taken bits byte_taken sealed bytes_from
spoiled_sweeps = search (inl, inr)

pub deep_sweeps : DeepSweeps
unfolding DeepSweeps advanced next_plain_hearing MayHearNext run_by MayHearAll replayed select query scroll repeat read serial_in stepped_all on_air padded opening is_sealed without_check_value parameters_of command_with_code moved_up bit_taken bits byte_taken sealed bytes_from
deep_sweeps = search

pub worked_effects : WorkedFates
unfolding WorkedFates bytes_from
worked_effects = search

-- The listings, computed. Assumes nothing.
use Rattle.std.proofs.Common.{inl, inr}
use Rattle.crc.specs.Check.{moved_up, bit_taken, bits, byte_taken, sealed}
use Rattle.protocol.specs.Commands.{command_with_code}
use Rattle.frame.specs.Openings.{opening, is_sealed, without_check_value, parameters_of}
use Rattle.record.specs.Records.{bytes_from}
use Rattle.field.specs.Sends.{stepped_all, on_air, padded}
use Rattle.worked_cases.specs.Field.{Sends, Coins, MixedAirs, HeardAirs, HearingsListed, HeardTogether}

pub sends : Sends
unfolding Sends stepped_all on_air padded opening is_sealed without_check_value parameters_of command_with_code moved_up bit_taken bits byte_taken sealed bytes_from
sends = search

pub coins : Coins
unfolding Coins
coins = search

pub mixed_airs : MixedAirs
unfolding MixedAirs
mixed_airs = search

pub heard_airs : HeardAirs
unfolding HeardAirs
heard_airs = search (inl, inr)

pub hearings_listed : HearingsListed
unfolding HearingsListed
hearings_listed = search

pub heard_together : HeardTogether
unfolding HeardTogether
heard_together = search

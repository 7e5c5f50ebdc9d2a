-- The table is what the rule gives at 0 to 255, entry by entry, which antt computes.
use Rattle.std.proofs.Common.{ℕ, arith}
use Rattle.std.proofs.lemmas.List.FromFn.{get_or-map-range_with_len}
use Rattle.crc.specs.Check.{byte_taken, bit_taken, bits, moved_up}
use Rattle.crc.proofs.from_two.Goals as goal

pub returns : goal.returns
unfolding byte_taken bit_taken bits moved_up
returns c =
    get_or-map-range_with_len (λ (x : ℕ). byte_taken (byte_taken 0 x) 0) 0 256 c.from.result c.args.byte 0 (omega arith) (omega arith)

-- So far each byte that the loop has passed is written, behind what stands between.
use Rattle.std.proofs.Common.{take}
use Rattle.std.specs.Fmt.{HasWritten, IsPlainFormatter}
use Rattle.std.specs.List.{flat_map}
use Rattle.notation.specs.Hexadecimal.{behind}
use Rattle.notation.proofs.hexadecimal.HexDisplay.fmt.Given as goal

abbrev pub invariant-loop-byte : goal.invariant-loop-byte
invariant-loop-byte g l =
    IsPlainFormatter l.initial.f → HasWritten g.W.Write.write_str_gives l.initial.f (flat_map (behind l.self.between.now) (take l.byte-index l.rest)) l.f

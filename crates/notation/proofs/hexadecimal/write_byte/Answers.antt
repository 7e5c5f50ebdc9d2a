-- What the format writes is the byte's two digits.
use Rattle.std.proofs.Common.{arith}
use Rattle.notation.proofs.Shown.{byte_text}
use Rattle.notation.proofs.hexadecimal.write_byte.Goals as goal

pub returns : goal.returns
returns g c p ok = (rw (byte_text c.in_radix.result c.laid_out.result c.args.byte (omega arith) c.in_radix.ensures c.laid_out.ensures) at c.write.ensures.writes) p ok

-- The names of commands, parameters and refusals. Assumes nothing.
use Rattle.std.specs.Prelude.{ℕ, List, codes}
use Rattle.protocol.specs.declared.command.Command.{Command}
use Rattle.protocol.specs.declared.command.Parameter.{Parameter}
use Rattle.protocol.specs.declared.refusal.Refusal.{Refusal}
use Rattle.protocol.specs.declared.refusal.Refusal.TheVariants as refusal
use Rattle.protocol.specs.Commands.{form_of, shape_of}

abbrev pub command_name : Command → List ℕ
command_name c = (form_of c).name

abbrev pub parameter_name : Parameter → List ℕ
parameter_name p = (shape_of p).name

abbrev pub refusal_name : Refusal → List ℕ
refusal_name refusal.Stub = codes "stub"
refusal_name refusal.Check = codes "check"
refusal_name refusal.Code = codes "code"
refusal_name refusal.Length = codes "length"
refusal_name refusal.Buffer = codes "buffer"
refusal_name refusal.Crowd = codes "crowd"
refusal_name refusal.Coins = codes "coins"
refusal_name refusal.Period = codes "period"

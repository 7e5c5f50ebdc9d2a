-- What a request of the code says: its command, and its parameters in their order. Assumes nothing.
use Rattle.std.specs.Prelude.{ℕ, List, [], ◌∷◌, ◌++◌}
use Rattle.std.specs.Borrow.{Bor}
use Rattle.protocol.specs.declared.command.Command.TheVariants as command
use Rattle.protocol.specs.declared.command.Command.{Command}
use Rattle.protocol.specs.declared.command.Parameter.{Parameter}
use Rattle.protocol.specs.declared.command.Parameter.TheVariants.{Serial, Address, Mask, Word, Data, Length, Ignored}
use Rattle.frame.specs.declared.request.At.{At}
use Rattle.frame.specs.declared.request.Comparison.{Comparison}
use Rattle.frame.specs.declared.request.Target.{Target}
use Rattle.frame.specs.declared.request.Request.{Request}
use Rattle.frame.specs.declared.request.Request.TheVariants.{Select, UnselectNe, UnselectIdFlag, UnselectNoidFlag, Query, Scroll, Repeat, Reset, Read, Verify, Lock, Qlock, ReadFlexible, Write}
use Rattle.frame.specs.Parts.{Part}

abbrev pub byte_part : Parameter → At (Bor ℕ) → Part
byte_part p b = record { parameter = p; offset = b.offset; bytes = b.part.now ∷ [] }

abbrev pub bytes_part : Parameter → At (Bor (List ℕ)) → Part
bytes_part p b = record { parameter = p; offset = b.offset; bytes = b.part.now }

abbrev pub comparison_parts : Comparison → List Part
comparison_parts c = byte_part Address c.address ∷ byte_part Mask c.mask ∷ bytes_part Word c.word ∷ []

abbrev pub target_parts : Target → List Part
target_parts t = bytes_part Serial t.serial ∷ byte_part Address t.address ∷ []

-- Its command and its parameters.
abbrev pub command_and_parts : Request → Command × List Part
command_and_parts (Select c) = (command.Select, comparison_parts c)
command_and_parts (UnselectNe c) = (command.UnselectNe, comparison_parts c)
command_and_parts (UnselectIdFlag b) = (command.UnselectIdFlag, bytes_part Ignored b ∷ [])
command_and_parts (UnselectNoidFlag b) = (command.UnselectNoidFlag, bytes_part Ignored b ∷ [])
command_and_parts Query = (command.Query, [])
command_and_parts Scroll = (command.Scroll, [])
command_and_parts Repeat = (command.Repeat, [])
command_and_parts Reset = (command.Reset, [])
command_and_parts (Read t) = (command.Read, target_parts t)
command_and_parts (Verify t) = (command.Verify, target_parts t)
command_and_parts (Lock t) = (command.Lock, target_parts t)
command_and_parts (Qlock t) = (command.Qlock, target_parts t)
command_and_parts (ReadFlexible t l) = (command.ReadFlexible, target_parts t ++ byte_part Length l ∷ [])
command_and_parts (Write t m d) = (command.Write, target_parts t ++ byte_part Mask m ∷ bytes_part Data d ∷ [])

abbrev pub command_of : Request → Command
command_of r = (command_and_parts r).0

abbrev pub parts_of : Request → List Part
parts_of r = (command_and_parts r).1

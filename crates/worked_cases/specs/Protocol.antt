-- The words of the protocol, by the second implementation, which wrote this file. Assumes nothing.
use Prim.Native.String.{String}
use Rattle.std.specs.Prelude.{◌≡◌, ℕ, List, [], ◌∷◌, map, Some, None, codes}
use Rattle.std.specs.List.{AllByRecursion}
use Rattle.protocol.specs.declared.command.Command.{Command}
use Rattle.protocol.specs.declared.command.Command.TheVariants.{Select, UnselectNe, UnselectIdFlag, UnselectNoidFlag}
use Rattle.protocol.specs.declared.command.Command.TheVariants.{Query, Scroll, Repeat, Reset, Read, Verify, Lock}
use Rattle.protocol.specs.declared.command.Command.TheVariants.{Qlock, ReadFlexible, Write}
use Rattle.protocol.specs.declared.command.Parameter.{Parameter}
use Rattle.protocol.specs.declared.command.Parameter.TheVariants.{Serial, Address, Mask, Word, Data, Length, Ignored}
use Rattle.protocol.specs.declared.refusal.Refusal.{Refusal}
use Rattle.protocol.specs.declared.refusal.Refusal.TheVariants as refusal
use Rattle.protocol.specs.Commands.{code_of, layout, size_of, length_of, commands}
use Rattle.protocol.specs.Commands.{command_with_code, entry_of, first_entry}
use Rattle.protocol.specs.Names.{command_name, parameter_name, refusal_name}
use Rattle.protocol.specs.Refusals.{number_of}

-- The fourteen commands, each with its name, its code, its parameters in their order, and its frame's length.
unfoldable pub CommandsListed : Type 0
CommandsListed =
    AllByRecursion {X = Command × String × ℕ × List Parameter × ℕ}
    (λ (command, name, code, parameters, length).
    (command_name command ≡ codes name) × (code_of command ≡ code) × (layout command ≡ parameters)
    × (length_of command ≡ length) × (command_with_code code ≡ Some command)
    × (first_entry code (map entry_of commands)
    ≡ Some (record { command = command; code = code; length = length })))
    ((Select, "SELECT", 0x00, Address ∷ Mask ∷ Word ∷ [], 13)
    ∷ (UnselectNe, "UNSELECT_NE", 0x05, Address ∷ Mask ∷ Word ∷ [], 13)
    ∷ (UnselectIdFlag, "UNSELECT_ID_FLAG", 0x19, Ignored ∷ [], 5)
    ∷ (UnselectNoidFlag, "UNSELECT_NOID_FLAG", 0x1a, Ignored ∷ [], 5) ∷ (Query, "QUERY", 0x08, [], 3)
    ∷ (Scroll, "SCROLL", 0x09, [], 3) ∷ (Repeat, "REPEAT", 0x15, [], 3) ∷ (Reset, "RESET", 0x0a, [], 3)
    ∷ (Read, "READ", 0x0c, Serial ∷ Address ∷ [], 12) ∷ (Verify, "VERIFY", 0x1d, Serial ∷ Address ∷ [], 12)
    ∷ (Lock, "LOCK", 0x0f, Serial ∷ Address ∷ [], 12) ∷ (Qlock, "QLOCK", 0x11, Serial ∷ Address ∷ [], 12)
    ∷ (ReadFlexible, "READ_FLEXIBLE", 0x51, Serial ∷ Address ∷ Length ∷ [], 13)
    ∷ (Write, "WRITE", 0x1b, Serial ∷ Address ∷ Mask ∷ Data ∷ [], 17) ∷ [])

-- Codes that no command has, most of them one bit away from one.
unfoldable pub UnknownCodes : Type 0
UnknownCodes =
    AllByRecursion (λ code. (command_with_code code ≡ None) × (first_entry code (map entry_of commands) ≡ None))
    (0x01 ∷ 0x04 ∷ 0x0b ∷ 0x0d ∷ 0x18 ∷ 0x1c ∷ 0x50 ∷ 0x80 ∷ 0x9b ∷ 0xff ∷ [])

-- The parameters, with their names and how many bytes each has.
unfoldable pub ParametersListed : Type 0
ParametersListed =
    AllByRecursion {X = Parameter × String × ℕ}
    (λ (parameter, name, size). (parameter_name parameter ≡ codes name) × (size_of parameter ≡ size))
    ((Address, "ADDRESS", 1) ∷ (Mask, "BYTE_MASK", 1) ∷ (Word, "WORD_DATA", 8) ∷ (Ignored, "IGNORED", 2)
    ∷ (Serial, "SNR", 8) ∷ (Length, "LENGTH", 1) ∷ (Data, "BLOCK_DATA", 4) ∷ [])

-- The refusals, with their numbers and names.
unfoldable pub RefusalsListed : Type 0
RefusalsListed =
    AllByRecursion {X = Refusal × ℕ × String}
    (λ (refusal, number, name). (number_of refusal ≡ number) × (refusal_name refusal ≡ codes name))
    ((refusal.Stub, 1, "stub") ∷ (refusal.Check, 2, "check") ∷ (refusal.Code, 3, "code")
    ∷ (refusal.Length, 4, "length") ∷ (refusal.Buffer, 5, "buffer") ∷ (refusal.Crowd, 6, "crowd")
    ∷ (refusal.Coins, 10, "coins") ∷ (refusal.Period, 11, "period") ∷ [])

-- Looking a code up. Assumes nothing.
use Rattle.std.specs.Prelude.{◌≡◌, ℕ, Some, None, Result, MatchResult}
use Rattle.protocol.specs.declared.command.Entry.{Entry}
use Rattle.protocol.specs.declared.refusal.Refusal.{Refusal}
use Rattle.protocol.specs.Commands.{command_with_code, entry_of}
use Rattle.protocol.specs.Refusals.{number_of}

-- What a code gives: the entry of the command that has it, or refusal 3 where none has.
abbrev pub EntryOrRefusal : ℕ → Result Entry Refusal → Type 0
EntryOrRefusal code r =
    MatchResult r (λ entry. (command_with_code code ≡ Some entry.command) × (entry ≡ entry_of entry.command)) (λ e. (number_of e ≡ 3) × (command_with_code code ≡ None))

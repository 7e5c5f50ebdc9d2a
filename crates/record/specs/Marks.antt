-- Write marks by their numbers. Assumes nothing.
use Rattle.std.specs.Prelude.{◌≡◌, ◌<◌, ℕ, codes, Result, MatchResult}
use Rattle.record.specs.declared.WriteMark.{WriteMark}
use Rattle.record.specs.declared.unknown.Unknown.{Unknown}
use Rattle.record.specs.Names.{unknown_text}
use Rattle.record.specs.Records.{mark_number}

-- What reading a number gives: the mark that has it, or an error, by its text, where none has.
abbrev pub ReadsMark : ℕ → Result WriteMark Unknown → Type 0
ReadsMark number r = MatchResult r (λ mark. mark_number mark ≡ number) (λ e. (unknown_text e ≡ codes "no write mark") × (2 < number))

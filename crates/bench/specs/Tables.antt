-- Tables of tags. Assumes nothing.
use Rattle.std.specs.Prelude.{ℕ, List, position, Option}
use Rattle.record.specs.declared.Tag.{Tag}
use Rattle.tag.specs.Steps.{has_serial}

-- The first place with a serial number, if one has it.
abbrev pub place_of : List Tag → List ℕ → Option ℕ
place_of table serial = position (λ t. has_serial t serial) table

-- Two lists of tags compared place by place. Assumes nothing.
use Rattle.std.specs.Prelude.{ℕ, Bool, List}
use Rattle.std.specs.List.{slice_get}
use Rattle.std.specs.Option.{option_eq}
use Rattle.record.specs.declared.Tag.{Tag}
use Rattle.record.specs.Alike.{alike}

-- Whether both have tags alike at a place, or none.
abbrev pub alike_at : List Tag → List Tag → ℕ → Bool
alike_at left right place = option_eq alike (slice_get left place) (slice_get right place)

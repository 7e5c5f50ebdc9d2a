-- What a gap does to a tag. Assumes nothing.
use Rattle.std.specs.Prelude.{ℕ, false, if◌then◌else◌, None, nat_lt}
use Rattle.record.specs.declared.State.TheVariants.{Ready}
use Rattle.record.specs.declared.WriteMark.TheVariants.{Clear}
use Rattle.record.specs.declared.Tag.{Tag}

-- All but the ID flag is forgotten.
abbrev pub interrupted : Tag → Tag
interrupted t = record t { state = Ready; counter = 0; mark = Clear; permission = None }

-- A gap in microseconds: nothing below 250, all but the ID flag from there on, and all from 4,000,000 on.
abbrev pub after_gap : ℕ → Tag → Tag
after_gap us t =
    if nat_lt us 250 then t
    else (if nat_lt us 4000000 then interrupted t else record (interrupted t) { identified = false })

-- What is said by the tags of a table. Assumes nothing.
use Rattle.std.specs.Prelude.{ℕ, List, [], Some, None, Option}
use Rattle.std.specs.List.{slice_get}
use Rattle.crc.specs.Check.{sealed}
use Rattle.record.specs.declared.Tag.{Tag}
use Rattle.reply.specs.declared.Reply.{Reply}
use Rattle.reply.specs.Replies.{data_of}
use Rattle.field.specs.declared.hearing.Hearing.{Hearing}
use Rattle.field.specs.declared.hearing.Hearing.TheVariants.{Silence, Lone, Clash}
use Rattle.field.specs.Airs.{Air, silent, one, many, together}

-- The bytes of a reply, by the tag that gives it.
abbrev pub replied_bytes : Option Tag → Reply → List ℕ
replied_bytes None reply = []
replied_bytes (Some tag) reply = sealed (data_of tag reply)

-- What is on the air where a tag, by its place, has replied.
abbrev pub air_of_replier : Option (ℕ × Reply) → List Tag → Air
air_of_replier None table = silent
air_of_replier (Some (place, reply)) table = one (replied_bytes (slice_get table place) reply)

-- The replies that a hearing stands for, if it is known which tag replied last, and what.
abbrev pub air_so_far : Hearing → Option (ℕ × Reply) → List Tag → Air
air_so_far Silence replier table = silent
air_so_far Lone replier table = air_of_replier replier table
air_so_far Clash replier table = many

-- The hearing and the last speaker, with what one tag more replies.
abbrev pub hearing_with : Hearing → Option Reply → Hearing
hearing_with hearing None = hearing
hearing_with hearing (Some reply) = together hearing Lone

abbrev pub replier_with : Option (ℕ × Reply) → ℕ → Option Reply → Option (ℕ × Reply)
replier_with replier place None = replier
replier_with replier place (Some reply) = Some (place, reply)

-- What benches and singles hold. Assumes nothing.
use Rattle.std.specs.Prelude.{List, [], ◌∷◌, length, if◌then◌else◌, ◌==◌}
use Rattle.std.specs.Borrow.{MutBor}
use Rattle.record.specs.declared.Tag.{Tag}
use Rattle.bench.specs.declared.bench.Bench.{Bench}
use Rattle.bench.specs.declared.single.Single.{Single}

-- The caller's table that a bench has.
abbrev pub table_of : Bench → MutBor (List Tag)
table_of bench = bench.table

-- The tag that a single is.
abbrev pub tag_of : Single → Tag
tag_of single = single.tag

-- The tags that a single means: its one. Its memory has 56 bytes by its type; of any other length, which is never made,
-- it would mean no tag, so that each tag of every field has its 56 bytes.
abbrev pub tags_of : Single → List Tag
tags_of single = if length single.tag.memory == 56 then single.tag ∷ [] else []

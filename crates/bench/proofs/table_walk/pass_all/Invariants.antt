use Rattle.std.proofs.Common.{◌≡◌, ◌++◌, map, take, drop}
use Rattle.record.specs.Gaps.{after_gap}
use Rattle.bench.proofs.table_walk.pass_all.Given as goal

abbrev pub invariant-loop-tag : goal.invariant-loop-tag
invariant-loop-tag l = take l.tag-index l.table ++ map (after_gap l.microseconds) (drop l.tag-index l.table) ≡ map (after_gap l.microseconds) l.initial.table

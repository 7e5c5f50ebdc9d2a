use Rattle.frame.specs.Openings.{opening_of}
use Rattle.bench.proofs.Walking.{Walked}
use Rattle.bench.proofs.table_walk.step_each.Given as goal

abbrev pub invariant-loop-place : goal.invariant-loop-place
invariant-loop-place l = Walked (opening_of l.opened) l.row l.initial.table l.table l.place l.coins l.heard.hearing l.heard.replier

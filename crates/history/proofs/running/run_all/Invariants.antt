use Rattle.std.proofs.Common.{List, ◌++◌, take, drop}
use Rattle.history.specs.declared.workspace.Workspace.{Workspace}
use Rattle.history.specs.Runs.{Ran}
use Rattle.history.proofs.running.run_all.Given as goal

-- Whatever the rest of the run makes of the field and the workspaces from here on, the whole run makes.
abbrev pub invariant-loop-place : goal.invariant-loop-place
invariant-loop-place g l =
    (rest : List Workspace) (end : g.row.F.Denot) → Ran g.F.Field (drop l.place l.calls) (drop l.place l.workspaces) rest l.field end
    → Ran g.F.Field l.calls l.fn.workspaces (take l.place l.workspaces ++ rest) l.fn.field end

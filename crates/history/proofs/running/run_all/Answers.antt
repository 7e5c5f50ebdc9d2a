use Rattle.std.proofs.Common.{◌≡◌, ◌<◌, List, [], ◌∷◌, length, drop, sym, subst, arith}
use Rattle.std.proofs.lemmas.List.{drop_all, take-append-drop}
use Rattle.history.specs.declared.call.Call.{Call}
use Rattle.history.specs.declared.workspace.Workspace.{Workspace}
use Rattle.history.specs.Runs.{Ran}
use Rattle.history.proofs.Calls.{ran_none, ran_from, workspaces_on}
use Rattle.history.proofs.running.run_all.Goals as goal

pub loop-place-init : goal.loop-place-init
loop-place-init g c = λ rest end run. run

pub loop-place-preserved : goal.loop-place-preserved
loop-place-preserved g c = λ rest end run.
    let w = c.loop-place in
    let in_workspaces : w.place < length w.workspaces = omega arith in
    subst (λ (ds : List Workspace). Ran g.F.Field c.args.calls.now c.args.workspaces.now ds c.args.field.now end)
    (sym (workspaces_on w.workspaces w.place c.meet.new.workspace rest in_workspaces))
    (w.invariant (c.meet.new.workspace ∷ rest) end
    (ran_from g.F.Field c.args.calls.now w.workspaces w.place _ c.index-workspaces-place.result c.meet.new.workspace rest w.field c.meet.new.field end
    (omega arith) in_workspaces c.meet.ensures run))

pub returns : goal.returns
returns g c =
    let w = c.loop-place in
    let none : drop w.place c.args.calls.now ≡ [] = drop_all w.place c.args.calls.now (omega arith) in
    subst (λ (ds : List Workspace). Ran g.F.Field c.args.calls.now c.args.workspaces.now ds c.args.field.now w.field) (take-append-drop w.place w.workspaces)
    (w.invariant (drop w.place w.workspaces) w.field
    (subst (λ (cs : List Call). Ran g.F.Field cs (drop w.place w.workspaces) (drop w.place w.workspaces) w.field w.field) (sym none)
    (ran_none g.F.Field (drop w.place w.workspaces) w.field)))

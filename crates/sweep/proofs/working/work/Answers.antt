use Rattle.std.proofs.Common.{◌≡◌, ◌<◌, ◌≤◌, List, [], ◌∷◌, length, Ok, Err, sym, refl, ◌∙◌, subst, arith}
use Rattle.protocol.specs.declared.command.Command.TheVariants.{Select}
use Rattle.slice_vec.specs.Filling.{items_of}
use Rattle.field.specs.declared.hearing.Hearing.{Hearing}
use Rattle.field.specs.declared.hearing.Hearing.TheVariants.{Silence, Lone, Clash}
use Rattle.slot.specs.declared.listed.ListedSlot.{ListedSlot}
use Rattle.slot.specs.declared.counts.Counts.{Counts}
use Rattle.slot.specs.declared.kinds.Continuation.{Continuation}
use Rattle.slot.specs.declared.kinds.Continuation.TheVariants as continuation
use Rattle.slot.specs.declared.kinds.Unsplit.TheVariants as unsplit
use Rattle.slot.specs.Counts.{with_slot}
use Rattle.slot.specs.Calls.{Position, at_slot, counts_in, setting, ReachesPosition, Continues, IsWithin, no_counts, listed_slot}
use Rattle.slot.specs.Slots.{phase_of, progress_of, heard_in}
use Rattle.slot.specs.Rules.{beginning}
use Rattle.sweep.specs.Working.{position_gone_on, position_worked, Tallied, HasSent}
use Rattle.slot.proofs.Handing.{handed}
use Rattle.sweep.proofs.Walks.{come_on, behind_on, few}
use Rattle.sweep.proofs.working.work.Goals as goal

first_tally : (h : Hearing) (row : ListedSlot) → row.hearing ≡ h → Tallied (with_slot h no_counts) (row ∷ [])
first_tally Silence row e = record { lone = rw e refl; silent = rw e refl; clash = rw e refl }
first_tally Lone row e = record { lone = rw e refl; silent = rw e refl; clash = rw e refl }
first_tally Clash row e = record { lone = rw e refl; silent = rw e refl; clash = rw e refl }

pub returns-in_err-slot-clause-rule : goal.returns-in_err-slot-clause-rule
returns-in_err-slot-clause-rule g c =
    subst (λ (w : Position). ReachesPosition g.F.Field (setting c.args.coins.now c.args.budget c.args.lists.now) (beginning (g.F.Field.tags c.args.field.now)) w c.args.field.now c.open.new.field c.open.new.lists)
    (handed position_worked c.from_residual.result (unsplit.Stopped c.in_err-slot.field-0.0) c.from_residual.ensures.1) (c.in_err-slot.ensures.rule c.args.coins.now)

pub loop-next-init : goal.loop-next-init
loop-next-init g c =
    record {
      rule = c.in_ok-slot.ensures.rule c.args.coins.now;
      behind = c.in_ok-slot.ensures.behind;
      same = c.in_ok-slot.ensures.within.0;
      within = c.in_ok-slot.ensures.within.1;
      tally = subst (λ (k : Counts). Tallied k (items_of c.open.new.lists.slots)) (sym c.in_ok-slot.ensures.counts)
          (subst (λ (rows : List ListedSlot). Tallied (with_slot (heard_in c.in_ok-slot.slot) no_counts) rows) (sym c.in_ok-slot.ensures.slots)
          (first_tally (heard_in c.in_ok-slot.slot) (listed_slot Select c.in_ok-slot.slot) refl));
    }

pub returns-in_err-next-clause-rule : goal.returns-in_err-next-clause-rule
returns-in_err-next-clause-rule g c =
    subst (λ (w : Position). ReachesPosition g.F.Field (setting c.args.coins.now c.args.budget c.args.lists.now) (beginning (g.F.Field.tags c.args.field.now)) w c.args.field.now c.work_slot.new.field c.work_slot.new.lists)
    (handed position_worked c.from_residual-in_err-next.result c.in_err-next.field-0.0 c.from_residual-in_err-next.ensures.1)
    (come_on g.F.Field c.args.coins.now c.args.budget c.args.lists.now c.args.field.now (phase_of c.loop-next.slot) (progress_of c.loop-next.slot) c.loop-next.lists c.loop-next.field c.loop-next.invariant.rule c.loop-next.invariant.same c.loop-next.invariant.behind (position_gone_on (Err c.in_err-next.field-0.0)) c.work_slot.new.lists c.work_slot.new.field c.in_err-next.ensures.rule)

pub returns-in_err-next-clause-behind : goal.returns-in_err-next-clause-behind
returns-in_err-next-clause-behind g c =
    behind_on g.F.Field c.args.coins.now c.args.budget c.args.lists.now c.args.field.now (phase_of c.loop-next.slot) (progress_of c.loop-next.slot) c.loop-next.lists c.loop-next.field c.loop-next.invariant.rule c.loop-next.invariant.same c.loop-next.invariant.behind (position_gone_on (Err c.in_err-next.field-0.0)) c.work_slot.new.lists c.work_slot.new.field c.in_err-next.ensures.rule c.in_err-next.ensures.behind

pub returns-in_err-next-clause-tally : goal.returns-in_err-next-clause-tally
returns-in_err-next-clause-tally g c =
    let come = come_on g.F.Field c.args.coins.now c.args.budget c.args.lists.now c.args.field.now (phase_of c.loop-next.slot) (progress_of c.loop-next.slot) c.loop-next.lists c.loop-next.field c.loop-next.invariant.rule c.loop-next.invariant.same c.loop-next.invariant.behind (position_gone_on (Err c.in_err-next.field-0.0)) c.work_slot.new.lists c.work_slot.new.field c.in_err-next.ensures.rule in
    let short : length (items_of c.work_slot.new.lists.slots) ≤ 65535 = omega (arith, few g.F.Field c.args.coins.now c.args.budget c.args.lists.now c.args.field.now (position_gone_on (Err c.in_err-next.field-0.0)) c.work_slot.new.field c.work_slot.new.lists come, c.ranges.budget.fits) in
    subst (λ (w : Position). Tallied (counts_in w) (items_of c.work_slot.new.lists.slots))
    (handed position_worked c.from_residual-in_err-next.result c.in_err-next.field-0.0 c.from_residual-in_err-next.ensures.1)
    (c.in_err-next.ensures.tally c.loop-next.invariant.tally short)

pub loop-next-smaller : goal.loop-next-smaller
loop-next-smaller g c =
    let more : (progress_of c.loop-next.slot).counts.commands < (progress_of c.in-Next.next).counts.commands =
    subst (λ (l : Continuation). HasSent (progress_of c.loop-next.slot).counts.commands (position_gone_on (Ok l))) c.in-Next.is c.in_ok-next.ensures.sent in
    let within = subst (λ (l : Continuation). IsWithin (progress_of c.loop-next.slot).budget (position_gone_on (Ok l))) c.in-Next.is c.in_ok-next.ensures.within in
    let inside : (progress_of c.in-Next.next).counts.commands ≤ c.args.budget = omega (arith, within.1, c.loop-next.invariant.same) in
    omega arith

pub loop-next-preserved : goal.loop-next-preserved
loop-next-preserved g c =
    let next = (subst (λ (l : Continuation). Continues g.F.Field c.args.coins.now (at_slot (phase_of c.loop-next.slot) (progress_of c.loop-next.slot)) (position_gone_on (Ok l)) c.loop-next.field c.work_slot.new.field c.loop-next.lists c.work_slot.new.lists) c.in-Next.is c.in_ok-next.ensures.rule) in
    let come = come_on g.F.Field c.args.coins.now c.args.budget c.args.lists.now c.args.field.now (phase_of c.loop-next.slot) (progress_of c.loop-next.slot) c.loop-next.lists c.loop-next.field c.loop-next.invariant.rule c.loop-next.invariant.same c.loop-next.invariant.behind (position_gone_on (Ok (continuation.Next c.in-Next.next))) c.work_slot.new.lists c.work_slot.new.field next in
    let within = subst (λ (l : Continuation). IsWithin (progress_of c.loop-next.slot).budget (position_gone_on (Ok l))) c.in-Next.is c.in_ok-next.ensures.within in
    let short : length (items_of c.work_slot.new.lists.slots) ≤ 65535 = omega (arith, few g.F.Field c.args.coins.now c.args.budget c.args.lists.now c.args.field.now (position_gone_on (Ok (continuation.Next c.in-Next.next))) c.work_slot.new.field c.work_slot.new.lists come, c.ranges.budget.fits) in
    record {
      rule = come;
      behind = behind_on g.F.Field c.args.coins.now c.args.budget c.args.lists.now c.args.field.now (phase_of c.loop-next.slot) (progress_of c.loop-next.slot) c.loop-next.lists c.loop-next.field c.loop-next.invariant.rule c.loop-next.invariant.same c.loop-next.invariant.behind (position_gone_on (Ok (continuation.Next c.in-Next.next))) c.work_slot.new.lists c.work_slot.new.field next c.in_ok-next.ensures.behind;
      same = within.0 ∙ c.loop-next.invariant.same;
      within = omega (arith, within.1, c.loop-next.invariant.same);
      tally = subst (λ (l : Continuation). Tallied (counts_in (position_gone_on (Ok l))) (items_of c.work_slot.new.lists.slots)) c.in-Next.is (c.in_ok-next.ensures.tally c.loop-next.invariant.tally short);
    }

pub returns-in-Whole-clause-rule : goal.returns-in-Whole-clause-rule
returns-in-Whole-clause-rule g c =
    come_on g.F.Field c.args.coins.now c.args.budget c.args.lists.now c.args.field.now (phase_of c.loop-next.slot) (progress_of c.loop-next.slot) c.loop-next.lists c.loop-next.field c.loop-next.invariant.rule c.loop-next.invariant.same c.loop-next.invariant.behind (position_gone_on (Ok (continuation.Whole c.in-Whole.counts))) c.work_slot.new.lists c.work_slot.new.field
    (subst (λ (l : Continuation). Continues g.F.Field c.args.coins.now (at_slot (phase_of c.loop-next.slot) (progress_of c.loop-next.slot)) (position_gone_on (Ok l)) c.loop-next.field c.work_slot.new.field c.loop-next.lists c.work_slot.new.lists) c.in-Whole.is c.in_ok-next.ensures.rule)

pub returns-in-Whole-clause-behind : goal.returns-in-Whole-clause-behind
returns-in-Whole-clause-behind g c =
    behind_on g.F.Field c.args.coins.now c.args.budget c.args.lists.now c.args.field.now (phase_of c.loop-next.slot) (progress_of c.loop-next.slot) c.loop-next.lists c.loop-next.field c.loop-next.invariant.rule c.loop-next.invariant.same c.loop-next.invariant.behind (position_gone_on (Ok (continuation.Whole c.in-Whole.counts))) c.work_slot.new.lists c.work_slot.new.field
    (subst (λ (l : Continuation). Continues g.F.Field c.args.coins.now (at_slot (phase_of c.loop-next.slot) (progress_of c.loop-next.slot)) (position_gone_on (Ok l)) c.loop-next.field c.work_slot.new.field c.loop-next.lists c.work_slot.new.lists) c.in-Whole.is c.in_ok-next.ensures.rule) c.in_ok-next.ensures.behind

pub returns-in-Whole-clause-tally : goal.returns-in-Whole-clause-tally
returns-in-Whole-clause-tally g c =
    let come = come_on g.F.Field c.args.coins.now c.args.budget c.args.lists.now c.args.field.now (phase_of c.loop-next.slot) (progress_of c.loop-next.slot) c.loop-next.lists c.loop-next.field c.loop-next.invariant.rule c.loop-next.invariant.same c.loop-next.invariant.behind (position_gone_on (Ok (continuation.Whole c.in-Whole.counts))) c.work_slot.new.lists c.work_slot.new.field
    (subst (λ (l : Continuation). Continues g.F.Field c.args.coins.now (at_slot (phase_of c.loop-next.slot) (progress_of c.loop-next.slot)) (position_gone_on (Ok l)) c.loop-next.field c.work_slot.new.field c.loop-next.lists c.work_slot.new.lists) c.in-Whole.is c.in_ok-next.ensures.rule) in
    let short : length (items_of c.work_slot.new.lists.slots) ≤ 65535 = omega (arith, few g.F.Field c.args.coins.now c.args.budget c.args.lists.now c.args.field.now (position_gone_on (Ok (continuation.Whole c.in-Whole.counts))) c.work_slot.new.field c.work_slot.new.lists come, c.ranges.budget.fits) in
    subst (λ (l : Continuation). Tallied (counts_in (position_gone_on (Ok l))) (items_of c.work_slot.new.lists.slots)) c.in-Whole.is (c.in_ok-next.ensures.tally c.loop-next.invariant.tally short)

use Rattle.std.proofs.Common.{◌≡◌, ℕ, ◌+◌, ◌<◌, List, Ok, sym, refl, ap, ◌∙◌, subst, arith}
use Rattle.field.specs.declared.hearing.Hearing.{Hearing}
use Rattle.field.specs.declared.hearing.Hearing.TheVariants.{Silence, Lone, Clash}
use Rattle.slot.specs.declared.kinds.Continuation.{Continuation}
use Rattle.slot.specs.declared.kinds.Continuation.TheVariants as continuation
use Rattle.slot.specs.declared.kinds.Slot.{Slot}
use Rattle.slot.specs.declared.counts.Counts.{Counts}
use Rattle.slot.specs.declared.lists.Lists.{Lists}
use Rattle.field.specs.declared.field.Field.{Ghosts as Kind}
use Rattle.slot.specs.Slots.{progress_of, heard_in}
use Rattle.slot.specs.declared.kinds.Unsplit.TheVariants as unsplit
use Rattle.slot.specs.Counts.{stop_number, with_slot}
use Rattle.slot.specs.Calls.{Position, at_open_slot, over, position_after, setting, ReachesPosition, Continues, counts_in, counts_after}
use Rattle.sweep.specs.Working.{position_gone_on, HasSent}
use Rattle.slot.proofs.Handing.{handed}
use Rattle.slot.proofs.Moves.{led_on, setting_same}
use Rattle.sweep.proofs.working.work_slot.Goals as goal

-- What a call has to show, by the slot that it is given.
abbrev From : {F : Type 0} → Kind F → List ℕ → Lists → F → Position → Lists → F → Slot → Type 0
From kind coins before a w after b slot = Continues kind coins (at_open_slot slot) w a b before after

counted_commands : (h : Hearing) (n : Counts) → (with_slot h n).commands ≡ n.commands + 1
counted_commands Silence n = refl
counted_commands Lone n = refl
counted_commands Clash n = refl

left_sent : (sent : ℕ) (n : Counts) (l : Continuation) → sent < n.commands → counts_in (position_after (Ok l)) ≡ counts_after n (Ok l) → HasSent sent (position_gone_on (Ok l))
left_sent sent n (continuation.Next s) less e =
    let k : (progress_of s).counts.commands ≡ n.commands + 1 = ap (λ (x : Counts). x.commands) e ∙ counted_commands (heard_in s) n in omega arith
left_sent sent n (continuation.Whole m) less e = tt

pub returns-in_err-leave-in-Silent-clause-rule : goal.returns-in_err-leave-in-Silent-clause-rule
returns-in_err-leave-in-Silent-clause-rule g c =
    subst (From g.F.Field c.args.coins.now c.args.lists.now c.args.field.now (position_gone_on c.from_residual.result) c.leave.new.lists c.leave.new.field) (sym c.in-Silent.is)
    (λ p s.
    subst (λ (w : Position). ReachesPosition g.F.Field (setting c.args.coins.now c.in-Silent.silent.progress.budget c.args.lists.now) p w c.args.field.now c.leave.new.field c.leave.new.lists)
    (handed position_gone_on c.from_residual.result (unsplit.Stopped c.in_err-leave-in-Silent.field-0.0) c.from_residual.ensures.1)
    (c.in_err-leave-in-Silent.ensures.rule c.args.coins.now p s))

pub returns-in_err-read-in-Lone-clause-rule : goal.returns-in_err-read-in-Lone-clause-rule
returns-in_err-read-in-Lone-clause-rule g c =
    subst (From g.F.Field c.args.coins.now c.args.lists.now c.args.field.now (position_gone_on c.from_residual-in_err-read-in-Lone.result) c.read.new.lists c.read.new.field) (sym c.in-Lone.is)
    (λ p s.
    subst (λ (w : Position). ReachesPosition g.F.Field (setting c.args.coins.now c.in-Lone.lone.progress.budget c.args.lists.now) p w c.args.field.now c.read.new.field c.read.new.lists)
    (handed position_gone_on c.from_residual-in_err-read-in-Lone.result (unsplit.Stopped c.in_err-read-in-Lone.field-0.0) c.from_residual-in_err-read-in-Lone.ensures.1)
    (c.in_err-read-in-Lone.ensures.rule c.args.coins.now p s))

pub returns-in_err-leave-in-Lone-clause-rule : goal.returns-in_err-leave-in-Lone-clause-rule
returns-in_err-leave-in-Lone-clause-rule g c =
    subst (From g.F.Field c.args.coins.now c.args.lists.now c.args.field.now (position_gone_on c.from_residual-in_err-leave-in-Lone.result) c.leave-in-Lone.new.lists c.leave-in-Lone.new.field) (sym c.in-Lone.is)
    (λ p s.
    let first = c.in_ok-read-in-Lone.ensures.rule c.args.coins.now p s in
    let same = setting_same c.args.coins.now c.in-Lone.lone.progress.budget c.in_ok-read-in-Lone.field-0.progress.budget c.args.lists.now c.read.new.lists c.in_ok-read-in-Lone.ensures.within.0
    c.in_ok-read-in-Lone.ensures.behind.slots.room c.in_ok-read-in-Lone.ensures.behind.serials.room in
    subst (λ (w : Position). ReachesPosition g.F.Field (setting c.args.coins.now c.in-Lone.lone.progress.budget c.args.lists.now) p w c.args.field.now c.leave-in-Lone.new.field c.leave-in-Lone.new.lists)
    (handed position_gone_on c.from_residual-in_err-leave-in-Lone.result (unsplit.Stopped c.in_err-leave-in-Lone.field-0.0) c.from_residual-in_err-leave-in-Lone.ensures.1)
    (led_on g.F.Field _ _ p first.0 (over (stop_number c.in_err-leave-in-Lone.field-0.0.stop) c.in_err-leave-in-Lone.field-0.0.counts) c.args.field.now c.read.new.field c.leave-in-Lone.new.field c.leave-in-Lone.new.lists first.1 same (c.in_err-leave-in-Lone.ensures.rule c.args.coins.now first.0 first.2)))

pub returns-in_err-split-in-Clash-clause-rule : goal.returns-in_err-split-in-Clash-clause-rule
returns-in_err-split-in-Clash-clause-rule g c =
    subst (From g.F.Field c.args.coins.now c.args.lists.now c.args.field.now (position_gone_on c.from_residual-in_err-split-in-Clash.result) c.split.new.lists c.split.new.field) (sym c.in-Clash.is)
    (λ p s.
    subst (λ (w : Position). ReachesPosition g.F.Field (setting c.args.coins.now c.in-Clash.clash.progress.budget c.args.lists.now) p w c.args.field.now c.split.new.field c.split.new.lists)
    (handed position_gone_on c.from_residual-in_err-split-in-Clash.result c.in_err-split-in-Clash.field-0.0 c.from_residual-in_err-split-in-Clash.ensures.1)
    (c.in_err-split-in-Clash.ensures.rule p s))

pub returns-in_ok-leave-in-Silent-clause-rule : goal.returns-in_ok-leave-in-Silent-clause-rule
returns-in_ok-leave-in-Silent-clause-rule g c =
    subst (From g.F.Field c.args.coins.now c.args.lists.now c.args.field.now (position_gone_on (Ok c.in_ok-leave-in-Silent.field-0)) c.leave.new.lists c.leave.new.field) (sym c.in-Silent.is)
    (λ p s.
    c.in_ok-leave-in-Silent.ensures.rule c.args.coins.now p s)

pub returns-in_ok-leave-in-Lone-clause-rule : goal.returns-in_ok-leave-in-Lone-clause-rule
returns-in_ok-leave-in-Lone-clause-rule g c =
    subst (From g.F.Field c.args.coins.now c.args.lists.now c.args.field.now (position_gone_on (Ok c.in_ok-leave-in-Lone.field-0)) c.leave-in-Lone.new.lists c.leave-in-Lone.new.field) (sym c.in-Lone.is)
    (λ p s.
    let first = c.in_ok-read-in-Lone.ensures.rule c.args.coins.now p s in
    let same = setting_same c.args.coins.now c.in-Lone.lone.progress.budget c.in_ok-read-in-Lone.field-0.progress.budget c.args.lists.now c.read.new.lists c.in_ok-read-in-Lone.ensures.within.0
    c.in_ok-read-in-Lone.ensures.behind.slots.room c.in_ok-read-in-Lone.ensures.behind.serials.room in
    led_on g.F.Field _ _ p first.0 (position_after (Ok c.in_ok-leave-in-Lone.field-0)) c.args.field.now c.read.new.field c.leave-in-Lone.new.field c.leave-in-Lone.new.lists first.1 same (c.in_ok-leave-in-Lone.ensures.rule c.args.coins.now first.0 first.2))

pub returns-in_ok-leave-in-Lone-clause-sent : goal.returns-in_ok-leave-in-Lone-clause-sent
returns-in_ok-leave-in-Lone-clause-sent g c =
    subst (λ (x : Slot). HasSent (progress_of x).counts.commands (position_gone_on (Ok c.in_ok-leave-in-Lone.field-0))) (sym c.in-Lone.is)
    (left_sent c.in-Lone.lone.progress.counts.commands c.in_ok-read-in-Lone.field-0.progress.counts c.in_ok-leave-in-Lone.field-0 c.in_ok-read-in-Lone.ensures.sent c.in_ok-leave-in-Lone.ensures.counts)

pub returns-in_ok-split-in-Clash-clause-rule : goal.returns-in_ok-split-in-Clash-clause-rule
returns-in_ok-split-in-Clash-clause-rule g c =
    subst (From g.F.Field c.args.coins.now c.args.lists.now c.args.field.now (position_gone_on (Ok (continuation.Next c.in_ok-split-in-Clash.field-0))) c.split.new.lists c.split.new.field) (sym c.in-Clash.is)
    (λ p s. c.in_ok-split-in-Clash.ensures.rule p s)

use Rattle.std.proofs.Common.{rules, ◌≡◌, ℕ, ◌+◌, ◌<◌, ◌≤◌, true, false, List, sym, refl, ap, ◌∙◌, arith}
use Rattle.std.proofs.lemmas.Bool.{lt-leb, le-leb}
use Rattle.std.specs.Prelude.{nat_le}
use Rattle.field.specs.declared.field.Field.{Ghosts as Kind}
use Rattle.field.specs.Promises.{AfterSend}
use Rattle.slot.specs.Counts.{stop_number}
use Rattle.slot.specs.declared.counts.Counts.{Counts}
use Rattle.slot.specs.declared.ending.Stopped.{Stopped}
use Rattle.slot.specs.declared.kinds.Progress.{Progress}
use Rattle.slot.specs.declared.lists.Lists.{Lists}
use Rattle.protocol.specs.declared.command.Command.TheVariants.{Read}
use Rattle.field.specs.declared.hearing.Hearing.{Hearing}
use Rattle.field.specs.declared.hearing.Hearing.TheVariants.{Silence, Lone, Clash}
use Rattle.slot.specs.Commands.{frame_of, target, read}
use Rattle.slot.specs.Calls.{setting, at_slot, over, ReachesPosition, counts_read}
use Rattle.slot.specs.Rules.{Setting, SweepState, Phase, in_reading, read_by, reads, action_in}
use Rattle.slot.proofs.Moves.{reaches_self, led_on, read_once, with_one, stopped, budget_action}
use Rattle.slot.proofs.kinds.Progress.read.Goals as goal

-- What is heard otherwise than as lone is sent again.
again_by : (h : Hearing) (serial : List ℕ) → (h ≡ Lone → ⊥) → read_by h serial ≡ in_reading serial
again_by Silence serial n = refl
again_by Lone serial n = absurd (n refl)
again_by Clash serial n = refl

pub loop-sent-init : goal.loop-sent-init
loop-sent-init g c =
    record {
      budget = refl;
      waiting = refl;
      next = refl;
      counts = refl;
      commands = refl;
      rule = λ coins lists p s. (p, reaches_self g.F.Field (setting coins c.args.self.budget lists) c.args.field.now p, s);
    }

-- The next READ, after those that an earlier state has led to.
next_read : {F : Type 0} (kind : Kind F) (set : Setting) (p : SweepState) (serial : List ℕ) (from : Progress) (lists : Lists) (a b c : F) (h : Hearing)
    → ReachesPosition kind set p (at_slot (in_reading serial) from) a b lists → nat_le set.budget from.counts.commands ≡ false
    → AfterSend kind (frame_of Read (target serial)) 0 h b c → ReachesPosition kind set p (at_slot (read_by h serial) (with_one from)) a c lists
unfolding read
next_read kind set p serial from lists a b c h was less after =
    led_on kind set set p was.0 (at_slot (read_by h serial) (with_one from)) a b c lists was.1 refl
    (read_once kind set was.0 serial from lists h b c was.2 (ap (nat_le set.budget) was.2.commands ∙ less) after)

-- The same state, where the commands are counted in other words.
told_by : {F : Type 0} (kind : Kind F) (set : Setting) (p : SweepState) (at to : Phase) (from : Progress) (sent : ℕ) (lists : Lists) (a b : F) → at ≡ to
    → from.counts.commands ≡ sent → ReachesPosition kind set p (at_slot at (with_one from)) a b lists
    → ReachesPosition kind set p
    (at_slot to
    (record {
      budget = from.budget;
      waiting = from.waiting;
      next = from.next;
      counts = record { lone = from.counts.lone; silent = from.counts.silent; clash = from.counts.clash; commands = sent + 1 };
    })) a b lists
told_by kind set p at to from sent lists a b e n was = (
  was.0,
  was.1,
  record {
    phase = was.2.phase ∙ e;
    waiting = was.2.waiting;
    next = was.2.next;
    commands = was.2.commands ∙ ap (λ (k : ℕ). k + 1) n;
    slots = was.2.slots;
    serials = was.2.serials;
    tags = was.2.tags;
  },
)

pub returns-then-eq-clause-rule : goal.returns-then-eq-clause-rule
returns-then-eq-clause-rule g c coins lists p s =
    let set : Setting = setting coins c.args.self.budget lists in
    let progress : Progress = c.loop-sent.progress in
    let lone : c.read-heard.result ≡ Lone = search rules in
    let room : c.loop-sent.sent < c.args.self.budget = omega arith in
    told_by g.F.Field set p _ _ progress c.loop-sent.sent lists c.args.field.now c.read-heard.new.field (ap (λ (h : Hearing). read_by h c.args.serial.now) lone)
    c.loop-sent.invariant.commands
    (next_read g.F.Field set p c.args.serial.now progress lists c.args.field.now c.loop-sent.field c.read-heard.new.field
    c.read-heard.result (c.loop-sent.invariant.rule coins lists p s)
    (ap (nat_le c.args.self.budget) c.loop-sent.invariant.commands ∙ lt-leb c.args.self.budget c.loop-sent.sent room) c.read-heard.ensures)

pub returns-then-eq-clause-counts : goal.returns-then-eq-clause-counts
returns-then-eq-clause-counts g c = ap (λ (k : Counts). counts_read k (c.loop-sent.sent + 1)) c.loop-sent.invariant.counts

pub returns-clause-counts : goal.returns-clause-counts
returns-clause-counts g c =
    let same : c.stopped.result.counts ≡ c.loop-sent.progress.counts = ap (λ (x : Stopped). x.counts) c.stopped.ensures in
    same ∙ c.loop-sent.invariant.counts ∙ ap (λ (k : Counts). counts_read c.args.self.counts k.commands) (sym same)

pub loop-sent-preserved : goal.loop-sent-preserved
loop-sent-preserved g c =
    record {
      budget = c.loop-sent.invariant.budget;
      waiting = c.loop-sent.invariant.waiting;
      next = c.loop-sent.invariant.next;
      counts = ap (λ (k : Counts). counts_read k (c.loop-sent.sent + 1)) c.loop-sent.invariant.counts;
      commands = refl;
      rule = λ coins lists p s.
          let set : Setting = setting coins c.args.self.budget lists in
          let progress : Progress = c.loop-sent.progress in
          let other : c.read-heard.result ≡ Lone → ⊥ = search rules in
          let room : c.loop-sent.sent < c.args.self.budget = omega arith in
          told_by g.F.Field set p _ _ progress c.loop-sent.sent lists c.args.field.now c.read-heard.new.field
          (again_by c.read-heard.result c.args.serial.now other) c.loop-sent.invariant.commands
          (next_read g.F.Field set p c.args.serial.now progress lists c.args.field.now c.loop-sent.field c.read-heard.new.field
          c.read-heard.result (c.loop-sent.invariant.rule coins lists p s)
          (ap (nat_le c.args.self.budget) c.loop-sent.invariant.commands ∙ lt-leb c.args.self.budget c.loop-sent.sent room) c.read-heard.ensures);
    }

pub returns-clause-rule : goal.returns-clause-rule
returns-clause-rule g c coins lists p s =
    let set : Setting = setting coins c.args.self.budget lists in
    let was = c.loop-sent.invariant.rule coins lists p s in
    let past : c.args.self.budget ≤ c.loop-sent.sent = omega arith in
    led_on g.F.Field set set p was.0 (over (stop_number c.stopped.result.stop) c.stopped.result.counts) c.args.field.now c.loop-sent.field c.loop-sent.field lists
    was.1 refl
    (stopped g.F.Field set was.0 lists c.loop-sent.field c.loop-sent.field 8 c.stopped.result
    (ap (action_in set was.0) was.2.phase
    ∙ budget_action set was.0 (reads c.args.serial.now) true
    (ap (nat_le c.args.self.budget) (was.2.commands ∙ c.loop-sent.invariant.commands) ∙ le-leb c.args.self.budget c.loop-sent.sent past)) refl
    (ap (λ (x : Stopped). stop_number x.stop) c.stopped.ensures) (was.2.commands ∙ ap (λ (x : Stopped). x.counts.commands) (sym c.stopped.ensures)) was.2.slots
    was.2.serials was.2.tags)

pub returns-clause-unread : goal.returns-clause-unread
returns-clause-unread g c coins lists p s =
    let was = c.loop-sent.invariant.rule coins lists p s in (
      was.0,
      was.1,
      record {
        phase = was.2.phase;
        waiting = was.2.waiting ∙ c.loop-sent.invariant.waiting;
        next = was.2.next ∙ c.loop-sent.invariant.next;
        commands = was.2.commands ∙ ap (λ (x : Stopped). x.counts.commands) (sym c.stopped.ensures);
        slots = was.2.slots;
        serials = was.2.serials;
        tags = was.2.tags;
      },
    )

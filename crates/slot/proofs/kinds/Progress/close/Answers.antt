use Rattle.std.proofs.Common.{ℕ, ◌+◌, true, false, sym, refl, ap, ◌∙◌}
use Rattle.std.proofs.lemmas.Bool.{eq-eqb}
use Rattle.std.specs.Prelude.{nat_le}
use Rattle.frame.specs.Openings.{opening}
use Rattle.field.specs.Sends.{stepped_all}
use Rattle.slot.specs.declared.counts.Counts.{Counts}
use Rattle.slot.specs.declared.ending.Stopped.{Stopped}
use Rattle.slot.specs.Commands.{repeat}
use Rattle.slot.specs.Counts.{stop_number}
use Rattle.slot.specs.Calls.{setting}
use Rattle.slot.specs.Rules.{Setting, closes, after_action}
use Rattle.slot.proofs.Moves.{stopped, silent_action, budget_action, reaches_sent}
use Rattle.slot.proofs.kinds.Progress.close.Goals as goal

pub returns-then-is_spent-clause-rule : goal.returns-then-is_spent-clause-rule
returns-then-is_spent-clause-rule g c coins lists p s =
    let set : Setting = setting coins c.args.self.budget lists in
    stopped g.F.Field set p lists c.args.field.now c.args.field.now 8 c.stopped.result
    (silent_action set p true s.phase (eq-eqb p.waiting 0 (s.waiting ∙ c.requires))
    ∙ budget_action set p closes true (ap (nat_le c.args.self.budget) s.commands ∙ sym c.if-is_spent.ensures.test)) refl
    (ap (λ (x : Stopped). stop_number x.stop) c.stopped.ensures) (s.commands ∙ ap (λ (x : Stopped). x.counts.commands) (sym c.stopped.ensures)) s.slots s.serials s.tags

pub returns-clause-rule : goal.returns-clause-rule
unfolding repeat
returns-clause-rule g c coins lists p s =
    let set : Setting = setting coins c.args.self.budget lists in (
      after_action closes c.repeat.result p,
      reaches_sent g.F.Field set p closes repeat 0 c.repeat.result c.args.field.now c.repeat.new.field
          (silent_action set p true s.phase (eq-eqb p.waiting 0 (s.waiting ∙ c.requires))
          ∙ budget_action set p closes false (ap (nat_le c.args.self.budget) s.commands ∙ sym c.if-is_spent.ensures.test))
          s.tags refl (λ x. x) c.repeat.ensures,
      record {
        phase = refl;
        commands = ap (λ (n : ℕ). n + 1) s.commands ∙ ap (λ (x : Counts). x.commands) (sym c.with_command.ensures);
        slots = s.slots;
        serials = s.serials;
        tags = ap (stepped_all (opening repeat) 0) s.tags ∙ sym c.repeat.ensures.tags;
      },
    )

use Rattle.std.proofs.Common.{ℕ, ◌-◌, false, refl, ap₂, ◌∙◌, arith}
use Rattle.std.proofs.lemmas.Bool.{ne_eqb}
use Rattle.protocol.specs.declared.command.Command.TheVariants.{Scroll}
use Rattle.slot.specs.Commands.{scroll}
use Rattle.slot.specs.Calls.{setting}
use Rattle.slot.specs.Rules.{Setting, room_checked, opens}
use Rattle.slot.proofs.Moves.{slot_opened, silent_action}
use Rattle.slot.proofs.kinds.Progress.scroll.Goals as goal

pub returns-clause-rule : goal.returns-clause-rule
unfolding scroll
returns-clause-rule g c coins p s =
    let set : Setting = setting coins c.args.self.budget c.args.lists.now in
    slot_opened g.F.Field set p Scroll scroll 0 _ c.args.lists.now c.scroll.new.lists c.args.field.now c.scroll.new.field
    refl refl s.commands s.slots s.serials s.tags
    (silent_action set p false s.phase (ne_eqb p.waiting 0 (λ e. omega (arith, c.requires, s.waiting)))
    ∙ ap₂ (λ (w n : ℕ). room_checked set p (opens Scroll scroll 0 (w - 1) n)) s.waiting s.next)
    c.scroll.result c.scroll.ensures

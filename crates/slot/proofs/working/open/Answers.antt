use Rattle.std.proofs.Common.{List, sym, refl, ap, length, MutBor}
use Rattle.slot.specs.declared.listed.ListedSlot.{ListedSlot}
use Rattle.protocol.specs.declared.command.Command.TheVariants.{Select}
use Rattle.slot.specs.Commands.{select}
use Rattle.slot.specs.Calls.{setting}
use Rattle.slot.specs.declared.counts.Counts.{Counts}
use Rattle.slot.specs.Rules.{Setting, beginning}
use Rattle.slot.proofs.Moves.{slot_opened}
use Rattle.slot.proofs.working.open.Goals as goal

pub returns-clause-rule : goal.returns-clause-rule
unfolding select
returns-clause-rule g c coins =
    let set : Setting = setting coins c.args.budget c.args.lists.now in
    slot_opened g.F.Field set (beginning (g.F.Field.tags c.args.field.now)) Select select 0 _ _ c.select.new.lists c.args.field.now c.select.new.field refl
    (ap (λ (m : MutBor (List ListedSlot)). length m.now) (sym c.clear.ensures.storage)) (ap (λ (k : Counts). k.commands) (sym c.new.ensures))
    (sym c.clear.ensures.items) (sym c.clear-2.ensures.items) refl refl c.select.result c.select.ensures

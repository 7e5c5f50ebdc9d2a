use Rattle.std.proofs.Common.{◌≡◌, ℕ, ◌+◌, cond, Bool, true, false, eqb, sym, refl, ap, ap₂, ◌∙◌}
use Rattle.std.proofs.lemmas.Bool.{eq-eqb, ne_eqb}
use Rattle.protocol.specs.declared.command.Command.TheVariants.{Query}
use Rattle.slot.specs.Commands.{query}
use Rattle.slot.specs.Calls.{setting}
use Rattle.slot.specs.declared.ending.Stopped.{Stopped}
use Rattle.slot.specs.Counts.{stop_number}
use Rattle.slot.specs.Rules.{Setting, SweepState, in_clash, action_in, next_action, room_checked, opens, stops, coins_at, place_behind}
use Rattle.slot.proofs.Moves.{slot_opened, stopped}
use Rattle.slot.proofs.kinds.Progress.split.Goals as goal

-- What comes after a clash, by how many groups wait.
clash_action : (set : Setting) (p : SweepState) (b : Bool) → p.phase ≡ in_clash → eqb p.waiting 255 ≡ b
    → next_action set p ≡ cond b (stops 7) (room_checked set p (opens Query query (coins_at set.coins p.next) (p.waiting + 1) (place_behind set.coins p.next)))
clash_action set p b e w =
    ap (action_in set p) e
    ∙ ap (λ (x : Bool). cond x (stops 7) (room_checked set p (opens Query query (coins_at set.coins p.next) (p.waiting + 1) (place_behind set.coins p.next)))) w

pub returns-then-self-eq255-clause-rule : goal.returns-then-self-eq255-clause-rule
returns-then-self-eq255-clause-rule g c p s =
    let set : Setting = setting c.args.coins.now c.args.self.budget c.args.lists.now in
    stopped g.F.Field set p c.args.lists.now c.args.field.now c.args.field.now 7 c.stopped.result
    (clash_action set p true s.phase (eq-eqb p.waiting 255 (s.waiting ∙ c.if-self-eq255.true))) refl
    (ap (λ (x : Stopped). stop_number x.stop) c.stopped.ensures) (s.commands ∙ ap (λ (x : Stopped). x.counts.commands) (sym c.stopped.ensures)) s.slots s.serials s.tags

pub returns-clause-rule : goal.returns-clause-rule
unfolding query
returns-clause-rule g c p s =
    let set : Setting = setting c.args.coins.now c.args.self.budget c.args.lists.now in
    slot_opened g.F.Field set p Query query c.coins_at-row.result _ c.args.lists.now c.query.new.lists c.args.field.now c.query.new.field
    refl refl s.commands s.slots s.serials s.tags
    (clash_action set p false s.phase (ne_eqb p.waiting 255 (λ e. c.if-self-eq255.false (sym s.waiting ∙ e)))
    ∙ ap₂ (λ (w n : ℕ). room_checked set p (opens Query query (coins_at set.coins n) (w + 1) (place_behind set.coins n))) s.waiting s.next
    ∙ ap (λ (row : ℕ). room_checked set p (opens Query query row (c.args.self.waiting + 1) (place_behind set.coins c.args.self.next))) (sym c.coins_at-row.ensures))
    c.query.result c.query.ensures

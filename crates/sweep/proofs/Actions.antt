-- When a reader does each of its actions, and what stays true from action to action. Assumes nothing.
use Rattle.std.proofs.Common.{◌≡◌, ℕ, zero, suc, ◌+◌, ◌-◌, ◌<◌, ◌≤◌, leb, eqb, ◌⊎◌, List, [], ◌∷◌, length, subst, inl, inr, arith}
use Rattle.std.proofs.lemmas.Bool.{cond_both, leb-true, leb-false, eqb-true, eqb-false}
use Rattle.protocol.specs.declared.command.Command.TheVariants.{Select, Query, Scroll}
use Rattle.field.specs.declared.hearing.Hearing.{Hearing}
use Rattle.slot.specs.Commands.{select, query, scroll}
use Rattle.slot.specs.Rules.{Setting, Phase, fresh, in_silence, in_lone, in_clash, in_reading, ended, SweepState, Action, stops, opens, lists, reads, closes, rests, budget_checked, room_checked, coins_at, place_behind, action_in, advanced, next_plain_hearing, run_by, replayed}

-- What is to be shown of a run for a property of every phase with its action.
pub record EachDeed (set : Setting) (p : SweepState) (P : Phase → Action → Type 0) : Type 0 where
  pub spent : (phase : Phase) → set.budget ≤ p.commands → P phase (stops 8)
  pub full : (phase : Phase) → (set.slot_room ≤ length p.slots) ⊎ (set.serial_room ≤ length p.serials) → P phase (stops 9)
  pub crowded : P in_clash (stops 7)
  pub selecting : p.commands < set.budget → length p.slots < set.slot_room → P fresh (opens Select select 0 0 0)
  pub scrolling : (p.waiting ≡ 0 → ⊥) → p.commands < set.budget → length p.slots < set.slot_room
      → P in_silence (opens Scroll scroll 0 (p.waiting - 1) p.next)
  pub querying : p.commands < set.budget → length p.slots < set.slot_room
      → P in_clash (opens Query query (coins_at set.coins p.next) (p.waiting + 1) (place_behind set.coins p.next))
  pub listing : (serial : List ℕ) → length p.serials < set.serial_room → P (in_lone serial) (lists serial)
  pub reading : (serial : List ℕ) → p.commands < set.budget → P (in_reading serial) (reads serial)
  pub closing : p.waiting ≡ 0 → p.commands < set.budget → P in_silence closes
  pub resting : (n : ℕ) → P (ended n) rests

within_budget : (set : Setting) (p : SweepState) (P : Action → Type 0) (action : Action) → (set.budget ≤ p.commands → P (stops 8))
    → (p.commands < set.budget → P action) → P (budget_checked set p action)
within_budget set p P action spent on =
    cond_both (leb set.budget p.commands) (stops 8) action P (λ e. spent (leb-true set.budget p.commands e)) (λ e. on (leb-false set.budget p.commands e))

with_room : (set : Setting) (p : SweepState) (P : Action → Type 0) (action : Action) → (set.budget ≤ p.commands → P (stops 8))
    → (set.slot_room ≤ length p.slots → P (stops 9)) → (p.commands < set.budget → length p.slots < set.slot_room → P action)
    → P (room_checked set p action)
with_room set p P action spent full on =
    within_budget set p P _ spent
    (λ h. cond_both (leb set.slot_room (length p.slots)) (stops 9) action P (λ e. full (leb-true set.slot_room (length p.slots) e))
    (λ e. on h (leb-false set.slot_room (length p.slots) e)))

pub by_action : (set : Setting) (p : SweepState) (P : Phase → Action → Type 0) → EachDeed set p P → (phase : Phase) → P phase (action_in set p phase)
by_action set p P each fresh = with_room set p (P fresh) _ (each.spent fresh) (λ h. each.full fresh (inl h)) each.selecting
by_action set p P each in_silence =
    cond_both (eqb p.waiting 0) _ _ (P in_silence)
    (λ e. within_budget set p (P in_silence) closes (each.spent in_silence) (each.closing (eqb-true p.waiting 0 e)))
    (λ e. with_room set p (P in_silence) _ (each.spent in_silence) (λ h. each.full in_silence (inl h)) (each.scrolling (eqb-false p.waiting 0 e)))
by_action set p P each (in_lone serial) =
    cond_both (leb set.serial_room (length p.serials)) (stops 9) (lists serial) (P (in_lone serial))
    (λ e. each.full (in_lone serial) (inr (leb-true set.serial_room (length p.serials) e)))
    (λ e. each.listing serial (leb-false set.serial_room (length p.serials) e))
by_action set p P each in_clash =
    cond_both (eqb p.waiting 255) (stops 7) _ (P in_clash) (λ e. each.crowded)
    (λ e. with_room set p (P in_clash) _ (each.spent in_clash) (λ h. each.full in_clash (inl h)) each.querying)
by_action set p P each (in_reading serial) =
    within_budget set p (P (in_reading serial)) (reads serial) (each.spent (in_reading serial)) (each.reading serial)
by_action set p P each (ended n) = each.resting n

-- What every action keeps holds of a whole run.
pub holds_run : (set : Setting) (P : SweepState → Type 0) → ((h : Hearing) (p : SweepState) → P p → P (advanced set h p)) → (hs : List Hearing) (p : SweepState) → P p
    → P (run_by set hs p)
unfolding run_by
holds_run set P step [] p h = h
holds_run set P step (x ∷ xs) p h = holds_run set P step xs (advanced set x p) (step x p h)

-- The same of a replay, with the actions counted.
pub holds_replayed : (set : Setting) (P : ℕ → SweepState → Type 0) → ((m : ℕ) (p : SweepState) → P m p → P (m + 1) (advanced set (next_plain_hearing set p) p)) → (n m : ℕ) (p : SweepState)
    → P m p → P (m + n) (replayed set n p)
unfolding replayed
holds_replayed set P step zero m p h =
    let e : m ≡ m + 0 = omega arith in
    subst (λ (k : ℕ). P k p) e h
holds_replayed set P step (suc n) m p h =
    let q : SweepState = advanced set (next_plain_hearing set p) p in
    let e : m + 1 + n ≡ m + suc n = omega arith in
    subst (λ (k : ℕ). P k (replayed set n q)) e (holds_replayed set P step n (m + 1) q (step m p h))

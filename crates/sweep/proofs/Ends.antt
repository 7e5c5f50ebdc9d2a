-- So many actions always end a sweep, and a sweep that has ended rests. Assumes nothing.
use Rattle.std.proofs.Common.{◌≡◌, ℕ, zero, suc, ◌+◌, ◌-◌, ◌≤◌, [], ◌∷◌, List, length, sym, refl, ap, ◌∙◌, subst, inl, inr, arith}
use Rattle.std.proofs.lemmas.Bool.{cases_lt}
use Rattle.std.proofs.lemmas.List.{length-append}
use Rattle.std.proofs.lemmas.List.Sums.{count_by-le-length}
use Rattle.protocol.specs.declared.command.Command.{Command}
use Rattle.field.specs.declared.hearing.Hearing.{Hearing}
use Rattle.field.specs.declared.hearing.Hearing.TheVariants.{Silence, Lone, Clash}
use Rattle.field.specs.Airs.{Air}
use Rattle.slot.specs.Rules.{Setting, Phase, fresh, in_silence, in_lone, in_clash, in_reading, SweepState, Action, beginning, ended, opens, reads, opened_by, read_by, action_in, after_action, advanced, next_plain_hearing, replayed}
use Rattle.sweep.specs.Tallies.{heard_as, Kept, enough, Settles, Ends}
use Rattle.sweep.proofs.Actions.{by_action, holds_replayed}
use Rattle.sweep.proofs.Rooms.{kept_on, kept_first}
use Rattle.sweep.proofs.Balances.{one_more}

-- Each action so far is a command or a listing, and each listing is of a lone slot.
record InPace (n ahead : ℕ) (p : SweepState) : Type 0 where
  actions : n ≡ p.commands + length p.serials
  lone : length p.serials + ahead ≤ heard_as Lone p.slots

abbrev Paced : ℕ → Phase → SweepState → Type 0
Paced n fresh p = InPace n 0 p
Paced n in_silence p = InPace n 0 p
Paced n (in_lone serial) p = InPace n 1 p
Paced n in_clash p = InPace n 0 p
Paced n (in_reading serial) p = InPace n 0 p
Paced n (ended k) p = Unit {0}

paced_open : (n : ℕ) (h : Hearing) (c : Command) (frame : List ℕ) (row g next : ℕ) (p : SweepState) (air : Air) → InPace n 0 p
    → Paced (n + 1) (opened_by h air) (after_action (opens c frame row g next) h p)
paced_open n Silence c frame row g next p air e =
    record { actions = omega (arith, e.actions); lone = omega (arith, e.lone, one_more Lone p.slots (record { command = c; hearing = Silence; waiting = g })) }
paced_open n Lone c frame row g next p air e =
    record { actions = omega (arith, e.actions); lone = omega (arith, e.lone, one_more Lone p.slots (record { command = c; hearing = Lone; waiting = g })) }
paced_open n Clash c frame row g next p air e =
    record { actions = omega (arith, e.actions); lone = omega (arith, e.lone, one_more Lone p.slots (record { command = c; hearing = Clash; waiting = g })) }

paced_read : (n : ℕ) (h : Hearing) (serial : List ℕ) (p : SweepState) → InPace n 0 p → Paced (n + 1) (read_by h serial) (after_action (reads serial) h p)
paced_read n Silence serial p e = record { actions = omega (arith, e.actions); lone = e.lone }
paced_read n Lone serial p e = record { actions = omega (arith, e.actions); lone = e.lone }
paced_read n Clash serial p e = record { actions = omega (arith, e.actions); lone = e.lone }

abbrev StaysPaced : ℕ → Hearing → SweepState → Phase → Action → Type 0
StaysPaced n h p phase action = Paced n phase p → p.phase ≡ phase → Paced (n + 1) (after_action action h p).phase (after_action action h p)

paced_on : (set : Setting) (h : Hearing) (n : ℕ) (p : SweepState) → Paced n p.phase p → Paced (n + 1) (advanced set h p).phase (advanced set h p)
unfolding advanced
paced_on set h n p paced =
    by_action set p (StaysPaced n h p)
    (record {
      spent = λ phase over e at. tt;
      full = λ phase over e at. tt;
      crowded = λ e at. tt;
      selecting = λ a b e at. paced_open n h _ _ _ _ _ p _ e;
      scrolling = λ w a b e at. paced_open n h _ _ _ _ _ p _ e;
      querying = λ a b e at. paced_open n h _ _ _ _ _ p _ e;
      listing = λ serial a e at. record {
        actions = omega (arith, e.actions, length-append p.serials (serial ∷ []));
        lone = omega (arith, e.lone, length-append p.serials (serial ∷ []));
      };
      reading = λ serial a e at. paced_read n h serial p e;
      closing = λ w a e at. tt;
      resting = λ k e at. subst (λ (phase : Phase). Paced (n + 1) phase p) (sym at) tt;
    }) p.phase paced refl

-- More actions than that a sweep in pace has no budget for.
too_many : (set : Setting) (ahead : ℕ) (p : SweepState) → Kept set p → InPace (enough set) ahead p → ⊥
too_many set ahead p k e =
    let lones : heard_as Lone p.slots ≤ length p.slots = count_by-le-length _ p.slots in
    absurd (omega (arith, k.budget, k.opened, e.actions, e.lone))

ended_by : (set : Setting) (p : SweepState) (phase : Phase) → Kept set p → Paced (enough set) phase p → (k : ℕ) × (phase ≡ ended k)
ended_by set p fresh k e = absurd (too_many set 0 p k e)
ended_by set p in_silence k e = absurd (too_many set 0 p k e)
ended_by set p (in_lone serial) k e = absurd (too_many set 1 p k e)
ended_by set p in_clash k e = absurd (too_many set 0 p k e)
ended_by set p (in_reading serial) k e = absurd (too_many set 0 p k e)
ended_by set p (ended n) k e = (n, refl)

pub ends : Ends
ends set tags =
    let p : SweepState = replayed set (enough set) (beginning tags) in
    let kept : Kept set p = holds_replayed set (λ m q. Kept set q) (λ m q. kept_on set (next_plain_hearing set q) q) (enough set) 0 (beginning tags) (kept_first set tags) in
    let first : InPace 0 0 (beginning tags) = record { actions = refl; lone = omega arith } in
    let counted : Paced (0 + enough set) p.phase p =
    holds_replayed set (λ m q. Paced m q.phase q) (λ m q. paced_on set (next_plain_hearing set q) m q) (enough set) 0 (beginning tags) first in
    let same : 0 + enough set ≡ enough set = omega arith in
    ended_by set p p.phase kept (subst (λ (m : ℕ). Paced m p.phase p) same counted)

advanced_rests : (set : Setting) (h : Hearing) (p : SweepState) (k : ℕ) → p.phase ≡ ended k → advanced set h p ≡ p
unfolding advanced
advanced_rests set h p k e = ap (λ (phase : Phase). after_action (action_in set p phase) h p) e

replay_rests : (set : Setting) (n : ℕ) (p : SweepState) (k : ℕ) → p.phase ≡ ended k → replayed set n p ≡ p
unfolding replayed
replay_rests set zero p k e = refl
replay_rests set (suc n) p k e = ap (replayed set n) (advanced_rests set (next_plain_hearing set p) p k e) ∙ replay_rests set n p k e

-- A replay goes on where another stands.
replay_more : (set : Setting) (n m : ℕ) (p : SweepState) → replayed set (n + m) p ≡ replayed set m (replayed set n p)
unfolding replayed
replay_more set zero m p =
    let e : 0 + m ≡ m = omega arith in
    ap (λ (k : ℕ). replayed set k p) e
replay_more set (suc n) m p =
    let e : suc n + m ≡ suc (n + m) = omega arith in
    ap (λ (k : ℕ). replayed set k p) e ∙ replay_more set n m (advanced set (next_plain_hearing set p) p)

replay_settles : (set : Setting) (n m k : ℕ) (p : SweepState) → n ≤ m → (replayed set n p).phase ≡ ended k → replayed set n p ≡ replayed set m p
replay_settles set n m k p h e =
    let split : n + (m - n) ≡ m = omega arith in
    sym (replay_rests set (m - n) (replayed set n p) k e) ∙ sym (replay_more set n (m - n) p) ∙ ap (λ (i : ℕ). replayed set i p) split

pub settles : Settles
settles set n k tags e =
    elim (cases_lt n (enough set)) [
      | inl before ↦ replay_settles set n (enough set) k (beginning tags) (omega arith) e
      | inr behind ↦ let last = ends set tags in sym (replay_settles set (enough set) n last.0 (beginning tags) behind last.1)
    ]

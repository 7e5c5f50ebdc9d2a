-- Each clash of a sweep adds a group that waits, and each lone or silent slot takes one away. Assumes nothing.
use Rattle.std.proofs.Common.{◌≡◌, ℕ, zero, suc, ◌+◌, eqb, cond, [], ◌∷◌, ◌++◌, List, length, refl, subst, arith}
use Rattle.std.proofs.lemmas.List.{length-append}
use Rattle.std.proofs.lemmas.List.Sums.{sum_by_push}
use Rattle.protocol.specs.declared.command.Command.{Command}
use Rattle.field.specs.declared.hearing.Hearing.{Hearing}
use Rattle.field.specs.declared.hearing.Hearing.TheVariants.{Silence, Lone, Clash}
use Rattle.field.specs.Airs.{Air, hearing_number}
use Rattle.slot.specs.declared.listed.ListedSlot.{ListedSlot}
use Rattle.slot.specs.Rules.{Setting, Phase, fresh, in_silence, in_lone, in_clash, in_reading, SweepState, Action, beginning, ended, opens, reads, opened_by, read_by, after_action, advanced, run_by}
use Rattle.sweep.specs.Tallies.{heard_as, Balanced, EndsBalanced}
use Rattle.sweep.proofs.Actions.{by_action, holds_run}

-- One slot more.
pub one_more : (x : Hearing) (slots : List ListedSlot) (row : ListedSlot)
    → heard_as x (slots ++ row ∷ []) ≡ heard_as x slots + cond (eqb (hearing_number row.hearing) (hearing_number x)) 1 0
one_more x slots row = sum_by_push (λ r. cond (eqb (hearing_number r.hearing) (hearing_number x)) 1 0) slots row

-- The slots that took a group away, and the balance, to which a phase may add on either side.
abbrev settled : SweepState → ℕ
settled p = heard_as Lone p.slots + heard_as Silence p.slots

record Balance (before after : ℕ) (p : SweepState) : Type 0 where
  slots : p.waiting + settled p + before ≡ heard_as Clash p.slots + after
  commands : p.commands ≡ length p.slots + p.reads

abbrev Even : Phase → SweepState → Type 0
Even fresh p = (p.waiting ≡ 0) × Balance 0 0 p
Even in_silence p = Balance 0 1 p
Even (in_lone serial) p = Balance 0 1 p
Even in_clash p = Balance 1 0 p
Even (in_reading serial) p = Balance 0 1 p
Even (ended zero) p = Balanced p
Even (ended (suc n)) p = Unit {0}

-- A slot that opens, with the balance of the groups as it is then to be.
even_open : (h : Hearing) (c : Command) (frame : List ℕ) (row g next : ℕ) (p : SweepState) (air : Air) → g + settled p ≡ heard_as Clash p.slots
    → p.commands ≡ length p.slots + p.reads → Even (opened_by h air) (after_action (opens c frame row g next) h p)
even_open Silence c frame row g next p air a b =
    let slot : ListedSlot = record { command = c; hearing = Silence; waiting = g } in
    record {
      slots = omega (arith, one_more Lone p.slots slot, one_more Silence p.slots slot, one_more Clash p.slots slot);
      commands = omega (arith, length-append p.slots (slot ∷ []));
    }
even_open Lone c frame row g next p air a b =
    let slot : ListedSlot = record { command = c; hearing = Lone; waiting = g } in
    record {
      slots = omega (arith, one_more Lone p.slots slot, one_more Silence p.slots slot, one_more Clash p.slots slot);
      commands = omega (arith, length-append p.slots (slot ∷ []));
    }
even_open Clash c frame row g next p air a b =
    let slot : ListedSlot = record { command = c; hearing = Clash; waiting = g } in
    record {
      slots = omega (arith, one_more Lone p.slots slot, one_more Silence p.slots slot, one_more Clash p.slots slot);
      commands = omega (arith, length-append p.slots (slot ∷ []));
    }

even_read : (h : Hearing) (serial : List ℕ) (p : SweepState) → Balance 0 1 p → Even (read_by h serial) (after_action (reads serial) h p)
even_read Silence serial p b = record { slots = b.slots; commands = omega (arith, b.commands) }
even_read Lone serial p b = record { slots = b.slots; commands = omega (arith, b.commands) }
even_read Clash serial p b = record { slots = b.slots; commands = omega (arith, b.commands) }

abbrev StaysEven : Hearing → SweepState → Phase → Action → Type 0
StaysEven h p phase action = Even phase p → Even p.phase p → Even (after_action action h p).phase (after_action action h p)

even_on : (set : Setting) (h : Hearing) (p : SweepState) → Even p.phase p → Even (advanced set h p).phase (advanced set h p)
unfolding advanced
even_on set h p even =
    by_action set p (StaysEven h p)
    (record {
      spent = λ phase over e now. tt;
      full = λ phase over e now. tt;
      crowded = λ e now. tt;
      selecting = λ a b e now. even_open h _ _ _ _ _ p _ (omega (arith, e.0, e.1.slots)) e.1.commands;
      scrolling = λ w a b e now. even_open h _ _ _ _ _ p _ (omega (arith, e.slots)) e.commands;
      querying = λ a b e now. even_open h _ _ _ _ _ p _ (omega (arith, e.slots)) e.commands;
      listing = λ serial a e now. record { slots = e.slots; commands = e.commands };
      reading = λ serial a e now. even_read h serial p e;
      closing = λ w a e now. record { commands = omega (arith, e.commands); slots = omega (arith, e.slots) };
      resting = λ n e now. now;
    }) p.phase even even

pub ends_balanced : EndsBalanced
ends_balanced set hs tags e =
    let p : SweepState = run_by set hs (beginning tags) in
    let first : Balance 0 0 (beginning tags) = record { slots = refl; commands = refl } in
    subst (λ (phase : Phase). Even phase p) e (holds_run set (λ q. Even q.phase q) (even_on set) hs (beginning tags) (refl, first))

-- A sweep keeps to its budget and to the room of its lists. Assumes nothing.
use Rattle.std.proofs.Common.{◌≡◌, ℕ, ◌<◌, ◌≤◌, ◌⊎◌, [], ◌∷◌, List, length, inl, inr, arith}
use Rattle.std.proofs.lemmas.List.{length-append}
use Rattle.protocol.specs.declared.command.Command.{Command}
use Rattle.record.specs.declared.Tag.{Tag}
use Rattle.field.specs.declared.hearing.Hearing.{Hearing}
use Rattle.field.specs.declared.hearing.Hearing.TheVariants.{Silence, Lone, Clash}
use Rattle.field.specs.Airs.{Air}
use Rattle.slot.specs.declared.listed.ListedSlot.{ListedSlot}
use Rattle.slot.specs.Rules.{Setting, SweepState, beginning, ended, opens, lists, reads, closes, stops, opened_by, read_by, after_action, advanced}
use Rattle.sweep.specs.Tallies.{Kept, Keeps}
use Rattle.sweep.proofs.Actions.{by_action, holds_run}

opened-not_ended : (h : Hearing) (air : Air) (n : ℕ) → opened_by h air ≡ ended n → ⊥
opened-not_ended Silence air n e = cc
opened-not_ended Lone air n e = cc
opened-not_ended Clash air n e = cc

read-not_ended : (h : Hearing) (serial : List ℕ) (n : ℕ) → read_by h serial ≡ ended n → ⊥
read-not_ended Silence serial n e = cc
read-not_ended Lone serial n e = cc
read-not_ended Clash serial n e = cc

same_end : (m n : ℕ) → ended m ≡ ended n → m ≡ n
same_end m n e = cc

module _ (set : Setting) where
  goes_on : (q : SweepState) → ((n : ℕ) → q.phase ≡ ended n → ⊥) → q.commands ≤ set.budget → length q.slots ≤ set.slot_room
      → length q.serials ≤ set.serial_room → length q.slots ≤ q.commands → Kept set q
  goes_on q on a b c d =
      record { budget = a; slot_room = b; serial_room = c; opened = d; spent = λ e. absurd (on 8 e); full = λ e. absurd (on 9 e) }

  module _ (h : Hearing) (p : SweepState) (k : Kept set p) where
    kept_stop : (n : ℕ) → (n ≡ 8 → set.budget ≤ p.commands) → (n ≡ 9 → (set.slot_room ≤ length p.slots) ⊎ (set.serial_room ≤ length p.serials))
        → Kept set (after_action (stops n) h p)
    kept_stop n over full =
        record {
          budget = k.budget;
          slot_room = k.slot_room;
          serial_room = k.serial_room;
          opened = k.opened;
          spent = λ e.
              let reached : set.budget ≤ p.commands = over (same_end n 8 e) in
              omega (arith, k.budget);
          full = λ e.
              elim (full (same_end n 9 e)) [
                | inl slots ↦ let same : length p.slots ≡ set.slot_room = omega (arith, k.slot_room) in inl same
                | inr serials ↦ let same : length p.serials ≡ set.serial_room = omega (arith, k.serial_room) in inr same
              ];
        }

    kept_open : (c : Command) (frame : List ℕ) (row g next : ℕ) → p.commands < set.budget → length p.slots < set.slot_room
        → Kept set (after_action (opens c frame row g next) h p)
    kept_open c frame row g next a b =
        let slot : ListedSlot = record { command = c; hearing = h; waiting = g } in
        goes_on (after_action (opens c frame row g next) h p) (opened-not_ended h _) (omega arith) (omega (arith, length-append p.slots (slot ∷ []))) k.serial_room
        (omega (arith, length-append p.slots (slot ∷ []), k.opened))

    kept_list : (serial : List ℕ) → length p.serials < set.serial_room → Kept set (after_action (lists serial) h p)
    kept_list serial a =
        goes_on (after_action (lists serial) h p) (λ n e. cc) k.budget k.slot_room (omega (arith, length-append p.serials (serial ∷ []))) k.opened

    kept_read : (serial : List ℕ) → p.commands < set.budget → Kept set (after_action (reads serial) h p)
    kept_read serial a = goes_on (after_action (reads serial) h p) (read-not_ended h serial) (omega arith) k.slot_room k.serial_room (omega (arith, k.opened))

    kept_close : p.commands < set.budget → Kept set (after_action closes h p)
    kept_close a =
        record {
          budget = omega arith;
          slot_room = k.slot_room;
          serial_room = k.serial_room;
          opened = omega (arith, k.opened);
          spent = λ e. absurd (omega (arith, same_end 0 8 e));
          full = λ e. absurd (omega (arith, same_end 0 9 e));
        }

    -- Each action keeps to them.
    pub kept_on : Kept set (advanced set h p)
    unfolding advanced
    kept_on =
        by_action set p (λ phase action. Kept set (after_action action h p))
        (record {
          spent = λ phase over. kept_stop 8 (λ e. over) (λ e. absurd (omega arith));
          full = λ phase over. kept_stop 9 (λ e. absurd (omega arith)) (λ e. over);
          crowded = kept_stop 7 (λ e. absurd (omega arith)) (λ e. absurd (omega arith));
          selecting = kept_open _ _ _ _ _;
          scrolling = λ w. kept_open _ _ _ _ _;
          querying = kept_open _ _ _ _ _;
          listing = kept_list;
          reading = kept_read;
          closing = λ w. kept_close;
          resting = λ n. k;
        }) p.phase

  pub kept_first : (tags : List Tag) → Kept set (beginning tags)
  kept_first tags = goes_on (beginning tags) (λ n e. cc) (omega arith) (omega arith) (omega arith) (omega arith)

pub keeps : Keeps
keeps set hs tags = holds_run set (Kept set) (kept_on set) hs (beginning tags) (kept_first set tags)

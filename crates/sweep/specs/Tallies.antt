-- How slots, commands and the budget of a sweep hang together. Assumes nothing.
use Rattle.std.specs.Prelude.{◌≡◌, ℕ, ◌+◌, ◌*◌, ◌≤◌, ◌⊎◌, List, length, count_by, ◌==◌}
use Rattle.record.specs.declared.Tag.{Tag}
use Rattle.field.specs.declared.hearing.Hearing.{Hearing}
use Rattle.field.specs.declared.hearing.Hearing.TheVariants.{Silence, Lone, Clash}
use Rattle.field.specs.Airs.{hearing_number}
use Rattle.slot.specs.declared.listed.ListedSlot.{ListedSlot}
use Rattle.slot.specs.Rules.{Setting, SweepState, beginning, ended, run_by, replayed}

-- How many slots were heard in some way.
abbrev pub heard_as : Hearing → List ListedSlot → ℕ
heard_as h slots = count_by (λ row. hearing_number row.hearing == hearing_number h) slots

-- However a sweep ends, it keeps to its budget and to the room of its lists. Stopping with 8 means that the budget is
-- spent, and with 9 that a list is full.
pub record Kept (set : Setting) (p : SweepState) : Type 0 where
  pub budget : p.commands ≤ set.budget
  pub slot_room : length p.slots ≤ set.slot_room
  pub serial_room : length p.serials ≤ set.serial_room
  pub opened : length p.slots ≤ p.commands
  pub spent : p.phase ≡ ended 8 → p.commands ≡ set.budget
  pub full : p.phase ≡ ended 9 → (length p.slots ≡ set.slot_room) ⊎ (length p.serials ≡ set.serial_room)

-- A whole sweep. Each clash adds a group, and each lone or silent slot takes one away.
pub record Balanced (p : SweepState) : Type 0 where
  pub commands : p.commands ≡ length p.slots + p.reads + 1
  pub slots : heard_as Lone p.slots + heard_as Silence p.slots ≡ heard_as Clash p.slots + 1

abbrev pub Keeps : Type 0
Keeps = (set : Setting) (hs : List Hearing) (tags : List Tag) → Kept set (run_by set hs (beginning tags))

abbrev pub EndsBalanced : Type 0
EndsBalanced =
    (set : Setting) (hs : List Hearing) (tags : List Tag) → (run_by set hs (beginning tags)).phase ≡ ended 0
    → Balanced (run_by set hs (beginning tags))

-- So many actions are enough for every sweep, since each is a command, a listing or the last.
abbrev pub enough : Setting → ℕ
enough set = 2 * set.budget + 2

-- Where every lone reply is heard as lone, each lone slot is read once.
abbrev pub ReadsOnce : Type 0
ReadsOnce =
    (set : Setting) (n : ℕ) (tags : List Tag) → (replayed set n (beginning tags)).phase ≡ ended 0
    → (replayed set n (beginning tags)).reads ≡ heard_as Lone (replayed set n (beginning tags)).slots

-- A replay that has ended is what enough actions give.
abbrev pub Settles : Type 0
Settles =
    (set : Setting) (n k : ℕ) (tags : List Tag) → (replayed set n (beginning tags)).phase ≡ ended k
    → replayed set n (beginning tags) ≡ replayed set (enough set) (beginning tags)

-- And so many actions always end it.
abbrev pub Ends : Type 0
Ends = (set : Setting) (tags : List Tag) → (k : ℕ) × ((replayed set (enough set) (beginning tags)).phase ≡ ended k)

-- What becomes of tags in a whole sweep, and which of them it reports: by no coin, and by no hearing. Assumes nothing.
use Rattle.std.specs.Prelude.{◌≡◌, ℕ, ◌≤◌, Bool, if◌then◌else◌, List, map, None, count_by, filter}
use Rattle.std.specs.Str.{bytes_eq}
use Rattle.record.specs.declared.WriteMark.TheVariants.{Clear}
use Rattle.record.specs.declared.Tag.{Tag}
use Rattle.record.specs.Masks.{matches}
use Rattle.record.specs.Records.{serial_of}
use Rattle.tag.specs.Steps.{is_selected, dealt_with}
use Rattle.field.specs.declared.hearing.Hearing.{Hearing}
use Rattle.field.specs.Sends.{Sized}
use Rattle.slot.specs.Commands.{word}
use Rattle.slot.specs.Rules.{Setting, SweepState, beginning, ended, run_by, MayHearAll}

-- The tags that a sweep reports, as it begins: those that are READY and match its SELECT, and those in SINGULATION.
abbrev pub is_due : Tag → Bool
is_due t = is_selected t.state (matches t.memory 0x00 0xc0 word)

-- A tag once a whole sweep is over. One that was due has been read.
abbrev pub tag_after_sweep : Tag → Tag
tag_after_sweep t = record (if is_due t then dealt_with (record t { counter = 0 }) else t) { mark = Clear; permission = None }

-- How many times a serial number is listed.
abbrev pub times : List ℕ → List (List ℕ) → ℕ
times serial serials = count_by (λ s. bytes_eq s serial) serials

abbrev pub due_serials : List Tag → List (List ℕ)
due_serials tags = map serial_of (filter is_due tags)

-- No serial number is there twice.
abbrev pub Distinct : List Tag → Type 0
Distinct tags = (serial : List ℕ) → times serial (map serial_of tags) ≤ 1

-- A list of serial numbers has each that is due, once, and no other.
pub record EachOnce (serials dues : List (List ℕ)) : Type 0 where
  pub same : (serial : List ℕ) → times serial serials ≡ times serial dues
  pub once : (serial : List ℕ) → times serial serials ≤ 1

-- What a whole sweep leaves and reports.
pub record SweepEffect (before : List Tag) (p : SweepState) : Type 0 where
  pub tags : p.tags ≡ map tag_after_sweep before
  pub serials : EachOnce p.serials (due_serials before)

abbrev pub SweepEffects : Type 0
SweepEffects =
    (set : Setting) (hs : List Hearing) (tags : List Tag) → Sized tags → Distinct tags → MayHearAll set hs (beginning tags)
    → (run_by set hs (beginning tags)).phase ≡ ended 0 → SweepEffect tags (run_by set hs (beginning tags))

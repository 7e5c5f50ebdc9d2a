-- Sweeps at the limits, by the second implementation, which wrote this file. Assumes nothing.
use Prim.Native.String.{String}
use Rattle.std.specs.Prelude.{◌≡◌, ℕ, ◌+◌, true, false, List, [], ◌∷◌, ◌++◌, map, Some}
use Rattle.std.specs.List.{AllByRecursion, range_with_len}
use Rattle.protocol.specs.declared.command.Command.{Command}
use Rattle.protocol.specs.declared.command.Command.TheVariants.{Select, Query, Scroll}
use Rattle.record.specs.declared.State.TheVariants.{Ready, Singulation, Inventoried}
use Rattle.record.specs.declared.WriteMark.TheVariants.{Fading, Fresh}
use Rattle.record.specs.declared.Tag.{Tag}
use Rattle.field.specs.declared.hearing.Hearing.{Hearing}
use Rattle.field.specs.declared.hearing.Hearing.TheVariants.{Silence, Lone, Clash}
use Rattle.slot.specs.declared.ending.End.TheVariants.{Whole, Stopped}
use Rattle.slot.specs.declared.ending.Report.{Report}
use Rattle.slot.specs.declared.ending.Stop.TheVariants.{Spent, Full}
use Rattle.slot.specs.Commands.{query}
use Rattle.slot.specs.Rules.{Setting, SweepState, Action, in_clash, beginning, stops, opens, next_action, run_by}
use Rattle.slot.specs.Rules.{MayHearAll, replayed}
use Rattle.sweep.specs.Effects.{tag_after_sweep, due_serials}
use Rattle.sweep.specs.Tallies.{enough}
use Rattle.sweep.specs.Whole.{Reported}
use Rattle.worked_cases.specs.Words.{bytes, flagged, numbered, carrier, carriers_from, slot_row, report_of}

-- Recorded rows, a budget, and room for slots and for serial numbers.
abbrev pub setting_of : List ℕ → ℕ → ℕ → ℕ → Setting
setting_of rows budget slot_room serial_room =
    record { coins = rows; budget = budget; slot_room = slot_room; serial_room = serial_room }

-- What a sweep is given, the tags before it, and what is heard at each action; then its report, its slots and serial
-- numbers, the tags after it, and how many of its commands are READs.
abbrev pub SweepCase : Type 0
SweepCase =
    Setting × List Tag × List Hearing × Report × List (Command × Hearing × ℕ) × List String × List Tag × ℕ

abbrev pub swept :
    Setting → List Tag → List Hearing → Report → List (Command × Hearing × ℕ) → List String → List Tag → ℕ → SweepCase
swept set before hearings report slots serials after reads =
    (set, before, hearings, report, slots, serials, after, reads)

-- A sweep that has ended gives what the case tells.
abbrev pub Gives : SweepCase → SweepState → Type 0
Gives (set, before, hearings, report, slots, serials, after, reads) play =
    Reported (record { report = report; slots = map slot_row slots; serials = map bytes serials }) after play
    × (play.reads ≡ reads)

-- These hearings may come, and with them it gives that.
abbrev pub PlaysOut : SweepCase → Type 0
PlaysOut x = MayHearAll x.0 x.2 (beginning x.1) × Gives x (run_by x.0 x.2 (beginning x.1))

-- It gives that too by the rule alone, where every lone reply is heard as lone.
abbrev pub Replays : SweepCase → Type 0
Replays x = Gives x (replayed x.0 (enough x.0) (beginning x.1))

-- A sweep that has heard nothing but clashes, as so many groups wait. What the reader does next hangs on no tag.
abbrev pub clashing : ℕ → SweepState
clashing groups =
    record {
      phase = in_clash;
      waiting = groups;
      next = 1;
      commands = groups + 1;
      reads = 0;
      slots = map (λ waiting. slot_row (Query, Clash, waiting)) (range_with_len 0 (groups + 1));
      serials = [];
      tags = [];
    }

-- Sweeps of none to four tags that hear each lone reply as lone: whole, the budget spent before each kind of command,
-- a list full.
unfoldable pub WorkedSweeps : Type 0
WorkedSweeps =
    AllByRecursion {X = SweepCase} (λ x. PlaysOut x × Replays x)
    (swept (setting_of (0x2 ∷ []) 2 1 0) [] (Silence ∷ Silence ∷ []) (report_of Whole 0 1 0 2)
    ((Select, Silence, 0) ∷ []) [] [] 0
    ∷ swept (setting_of (0x2 ∷ []) 3 1 1) (carrier 0x01 Ready false 0x00 ∷ []) (Lone ∷ Silence ∷ Lone ∷ Silence ∷ [])
    (report_of Whole 1 0 0 3) ((Select, Lone, 0) ∷ []) ("EF04000000000001" ∷ [])
    (carrier 0x01 Inventoried true 0x00 ∷ []) 1
    ∷ swept (setting_of (0x2 ∷ []) 6 3 2) (carriers_from 0x01 2 Ready false 0x00)
    (Clash ∷ Lone ∷ Silence ∷ Lone ∷ Lone ∷ Silence ∷ Lone ∷ Silence ∷ []) (report_of Whole 2 0 1 6)
    ((Select, Clash, 0) ∷ (Query, Lone, 1) ∷ (Scroll, Lone, 0) ∷ []) ("EF04000000000001" ∷ "EF04000000000002" ∷ [])
    (carriers_from 0x01 2 Inventoried true 0x00) 2
    ∷ swept (setting_of (0x2 ∷ []) 0 0 0) (carriers_from 0x01 2 Ready false 0x00) (Silence ∷ [])
    (report_of (Stopped Spent) 0 0 0 0) [] [] (carriers_from 0x01 2 Ready false 0x00) 0
    ∷ swept (setting_of (0x2 ∷ []) 1 1 0) (carriers_from 0x01 2 Ready false 0x00) (Clash ∷ Silence ∷ [])
    (report_of (Stopped Spent) 0 0 1 1) ((Select, Clash, 0) ∷ []) [] (carriers_from 0x01 2 Singulation false 0x00) 0
    ∷ swept (setting_of (0x2 ∷ []) 2 2 1) (carriers_from 0x01 2 Ready false 0x00)
    (Clash ∷ Lone ∷ Silence ∷ Silence ∷ []) (report_of (Stopped Spent) 1 0 1 2)
    ((Select, Clash, 0) ∷ (Query, Lone, 1) ∷ []) ("EF04000000000001" ∷ [])
    (carrier 0x01 Singulation false 0x00 ∷ carrier 0x02 Singulation false 0x01 ∷ []) 0
    ∷ swept (setting_of (0x2 ∷ []) 3 2 1) (carriers_from 0x01 2 Ready false 0x00)
    (Clash ∷ Lone ∷ Silence ∷ Lone ∷ Silence ∷ []) (report_of (Stopped Spent) 1 0 1 3)
    ((Select, Clash, 0) ∷ (Query, Lone, 1) ∷ []) ("EF04000000000001" ∷ [])
    (record (carrier 0x01 Inventoried true 0x00) { permission = Some 0x00 } ∷ carrier 0x02 Singulation false 0x01 ∷ [])
    1
    ∷ swept (setting_of (0x2 ∷ []) 4 3 2) (carriers_from 0x01 2 Ready false 0x00)
    (Clash ∷ Lone ∷ Silence ∷ Lone ∷ Lone ∷ Silence ∷ Silence ∷ []) (report_of (Stopped Spent) 2 0 1 4)
    ((Select, Clash, 0) ∷ (Query, Lone, 1) ∷ (Scroll, Lone, 0) ∷ []) ("EF04000000000001" ∷ "EF04000000000002" ∷ [])
    (carrier 0x01 Inventoried true 0x00 ∷ carrier 0x02 Singulation false 0x00 ∷ []) 1
    ∷ swept (setting_of (0x2 ∷ []) 5 3 2) (carriers_from 0x01 2 Ready false 0x00)
    (Clash ∷ Lone ∷ Silence ∷ Lone ∷ Lone ∷ Silence ∷ Lone ∷ Silence ∷ []) (report_of (Stopped Spent) 2 0 1 5)
    ((Select, Clash, 0) ∷ (Query, Lone, 1) ∷ (Scroll, Lone, 0) ∷ []) ("EF04000000000001" ∷ "EF04000000000002" ∷ [])
    (carrier 0x01 Inventoried true 0x00 ∷ record (carrier 0x02 Inventoried true 0x00) { permission = Some 0x00 } ∷ [])
    2
    ∷ swept (setting_of (0x2 ∷ []) 1 0 0) (carriers_from 0x01 2 Ready false 0x00) (Silence ∷ [])
    (report_of (Stopped Full) 0 0 0 0) [] [] (carriers_from 0x01 2 Ready false 0x00) 0
    ∷ swept (setting_of (0x2 ∷ []) 2 1 0) (carriers_from 0x01 2 Ready false 0x00) (Clash ∷ Silence ∷ [])
    (report_of (Stopped Full) 0 0 1 1) ((Select, Clash, 0) ∷ []) [] (carriers_from 0x01 2 Singulation false 0x00) 0
    ∷ swept (setting_of (0x2 ∷ []) 4 2 1) (carriers_from 0x01 2 Ready false 0x00)
    (Clash ∷ Lone ∷ Silence ∷ Lone ∷ Silence ∷ []) (report_of (Stopped Full) 1 0 1 3)
    ((Select, Clash, 0) ∷ (Query, Lone, 1) ∷ []) ("EF04000000000001" ∷ [])
    (record (carrier 0x01 Inventoried true 0x00) { permission = Some 0x00 } ∷ carrier 0x02 Singulation false 0x01 ∷ [])
    1
    ∷ swept (setting_of (0x2 ∷ []) 2 2 0) (carriers_from 0x01 2 Ready false 0x00) (Clash ∷ Lone ∷ Silence ∷ [])
    (report_of (Stopped Full) 1 0 1 2) ((Select, Clash, 0) ∷ (Query, Lone, 1) ∷ []) []
    (carrier 0x01 Singulation false 0x00 ∷ carrier 0x02 Singulation false 0x01 ∷ []) 0
    ∷ swept (setting_of (0x2 ∷ []) 4 3 1) (carriers_from 0x01 2 Ready false 0x00)
    (Clash ∷ Lone ∷ Silence ∷ Lone ∷ Lone ∷ Silence ∷ []) (report_of (Stopped Full) 2 0 1 4)
    ((Select, Clash, 0) ∷ (Query, Lone, 1) ∷ (Scroll, Lone, 0) ∷ []) ("EF04000000000001" ∷ [])
    (carrier 0x01 Inventoried true 0x00 ∷ carrier 0x02 Singulation false 0x00 ∷ []) 1
    ∷ swept (setting_of (0x3 ∷ 0x0 ∷ []) 5 5 0) (carriers_from 0x01 2 Ready false 0x00)
    (Clash ∷ Silence ∷ Clash ∷ Clash ∷ Silence ∷ Silence ∷ []) (report_of (Stopped Spent) 0 2 3 5)
    ((Select, Clash, 0) ∷ (Query, Silence, 1) ∷ (Scroll, Clash, 0) ∷ (Query, Clash, 1) ∷ (Query, Silence, 2) ∷ []) []
    (carriers_from 0x01 2 Singulation false 0x01) 0
    ∷ swept (setting_of (0xc ∷ 0xa ∷ []) 14 9 4) (carriers_from 0x01 4 Ready false 0x00) (Clash ∷ Clash ∷ Lone
    ∷ Silence ∷ Lone ∷ Lone ∷ Silence ∷ Lone ∷ Clash ∷ Silence ∷ Clash ∷ Lone ∷ Silence ∷ Lone ∷ Lone ∷ Silence ∷ Lone
    ∷ Silence ∷ []) (report_of Whole 4 1 4 14) ((Select, Clash, 0) ∷ (Query, Clash, 1) ∷ (Query, Lone, 2)
    ∷ (Scroll, Lone, 1) ∷ (Scroll, Clash, 0) ∷ (Query, Silence, 1) ∷ (Scroll, Clash, 0) ∷ (Query, Lone, 1)
    ∷ (Scroll, Lone, 0) ∷ []) ("EF04000000000001" ∷ "EF04000000000002" ∷ "EF04000000000003" ∷ "EF04000000000004" ∷ [])
    (carriers_from 0x01 4 Inventoried true 0x00) 4
    ∷ swept (setting_of (0x1 ∷ []) 6 3 2) (carrier 0x01 Ready false 0x00
    ∷ record (carrier 0x02 Inventoried true 0x03) { mark = Fresh; permission = Some 0x05 } ∷ numbered 0x03 Ready 0x00
    ∷ numbered 0x04 Singulation 0x09 ∷ []) (Clash ∷ Lone ∷ Silence ∷ Lone ∷ Lone ∷ Silence ∷ Lone ∷ Silence ∷ [])
    (report_of Whole 2 0 1 6) ((Select, Clash, 0) ∷ (Query, Lone, 1) ∷ (Scroll, Lone, 0) ∷ [])
    ("0000000000000004" ∷ "EF04000000000001" ∷ []) (carrier 0x01 Inventoried true 0x00
    ∷ carrier 0x02 Inventoried true 0x03 ∷ numbered 0x03 Ready 0x00 ∷ flagged (numbered 0x04 Inventoried 0x00) ∷ []) 2
    ∷ swept (setting_of (0x2 ∷ []) 4 2 1) (carrier 0x01 Ready false 0x00 ∷ carrier 0x01 Ready false 0x00 ∷ [])
    (Clash ∷ Lone ∷ Silence ∷ Clash ∷ Clash ∷ Silence ∷ []) (report_of (Stopped Spent) 1 0 1 4)
    ((Select, Clash, 0) ∷ (Query, Lone, 1) ∷ []) ("EF04000000000001" ∷ [])
    (record (carrier 0x01 Inventoried true 0x00) { permission = Some 0x00 }
    ∷ record (carrier 0x01 Inventoried true 0x01) { permission = Some 0x00 } ∷ []) 2
    ∷ [])

-- Sweeps in which some lone replies are heard as clashes, as a spoiler hears them.
unfoldable pub SpoiledSweeps : Type 0
SpoiledSweeps =
    AllByRecursion PlaysOut
    (swept (setting_of (0x2 ∷ []) 4 1 1) (carrier 0x01 Ready false 0x00 ∷ [])
    (Lone ∷ Silence ∷ Clash ∷ Lone ∷ Silence ∷ []) (report_of Whole 1 0 0 4) ((Select, Lone, 0) ∷ [])
    ("EF04000000000001" ∷ []) (carrier 0x01 Inventoried true 0x00 ∷ []) 2
    ∷ swept (setting_of (0x2 ∷ []) 6 3 1) (carrier 0x01 Ready false 0x00 ∷ [])
    (Clash ∷ Lone ∷ Silence ∷ Clash ∷ Lone ∷ Silence ∷ Silence ∷ []) (report_of Whole 1 1 1 6)
    ((Select, Clash, 0) ∷ (Query, Lone, 1) ∷ (Scroll, Silence, 0) ∷ []) ("EF04000000000001" ∷ [])
    (carrier 0x01 Inventoried true 0x00 ∷ []) 2
    ∷ swept (setting_of (0x2 ∷ []) 9 5 2) (carriers_from 0x01 2 Ready false 0x00)
    (Clash ∷ Lone ∷ Silence ∷ Lone ∷ Clash ∷ Silence ∷ Lone ∷ Silence ∷ Lone ∷ Silence ∷ []) (report_of Whole 2 1 2 8)
    ((Select, Clash, 0) ∷ (Query, Lone, 1) ∷ (Scroll, Clash, 0) ∷ (Query, Silence, 1) ∷ (Scroll, Lone, 0) ∷ [])
    ("EF04000000000001" ∷ "EF04000000000002" ∷ []) (carriers_from 0x01 2 Inventoried true 0x00) 2
    ∷ swept (setting_of (0x0 ∷ 0x1 ∷ []) 5 5 1) (carrier 0x01 Ready false 0x00 ∷ [])
    (Clash ∷ Clash ∷ Silence ∷ Clash ∷ Clash ∷ Silence ∷ []) (report_of (Stopped Spent) 0 1 4 5)
    ((Select, Clash, 0) ∷ (Query, Clash, 1) ∷ (Query, Silence, 2) ∷ (Scroll, Clash, 1) ∷ (Query, Clash, 2) ∷ []) []
    (carrier 0x01 Singulation false 0x00 ∷ []) 0
    ∷ [])

-- What a sweep is given, how many groups wait behind a clash, and what the reader does: 7 comes before 8 and 9.
unfoldable pub DeepSweeps : Type 0
DeepSweeps =
    AllByRecursion {X = Setting × ℕ × Action} (λ (set, groups, action). next_action set (clashing groups) ≡ action)
    ((setting_of (0x0 ∷ []) 256 256 0, 254, opens Query query 0x0 255 1)
    ∷ (setting_of (0x0 ∷ []) 65535 257 0, 255, stops 7) ∷ (setting_of (0x0 ∷ []) 256 256 0, 255, stops 7)
    ∷ (setting_of (0x0 ∷ []) 255 256 0, 254, stops 8) ∷ (setting_of (0x0 ∷ []) 256 255 0, 254, stops 9)
    ∷ (setting_of (0x0 ∷ []) 255 255 0, 254, stops 8) ∷ [])

-- Tags before a whole sweep, the tags after it, and what it lists, in the order of places.
unfoldable pub WorkedFates : Type 0
WorkedFates =
    AllByRecursion {X = List Tag × List Tag × List String}
    (λ (before, after, serials). (map tag_after_sweep before ≡ after) × (due_serials before ≡ map bytes serials))
    (([], [], [])
    ∷ (carrier 0x01 Ready false 0x00 ∷ [], carrier 0x01 Inventoried true 0x00 ∷ [], "EF04000000000001" ∷ [])
    ∷ (
      carriers_from 0x01 2 Ready false 0x00,
      carriers_from 0x01 2 Inventoried true 0x00,
      "EF04000000000001" ∷ "EF04000000000002" ∷ [],
    )
    ∷ (
      carriers_from 0x01 8 Ready false 0x00,
      carriers_from 0x01 8 Inventoried true 0x00,
      "EF04000000000001" ∷ "EF04000000000002" ∷ "EF04000000000003" ∷ "EF04000000000004" ∷ "EF04000000000005"
          ∷ "EF04000000000006" ∷ "EF04000000000007" ∷ "EF04000000000008" ∷ [],
    )
    ∷ (
      carrier 0x00 Ready false 0x07 ∷ carrier 0x01 Singulation false 0x07 ∷ carrier 0x02 Inventoried false 0x07 ∷ [],
      carriers_from 0x00 2 Inventoried true 0x00 ++ carrier 0x02 Inventoried false 0x07 ∷ [],
      "EF04000000000000" ∷ "EF04000000000001" ∷ [],
    )
    ∷ (
      numbered 0x00 Ready 0x07 ∷ numbered 0x01 Singulation 0x07 ∷ numbered 0x02 Inventoried 0x07 ∷ [],
      numbered 0x00 Ready 0x07 ∷ flagged (numbered 0x01 Inventoried 0x00) ∷ numbered 0x02 Inventoried 0x07 ∷ [],
      "0000000000000001" ∷ [],
    )
    ∷ (
      record (carrier 0x01 Ready false 0x00) { mark = Fading; permission = Some 0x01 }
          ∷ record (carrier 0x02 Ready false 0x00) { mark = Fresh; permission = Some 0x02 } ∷ [],
      carriers_from 0x01 2 Inventoried true 0x00,
      "EF04000000000001" ∷ "EF04000000000002" ∷ [],
    )
    ∷ (
      carrier 0x01 Ready false 0x00
          ∷ record (carrier 0x02 Inventoried true 0x03) { mark = Fresh; permission = Some 0x05 }
          ∷ numbered 0x03 Ready 0x00 ∷ numbered 0x04 Singulation 0x09 ∷ [],
      carrier 0x01 Inventoried true 0x00 ∷ carrier 0x02 Inventoried true 0x03 ∷ numbered 0x03 Ready 0x00
          ∷ flagged (numbered 0x04 Inventoried 0x00) ∷ [],
      "EF04000000000001" ∷ "0000000000000004" ∷ [],
    )
    ∷ [])

-- When two tags are alike: their records are equal in every part. Assumes nothing.
use Rattle.std.specs.Prelude.{ℕ, Bool, ◌&&◌, ◌==◌}
use Rattle.std.specs.Bool.{beq}
use Rattle.std.specs.Option.{option_eq}
use lib.Pointwise.{pointwise}
use Rattle.record.specs.declared.State.{State}
use Rattle.record.specs.declared.State.TheVariants.{Ready, Singulation, Inventoried}
use Rattle.record.specs.declared.Tag.{Tag}
use Rattle.record.specs.Records.{mark_number}

-- A number for each state, to compare states by.
abbrev pub state_number : State → ℕ
state_number Ready = 0
state_number Singulation = 1
state_number Inventoried = 2

-- Part by part, as a test.
abbrev pub alike : Tag → Tag → Bool
alike t u =
    pointwise ◌==◌ t.memory u.memory && (pointwise beq t.locks u.locks && (state_number t.state == state_number u.state && (beq t.identified u.identified && (t.counter == u.counter && (mark_number t.mark == mark_number u.mark && option_eq ◌==◌ t.permission u.permission)))))

-- Answers that hand back what was given. Assumes nothing.
use Rattle.std.specs.Prelude.{ℕ, Some, None, Ok, Err, Option, Result}
use Rattle.protocol.specs.Refusals.{number_of}
use Rattle.field.specs.declared.declined.Declined.{Declined}

-- The number of the refusal, if a call is refused.
abbrev pub declined_by : {X Y : Type 0} → Result X (Declined Y) → Option ℕ
declined_by (Ok x) = None
declined_by (Err e) = Some (number_of e.refusal)

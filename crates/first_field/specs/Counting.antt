-- A field that counts what is sent to it. Assumes nothing.
use Rattle.std.specs.Prelude.{◌≡◌, ℕ, ◌+◌, ◌-◌, ◌^◌, List, min}
use Rattle.field.specs.declared.hearing.Hearing.{Hearing}
use Rattle.field.specs.declared.field.Field.{Ghosts as Kind}
use Rattle.field.specs.Promises.{AfterSend}
use Rattle.first_field.specs.declared.counted.Counted.{Counted}

-- The field below, and how many sends it was handed.
abbrev pub field_of : {F : Type 0} → Counted F → F
field_of counted = counted.field

abbrev pub sends_of : {F : Type 0} → Counted F → ℕ
sends_of counted = counted.sends

-- One send more. The count stays at the greatest number that fits.
abbrev pub one_more : ℕ → ℕ
one_more sends = min (sends + 1) (2 ^ 64 - 1)

-- What a counted field does with a frame: it hands it on, hears what is heard below, and counts it.
pub record HandsOn {F : Type 0} (below : Kind F) (frame : List ℕ) (row : ℕ)
    (before after : Counted F) (heard : Hearing) : Type 0 where
  pub sent_below : AfterSend below frame row heard (field_of before) (field_of after)
  pub counted : sends_of after ≡ one_more (sends_of before)

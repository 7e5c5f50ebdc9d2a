-- What a call makes of a field: what all fields do, and what its kind promises beside that. Assumes nothing.
use Rattle.std.specs.Prelude.{◌≡◌, ℕ, List, Ok, IsTrue}
use Rattle.frame.specs.Openings.{opening}
use Rattle.field.specs.declared.field.Field.{Ghosts as Kind}
use Rattle.field.specs.declared.hearing.Hearing.{Hearing}
use Rattle.field.specs.Airs.{MayHear, plain_hearing}
use Rattle.field.specs.Sends.{stepped_all, on_air, after_gap_all}

-- A frame that is sent with a row of coins, what is heard of it, and the field before and after.
pub record AfterSend {F : Type 0} (kind : Kind F) (frame : List ℕ) (row : ℕ) (heard : Hearing) (before after : F) : Type 0 where
  pub tags : kind.tags after ≡ stepped_all (opening frame) row (kind.tags before)
  pub may_be : MayHear (on_air (opening frame) row (kind.tags before)) heard
  pub plain : IsTrue (kind.faithful before) → heard ≡ plain_hearing (on_air (opening frame) row (kind.tags before))
  pub as_faithful : kind.faithful after ≡ kind.faithful before
  pub promise : kind.hears before frame row (Ok heard) after

-- A gap of some microseconds, and the field before and after.
pub record AfterGap {F : Type 0} (kind : Kind F) (microseconds : ℕ) (before after : F) : Type 0 where
  pub tags : kind.tags after ≡ after_gap_all microseconds (kind.tags before)
  pub as_faithful : kind.faithful after ≡ kind.faithful before
  pub promise : kind.passes before microseconds after

-- What a frame makes of the write mark of a tag. Assumes nothing.
use Rattle.std.specs.Prelude.{◌≡◌, ◌-◌, Bool, if◌then◌else◌, ◌||◌}
use Rattle.protocol.specs.declared.command.Command.TheVariants.{Write}
use Rattle.frame.specs.Openings.{Opening}
use Rattle.record.specs.declared.Tag.{Tag}
use Rattle.record.specs.Records.{mark_number}
use Rattle.tag.specs.Frames.{is_for, is_lock_for, stores_in, locks_in}

-- Whether a frame is to change what a tag holds: a WRITE for it, or a LOCK that it obeys.
abbrev pub is_tried : Opening → Tag → Bool
is_tried frame t = is_for Write frame t || is_lock_for frame t

-- Whether it does.
abbrev pub is_done : Opening → Tag → Bool
is_done frame t = stores_in frame t || locks_in frame t

-- A tag before and after a frame: a change that is done makes the mark 2, one that is tried in vain 0. Whatever else
-- the frame is, the mark falls by one, if it is not 0.
pub record MarkLaw (frame : Opening) (before after : Tag) : Type 0 where
  pub mark : mark_number after.mark
      ≡ (if is_tried frame before then (if is_done frame before then 2 else 0) else mark_number before.mark - 1)

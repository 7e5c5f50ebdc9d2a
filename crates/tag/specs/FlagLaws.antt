-- What a frame changes in the ID flag of a tag. Assumes nothing.
use Rattle.std.specs.Prelude.{◌≡◌, ℕ, Bool, true, false, if◌then◌else◌, ◌&&◌, ◌||◌, IsTrue, IsFalse}
use Rattle.protocol.specs.declared.command.Command.TheVariants.{Reset, Read, Verify, Qlock, ReadFlexible, Write}
use Rattle.frame.specs.Openings.{Opening, refused}
use Rattle.record.specs.declared.Tag.{Tag}
use Rattle.record.specs.Records.{fallen, is_write_ok}
use Rattle.tag.specs.Frames.{is_a, is_for}

-- Whether by this frame a reader reads or writes at a tag. A VERIFY counts only under WRITE_OK; a LOCK does not, nor does
-- it matter whether a WRITE may store.
abbrev pub is_dealt_with : Opening → Tag → Bool
is_dealt_with frame t =
    is_for Read frame t || (is_for ReadFlexible frame t || (is_for Write frame t || (is_for Qlock frame t || is_for Verify frame t && is_write_ok (fallen t.mark))))

-- A tag before and after a frame: the flag is set where a reader reads or writes at the tag, cleared by RESET, and
-- otherwise as it was.
pub record FlagLaw (frame : Opening) (before after : Tag) : Type 0 where
  pub flag : after.identified
      ≡ (if is_dealt_with frame before then true else (if is_a Reset frame then false else before.identified))
  -- A frame that does not open, as with a wrong check value, neither sets nor clears it.
  pub refusals : (n : ℕ) → frame ≡ refused n → after.identified ≡ before.identified
  -- RESET alone clears it.
  pub cleared : IsTrue before.identified → IsFalse after.identified → IsTrue (is_a Reset frame)

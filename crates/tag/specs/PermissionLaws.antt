-- What a frame leaves of a tag's permission to lock. Assumes nothing.
use Rattle.std.specs.Prelude.{◌≡◌, Bool, if◌then◌else◌, ◌||◌, Some, None, IsTrue}
use Rattle.protocol.specs.declared.command.Command.TheVariants.{Read, Verify, Qlock, ReadFlexible}
use Rattle.frame.specs.Openings.{Opening}
use Rattle.record.specs.declared.Tag.{Tag}
use Rattle.tag.specs.Frames.{is_a, is_for, address_in, stores_in}

-- Whether a frame permits the next one to lock: it is a READ, a READ_FLEXIBLE or a QLOCK for a tag, or stores in it.
abbrev pub permits : Opening → Tag → Bool
permits frame t = is_for Read frame t || (is_for ReadFlexible frame t || (is_for Qlock frame t || stores_in frame t))

-- A tag after a frame: what is permitted is that frame's address, if it permits, and nothing else.
pub record PermissionLaw (frame : Opening) (before after : Tag) : Type 0 where
  pub permission : after.permission ≡ (if permits frame before then Some (address_in frame) else None)
  -- A VERIFY permits nothing, and leaves nothing permitted.
  pub verify : IsTrue (is_a Verify frame) → after.permission ≡ None

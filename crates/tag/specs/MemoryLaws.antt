-- What a frame changes in the memory of a tag, address by address. Assumes nothing.
use Rattle.std.specs.Prelude.{◌≡◌, ℕ, ◌+◌, ◌-◌, Bool, if◌then◌else◌, ◌&&◌, ◌||◌, ◌==◌, nat_le, nat_lt, slice_index}
use Rattle.protocol.specs.declared.command.Parameter.TheVariants.{Mask, Data}
use Rattle.frame.specs.Openings.{Opening, parts_in}
use Rattle.frame.specs.Parts.{bytes_of}
use Rattle.record.specs.declared.Tag.{Tag}
use Rattle.record.specs.Masks.{selects}
use Rattle.record.specs.Records.{byte_at, locked_at}
use Rattle.tag.specs.Frames.{address_in, stores_in, locks_in}
use Rattle.tag.specs.Orders.{byte_of}

-- Whether an address is one of the four from another on, and selected by a mask.
abbrev pub is_covered : ℕ → ℕ → ℕ → Bool
is_covered a mask i = nat_le a i && (nat_lt i (a + 4) && selects mask (i - a))

-- Whether a frame stores a byte at an address of a tag: it stores in the tag, and reaches the address.
abbrev pub stores_at : Opening → Tag → ℕ → Bool
stores_at frame t i = stores_in frame t && is_covered (address_in frame) (byte_of Mask (parts_in frame)) i

-- The byte that a frame has for an address.
abbrev pub byte_for : Opening → ℕ → ℕ
byte_for frame i = slice_index (bytes_of Data (parts_in frame)) (i - address_in frame)

-- Whether a frame locks an address of a tag: it locks, and just there.
abbrev pub locks_at : Opening → Tag → ℕ → Bool
locks_at frame t i = locks_in frame t && i == address_in frame

-- A tag before and after a frame: each byte and each lock is as it was, unless the frame stores or locks just there.
pub record MemoryLaw (frame : Opening) (before after : Tag) : Type 0 where
  pub bytes : (i : ℕ) → byte_at after i ≡ (if stores_at frame before i then byte_for frame i else byte_at before i)
  pub locks : (i : ℕ) → locked_at after i ≡ (locked_at before i || locks_at frame before i)

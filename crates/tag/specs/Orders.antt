-- What a frame asks of the tags that hear it. Assumes nothing.
use Rattle.std.specs.Prelude.{ℕ, Bool, ◌+◌, if◌then◌else◌, List, nat_lt, slice_index}
use Rattle.protocol.specs.declared.command.Command.{Command}
use Rattle.protocol.specs.declared.command.Command.TheVariants.{Select, UnselectNe, UnselectIdFlag, UnselectNoidFlag, Query, Scroll, Repeat, Reset, Read, Verify, Lock, Qlock, ReadFlexible, Write}
use Rattle.protocol.specs.declared.command.Parameter.{Parameter}
use Rattle.protocol.specs.declared.command.Parameter.TheVariants.{Serial, Address, Mask, Word, Data, Length}
use Rattle.frame.specs.declared.request.Comparison.{Comparison}
use Rattle.frame.specs.Openings.{Opening, refused, opened}
use Rattle.frame.specs.Parts.{Part, bytes_of}
use Rattle.record.specs.declared.Tag.{Tag}
use Rattle.record.specs.Masks.{matches}

-- An order, with the values of its parameters.
pub data Order : Type 0 where
  -- address, mask and word
  select : ℕ → ℕ → List ℕ → Order
  unselect_ne : ℕ → ℕ → List ℕ → Order
  unselect_id_flag : Order
  unselect_noid_flag : Order
  query : Order
  scroll : Order
  -- REPEAT
  repeat : Order
  reset : Order
  -- serial number, address, and how many bytes
  read : List ℕ → ℕ → ℕ → Order
  -- serial number and address, and of a write the mask and the data
  verify : List ℕ → ℕ → Order
  write : List ℕ → ℕ → ℕ → List ℕ → Order
  lock : List ℕ → ℕ → Order
  qlock : List ℕ → ℕ → Order
  -- no frame, or a wrong check value
  damaged : Order
  -- no such code, or not of its length
  unknown : Order

-- A parameter of one byte.
abbrev pub byte_of : Parameter → List Part → ℕ
byte_of p parts = slice_index (bytes_of p parts) 0

-- Whether the masked bytes of a tag are those that a frame wants.
abbrev pub is_matching : Tag → Comparison → Bool
is_matching t wanted = matches t.memory wanted.address.part.now wanted.mask.part.now wanted.word.part.now

abbrev pub order_of : Command → List Part → Order
order_of Select parts = select (byte_of Address parts) (byte_of Mask parts) (bytes_of Word parts)
order_of UnselectNe parts = unselect_ne (byte_of Address parts) (byte_of Mask parts) (bytes_of Word parts)
order_of UnselectIdFlag parts = unselect_id_flag
order_of UnselectNoidFlag parts = unselect_noid_flag
order_of Query parts = query
order_of Scroll parts = scroll
order_of Repeat parts = repeat
order_of Reset parts = reset
order_of Read parts = read (bytes_of Serial parts) (byte_of Address parts) 8
order_of ReadFlexible parts = read (bytes_of Serial parts) (byte_of Address parts) (byte_of Length parts + 1)
order_of Verify parts = verify (bytes_of Serial parts) (byte_of Address parts)
order_of Write parts = write (bytes_of Serial parts) (byte_of Address parts) (byte_of Mask parts) (bytes_of Data parts)
order_of Lock parts = lock (bytes_of Serial parts) (byte_of Address parts)
order_of Qlock parts = qlock (bytes_of Serial parts) (byte_of Address parts)

-- The order in what opening gave. The refusals are 1 to 4.
abbrev pub order_in : Opening → Order
order_in (refused n) = if nat_lt n 3 then damaged else unknown
order_in (opened code c parts) = order_of c parts

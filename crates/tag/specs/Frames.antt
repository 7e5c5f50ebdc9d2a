-- What a frame is to a tag: a command, with the tag's serial number or another, at an address. Assumes nothing.
use Rattle.std.specs.Prelude.{ℕ, Bool, true, false, ◌&&◌, ◌==◌}
use Rattle.protocol.specs.declared.command.Command.{Command}
use Rattle.protocol.specs.declared.command.Command.TheVariants.{Lock, Write}
use Rattle.protocol.specs.declared.command.Parameter.TheVariants.{Serial, Address}
use Rattle.protocol.specs.Commands.{code_of}
use Rattle.frame.specs.Openings.{Opening, refused, opened, parts_in}
use Rattle.frame.specs.Parts.{bytes_of}
use Rattle.record.specs.declared.Tag.{Tag}
use Rattle.tag.specs.Orders.{byte_of}
use Rattle.tag.specs.Steps.{has_serial, is_writable, is_lockable, if_inventoried}

-- Whether a frame opened, as a command.
abbrev pub is_a : Command → Opening → Bool
is_a c (refused n) = false
is_a c (opened code d parts) = code_of d == code_of c

abbrev pub address_in : Opening → ℕ
address_in frame = byte_of Address (parts_in frame)

-- Whether a frame is a command with a tag's serial number.
abbrev pub is_for : Command → Opening → Tag → Bool
is_for c frame t = is_a c frame && has_serial t (bytes_of Serial (parts_in frame))

-- Whether a frame stores in a tag: it is a WRITE for it, which may store where it wants to.
abbrev pub stores_in : Opening → Tag → Bool
stores_in frame t = is_for Write frame t && is_writable t (address_in frame)

-- Whether a frame is a LOCK that an INVENTORIED tag obeys.
abbrev pub is_lock_for : Opening → Tag → Bool
is_lock_for frame t = is_for Lock frame t && if_inventoried t.state true false

-- Whether it locks: its address was permitted, and is there.
abbrev pub locks_in : Opening → Tag → Bool
locks_in frame t = is_lock_for frame t && is_lockable t.permission (address_in frame)

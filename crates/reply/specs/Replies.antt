-- What a reply says: data, and on the air the data with its check value. Assumes nothing.
use Rattle.std.specs.Prelude.{◌≡◌, ℕ, ◌+◌, List, [], ◌∷◌, Some, None, Option}
use Rattle.crc.specs.Check.{register, sealed}
use Rattle.record.specs.declared.Tag.{Tag}
use Rattle.reply.specs.declared.Reply.{Reply}
use Rattle.reply.specs.declared.Reply.TheVariants.{Serial, Memory, Status}
use Rattle.record.specs.Records.{bytes_from, serial_of}

-- The data of a tag's reply.
abbrev pub data_of : Tag → Reply → List ℕ
data_of t Serial = serial_of t
data_of t (Memory a more) = bytes_from t.memory a (more + 1)
data_of t (Status b) = b ∷ []

-- How many bytes the longest reply has, with its check value.
abbrev pub longest_reply : ℕ
longest_reply = 258

-- A reply as it is sent, or none.
abbrev pub sealed_reply : Option (List ℕ) → Option (List ℕ)
sealed_reply None = None
sealed_reply (Some bytes) = Some (sealed bytes)

-- A reply, with its check value, always leaves the same value in the register.
abbrev pub Residual : Option (List ℕ) → Type 0
Residual None = Unit {0}
Residual (Some bytes) = register bytes ≡ 0x1d0f

-- The data in what the code tells of a reply.
abbrev pub data_in : Tag → Option Reply → Option (List ℕ)
data_in t None = None
data_in t (Some r) = Some (data_of t r)

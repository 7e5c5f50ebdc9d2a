-- What a writer holds once bytes are put into its buffer. Assumes nothing.
use Rattle.std.specs.Prelude.{◌≡◌, ℕ, ◌+◌, Bool, if◌then◌else◌, List, ◌++◌, length, take, drop, fold, nat_le}
use Rattle.std.specs.Borrow.{MutBor}
use Rattle.crc.specs.Check.{byte_taken}
use Rattle.frame.specs.declared.writer.Writer.{Writer}

-- A buffer with some bytes laid over it from a place on.
unfoldable pub overlaid : List ℕ → ℕ → List ℕ → List ℕ
overlaid buffer place bytes = take place buffer ++ (bytes ++ drop (place + length bytes) buffer)

-- How many bytes a writer has filled.
abbrev pub filled_of : Writer → ℕ
filled_of w = w.filled

-- The register over those.
abbrev pub register_of : Writer → ℕ
register_of w = w.register

-- A writer that begins on a lent buffer: nothing is filled, and the buffer is as it was lent.
pub record Begun (lent : MutBor (List ℕ)) (writer : Writer) : Type 0 where
  pub filled : writer.filled ≡ 0
  pub register : writer.register ≡ 0xffff
  pub buffer : writer.buffer.now ≡ lent.now
  pub lender : writer.buffer.ghost_name ≡ lent.ghost_name

-- A writer before and after some bytes were to be put. It is done if they all fit: then they stand behind those that
-- were there, and the register has taken them. Otherwise nothing has changed. The buffer is its lender's all the time.
pub record Put (bytes : List ℕ) (before after : Writer) (done : Bool) : Type 0 where
  pub fits : done ≡ nat_le (before.filled + length bytes) (length before.buffer.now)
  pub filled : after.filled ≡ (if done then before.filled + length bytes else before.filled)
  pub register : after.register ≡ (if done then fold byte_taken before.register bytes else before.register)
  pub buffer : after.buffer.now ≡ (if done then overlaid before.buffer.now before.filled bytes else before.buffer.now)
  pub lender : after.buffer.ghost_name ≡ before.buffer.ghost_name

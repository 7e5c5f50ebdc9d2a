-- The check value, which is CRC-16/GENIBUS: a 16-bit register, preset to FFFF, takes the bits of each byte, the highest
-- first, with the polynomial 1021. What is sent is the register inverted, high byte first. Assumes nothing.
use Rattle.std.specs.Prelude.{ℕ, ◌-◌, ◌*◌, ◌/◌, ◌%◌, if◌then◌else◌, List, [], ◌∷◌, ◌++◌, fold, bit_xor, nat_lt}

-- The register one place further up. A 1 that falls out at the top brings the polynomial in.
unfoldable pub moved_up : ℕ → ℕ
moved_up r = if nat_lt r 0x8000 then r * 2 else bit_xor (r * 2 - 0x10000) 0x1021

-- The register after one more bit, 0 or 1, which meets the top of the register before it moves.
unfoldable pub bit_taken : ℕ → ℕ → ℕ
bit_taken r b = moved_up (bit_xor r (b * 0x8000))

-- The bits of a byte, the highest first.
unfoldable pub bits : ℕ → List ℕ
bits x =
    x / 128 % 2 ∷ x / 64 % 2 ∷ x / 32 % 2 ∷ x / 16 % 2 ∷ x / 8 % 2 ∷ x / 4 % 2 ∷ x / 2 % 2 ∷ x % 2 ∷ []

unfoldable pub byte_taken : ℕ → ℕ → ℕ
byte_taken r x = fold bit_taken r (bits x)

-- The register over a message.
abbrev pub register : List ℕ → ℕ
register message = fold byte_taken 0xffff message

-- The check value of a message, as a number.
abbrev pub check_value : List ℕ → ℕ
check_value message = 0xffff - register message

-- A number of two bytes as it is sent, high byte first.
abbrev pub high_byte_first : ℕ → List ℕ
high_byte_first v = v / 256 % 256 ∷ v % 256 ∷ []

-- A message with its check value behind it: what a reader sends and what a tag replies.
unfoldable pub sealed : List ℕ → List ℕ
sealed message = message ++ high_byte_first (check_value message)

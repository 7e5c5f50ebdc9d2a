-- Why a text is not read or a frame not made, and what reading gives. Assumes nothing.
use Rattle.std.specs.Prelude.{◌≡◌, ℕ, List, ◌++◌, codes, decimal, Result, MatchResult}
use Rattle.hex.specs.declared.error.FromHexError.{FromHexError}
use Rattle.hex.specs.declared.error.FromHexError.TheVariants.{InvalidHexCharacter, OddLength, InvalidStringLength, OutOfMemory}
use Rattle.protocol.specs.Names.{refusal_name}
use Rattle.notation.specs.declared.error.NotationError.{NotationError}
use Rattle.notation.specs.declared.error.NotationError.TheVariants.{Bytes, Bit, State, Mark, Missing, Surplus, Refused, Memory}

abbrev pub error_text : NotationError → List ℕ
error_text Bytes = codes "not the bytes that are wanted, in hexadecimal"
error_text Bit = codes "neither 0 nor 1"
error_text State = codes "no state"
error_text Mark = codes "no write mark"
error_text Missing = codes "a word is missing"
error_text Surplus = codes "a word too many"
error_text (Refused refusal) = refusal_name refusal
error_text Memory = codes "out of memory"

-- Where it stands, by the line's number.
abbrev pub line_text : ℕ → List ℕ
line_text number = codes "line " ++ decimal number

-- An error of the crate `hex`, in this crate's words.
abbrev pub of_hex : FromHexError → NotationError
of_hex (InvalidHexCharacter c i) = Bytes
of_hex OddLength = Bytes
of_hex InvalidStringLength = Bytes
of_hex OutOfMemory = Memory

-- What reading a text gives: a value that it spells, or a certain error where it spells none.
abbrev pub Reads : {A : Type 0} → (List ℕ → A → Type 0) → NotationError → List ℕ → Result A NotationError → Type 0
Reads Spells error text r = MatchResult r (Spells text) (λ e. (e ≡ error) × ((value : _) → Spells text value → ⊥))

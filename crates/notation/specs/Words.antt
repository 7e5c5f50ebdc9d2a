-- The words of a record: what texts spell a bit, a state, a write mark, a permission and locks, and what five words do
-- one behind another. Assumes nothing.
use Rattle.std.specs.Prelude.{◌≡◌, ℕ, ◌/◌, ◌%◌, ◌⊎◌, Bool, true, false, List, map, codes, Option, Some, None, Result, Ok, Err, MatchOption, slice_index}
use Rattle.std.specs.Borrow.{Bor}
use Rattle.std.specs.List.{range_with_len}
use Rattle.std.specs.Str.Iter.{split_whitespace_steps}
use Rattle.std.specs.declared.str.SplitWhitespace.{SplitWhitespace}
use Rattle.record.specs.declared.State.{State}
use Rattle.record.specs.declared.Tag.{Tag}
use Rattle.record.specs.declared.WriteMark.{WriteMark}
use Rattle.record.specs.declared.WriteMark.TheVariants.{Clear, Fading, Fresh}
use Rattle.record.specs.Masks.{selects}
use Rattle.record.specs.Names.{state_name}
use Rattle.notation.specs.Hexadecimal.{SpellsArray, SpellsByte}
use Rattle.notation.specs.Errors.{Reads}
use Rattle.notation.specs.declared.error.NotationError.{NotationError}
use Rattle.notation.specs.declared.error.NotationError.TheVariants as notation_error

abbrev pub SpellsBit : List ℕ → Bool → Type 0
SpellsBit text false = codes "0" ≡ text
SpellsBit text true = codes "1" ≡ text

abbrev pub SpellsState : List ℕ → State → Type 0
SpellsState text state = state_name state ≡ text

abbrev pub SpellsMark : List ℕ → WriteMark → Type 0
SpellsMark text Clear = codes "0" ≡ text
SpellsMark text Fading = codes "1" ≡ text
SpellsMark text Fresh = codes "2" ≡ text

-- An address, or a dash for none.
abbrev pub SpellsPermission : List ℕ → Option ℕ → Type 0
SpellsPermission text None = codes "-" ≡ text
SpellsPermission text (Some address) = SpellsByte text address

-- The 56 bits of seven bytes, the highest of a byte first.
abbrev pub locks_of : List ℕ → List Bool
locks_of bytes = map (λ address. selects (slice_index bytes (address / 8)) (address % 8)) (range_with_len 0 56)

abbrev pub SpellsLocks : List ℕ → List Bool → Type 0
SpellsLocks text locks = (bytes : List ℕ) × SpellsArray 7 text bytes × (locks ≡ locks_of bytes)

-- The next word is read: what reading it gives, or that it is missing.
abbrev pub ReadsNext : {A : Type 0} → (List ℕ → A → Type 0) → NotationError → SplitWhitespace → SplitWhitespace → Result A NotationError → Type 0
ReadsNext Spells error before after r =
    (next : Option (Bor (List ℕ))) × split_whitespace_steps before next after
    × MatchOption next (r ≡ Err notation_error.Missing) (λ text. Reads Spells error text.now r)

-- The next five words spell the state, the ID flag, the counter, the write mark and the permission of a record.
pub record SpellsParts (before after : SplitWhitespace) (tag : Tag) : Type 0 where
  pub behind_state : SplitWhitespace
  pub behind_flag : SplitWhitespace
  pub behind_counter : SplitWhitespace
  pub behind_mark : SplitWhitespace
  pub state : ReadsNext SpellsState notation_error.State before behind_state (Ok tag.state)
  pub flag : ReadsNext SpellsBit notation_error.Bit behind_state behind_flag (Ok tag.identified)
  pub counter : ReadsNext SpellsByte notation_error.Bytes behind_flag behind_counter (Ok tag.counter)
  pub mark : ReadsNext SpellsMark notation_error.Mark behind_counter behind_mark (Ok tag.mark)
  pub permission : ReadsNext SpellsPermission notation_error.Bytes behind_mark after (Ok tag.permission)

-- The next word spells something of a kind, and behind it something holds.
abbrev pub ReadsThen : {A : Type 0} → (List ℕ → A → Type 0) → NotationError → SplitWhitespace → (SplitWhitespace → Type 0) → Type 0
ReadsThen {A} Spells error before On = (value : A) × (after : SplitWhitespace) × ReadsNext Spells error before after (Ok value) × On after

-- The first of the five words that is missing or spells nothing of its kind makes an error.
unfoldable pub IsNoParts : SplitWhitespace → SplitWhitespace → NotationError → Type 0
IsNoParts before after e =
    ReadsNext SpellsState notation_error.State before after (Err e) ⊎ ReadsThen SpellsState notation_error.State before (λ b.
    ReadsNext SpellsBit notation_error.Bit b after (Err e) ⊎ ReadsThen SpellsBit notation_error.Bit b (λ c.
    ReadsNext SpellsByte notation_error.Bytes c after (Err e) ⊎ ReadsThen SpellsByte notation_error.Bytes c (λ d.
    ReadsNext SpellsMark notation_error.Mark d after (Err e) ⊎ ReadsThen SpellsMark notation_error.Mark d (λ p.
    ReadsNext SpellsPermission notation_error.Bytes p after (Err e)))))

-- What paper shows once bytes are printed on it. Assumes nothing.
use Rattle.std.specs.Prelude.{◌≡◌, ℕ, ◌+◌, if◌then◌else◌, List, ◌++◌, length, nat_lt, Some, None, Ok, Result}
use Rattle.protocol.specs.declared.refusal.Refusal.{Refusal}
use Rattle.protocol.specs.Refusals.{refusal_in}

-- Paper before and after some bytes were to be printed. They all are if there is room, and then stand behind the text
-- that was there.
pub record Printed {P : Type 0} (room : P → ℕ) (Shows : P → P → List ℕ → Type 0) (bytes : List ℕ) (before after : P) (result : Result (Unit {0}) Refusal) : Type 0 where
  pub answer : refusal_in result ≡ (if nat_lt (room before) (length bytes) then Some 5 else None)
  pub left : result ≡ Ok tt → room after + length bytes ≡ room before
  pub shows : result ≡ Ok tt → (start : P) (text : List ℕ) → Shows start before text → Shows start after (text ++ bytes)

-- The refusals by their numbers, and answers that are a number or a refusal. Assumes nothing.
use Rattle.std.specs.Prelude.{ℕ, Some, None, Ok, Err, Option, Result}
use Rattle.protocol.specs.declared.refusal.Refusal.{Refusal}
use Rattle.protocol.specs.declared.refusal.Refusal.TheVariants.{Stub, Check, Code, Length, Buffer, Crowd, Coins, Period}

abbrev pub number_of : Refusal → ℕ
number_of Stub = 1
number_of Check = 2
number_of Code = 3
number_of Length = 4
number_of Buffer = 5
number_of Crowd = 6
number_of Coins = 10
number_of Period = 11

-- The number of the refusal, if a call is refused.
abbrev pub refusal_in : {T : Type 0} → Result T Refusal → Option ℕ
refusal_in (Ok x) = None
refusal_in (Err e) = Some (number_of e)

pub data WriteResult : Type 0 where
  wrote : ℕ → WriteResult
  -- by the refusal's number
  not_written : ℕ → WriteResult

abbrev pub write_result : Result ℕ Refusal → WriteResult
write_result (Ok n) = wrote n
write_result (Err e) = not_written (number_of e)

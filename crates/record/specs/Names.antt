-- The names of a tag's states, and texts of what names nothing. Assumes nothing.
use Rattle.std.specs.Prelude.{◌≡◌, ◌≢◌, ℕ, List, codes, Result, MatchResult}
use Rattle.record.specs.declared.State.{State}
use Rattle.record.specs.declared.State.TheVariants.{Ready, Singulation, Inventoried}
use Rattle.record.specs.declared.unknown.Unknown.{Unknown}
use Rattle.record.specs.declared.unknown.Unknown.TheVariants as unknown

abbrev pub state_name : State → List ℕ
state_name Ready = codes "READY"
state_name Singulation = codes "SINGULATION"
state_name Inventoried = codes "INVENTORIED"

abbrev pub unknown_text : Unknown → List ℕ
unknown_text unknown.State = codes "no state"
unknown_text unknown.Mark = codes "no write mark"

-- What reading a text gives: the state that it names, or an error, by its text, where it names none.
abbrev pub ReadsState : List ℕ → Result State Unknown → Type 0
ReadsState text r =
    MatchResult r (λ state. state_name state ≡ text) (λ e. (unknown_text e ≡ codes "no state") × ((state : State) → state_name state ≢ text))

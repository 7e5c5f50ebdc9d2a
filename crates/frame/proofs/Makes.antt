-- What making comes to, case by case. Assumes nothing.
use Rattle.std.proofs.Common.{◌≡◌, ℕ, ◌+◌, ◌<◌, ◌≤◌, List, ◌∷◌, length, Some, None, Option, ap, ◌∙◌, arith}
use Rattle.std.proofs.lemmas.Bool.{lt-ltb, le-ltb, eq-eqb, ne_eqb, cond-true, cond-false}
use Rattle.crc.specs.Check.{sealed}
use Rattle.protocol.specs.declared.command.Command.{Command}
use Rattle.protocol.specs.Commands.{code_of, length_of, command_with_code}
use Rattle.protocol.proofs.Lookups.{named_self}
use Rattle.frame.specs.Makings.{unmade, made, making, making_by_command}

module _ (code : ℕ) (parameters : List ℕ) (room : ℕ) where
  for_command_lem : (o : Option Command) → command_with_code code ≡ o → making code parameters room ≡ making_by_command o code parameters room
  unfolding making
  for_command_lem o e = ap (λ (p : Option Command). making_by_command p code parameters room) e

  pub no_code : command_with_code code ≡ None → making code parameters room ≡ unmade 3
  no_code e = for_command_lem None e

  module _ (c : Command) (e : command_with_code code ≡ Some c) where
    pub bad-length : (length parameters + 3 ≡ length_of c → ⊥) → making code parameters room ≡ unmade 4
    bad-length l = for_command_lem (Some c) e ∙ cond-false _ _ _ (ne_eqb (length parameters + 3) (length_of c) l)

    module _ (l : length parameters + 3 ≡ length_of c) where
      pub no_room : room < length_of c → making code parameters room ≡ unmade 5
      no_room r =
          for_command_lem (Some c) e ∙ cond-true _ _ _ (eq-eqb (length parameters + 3) (length_of c) l)
          ∙ cond-true _ _ _ (lt-ltb room (length_of c) r)

      pub makes : length_of c ≤ room → making code parameters room ≡ made (sealed (code ∷ parameters))
      makes r =
          for_command_lem (Some c) e ∙ cond-true _ _ _ (eq-eqb (length parameters + 3) (length_of c) l)
          ∙ cond-false _ _ _ (le-ltb room (length_of c) r)

-- The parameters of a command, and a buffer too short for its frame.
pub short_of_room : (c : Command) (parameters : List ℕ) (room : ℕ) → length parameters + 3 ≡ length_of c → room < length parameters + 3 → making (code_of c) parameters room ≡ unmade 5
short_of_room c parameters room whole short = no_room (code_of c) parameters room c (named_self c) whole (omega arith)

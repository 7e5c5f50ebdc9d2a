-- What opening comes to, case by case. Assumes nothing.
use Rattle.std.proofs.Common.{◌≡◌, ℕ, ◌<◌, ◌≤◌, true, false, cond, List, length, get_or, Some, None, Option, ap, ◌∙◌}
use Rattle.std.proofs.lemmas.Bool.{lt-ltb, le-ltb, eq-eqb, ne_eqb, cond-true, cond-false}
use Rattle.protocol.specs.declared.command.Command.{Command}
use Rattle.protocol.specs.Commands.{code_of, layout, length_of, command_with_code}
use Rattle.frame.specs.Openings.{refused, opened, opening, opening_by_command, is_sealed, parameters_of}
use Rattle.frame.specs.Parts.{placed}

module _ (frame : List ℕ) where
  pub stub : length frame < 3 → opening frame ≡ refused 1
  unfolding opening
  stub h = cond-true _ _ _ (lt-ltb (length frame) 3 h)

  long : 3 ≤ length frame → opening frame ≡ cond (is_sealed frame) (opening_by_command (command_with_code (get_or frame 0 0)) frame) (refused 2)
  unfolding opening
  long h = cond-false _ _ _ (le-ltb (length frame) 3 h)

  pub bad_check : 3 ≤ length frame → is_sealed frame ≡ false → opening frame ≡ refused 2
  bad_check h s = long h ∙ cond-false _ _ _ s

  module _ (h : 3 ≤ length frame) (s : is_sealed frame ≡ true) where
    by_name_lem : (o : Option Command) → command_with_code (get_or frame 0 0) ≡ o → opening frame ≡ opening_by_command o frame
    by_name_lem o e = long h ∙ cond-true _ _ _ s ∙ ap (λ (p : Option Command). opening_by_command p frame) e

    pub no_code : command_with_code (get_or frame 0 0) ≡ None → opening frame ≡ refused 3
    no_code e = by_name_lem None e

    pub bad-length : (c : Command) → command_with_code (get_or frame 0 0) ≡ Some c → (length frame ≡ length_of c → ⊥) → opening frame ≡ refused 4
    bad-length c e l = by_name_lem (Some c) e ∙ cond-false _ _ _ (ne_eqb (length frame) (length_of c) l)

    pub opens : (c : Command) → command_with_code (get_or frame 0 0) ≡ Some c → length frame ≡ length_of c
        → opening frame ≡ opened (code_of c) c (placed 1 (layout c) (parameters_of frame))
    opens c e l = by_name_lem (Some c) e ∙ cond-true _ _ _ (eq-eqb (length frame) (length_of c) l)

-- Making and opening undo each other. Assumes nothing.
use Rattle.std.proofs.Common.{◌≡◌, ℕ, ◌+◌, ◌-◌, ◌≤◌, true, List, [], ◌∷◌, ◌++◌, length, get_or, take, drop, Some, sym, refl, ap, ◌∙◌, subst, arith}
use Rattle.std.proofs.lemmas.Slice.Eq.{bytes_eq-Decides}
use Rattle.std.proofs.lemmas.List.{nil_from_length, take-append-drop, take_at, take-append-le, drop-append-le, drop-drop, length-drop, length-take, length-append}
use Rattle.crc.specs.Check.{high_byte_first, check_value, sealed}
use Rattle.protocol.specs.declared.command.Command.{Command}
use Rattle.protocol.specs.declared.command.Parameter.{Parameter}
use Rattle.protocol.proofs.Lookups.{named_code}
use Rattle.protocol.specs.Commands.{code_of, command_with_code, layout, length_of, size_of, sizes}
use Rattle.frame.specs.Makings.{making, made, OpensAs}
use Rattle.frame.specs.Openings.{opened, without_check_value, is_sealed, parameters_of}
use Rattle.frame.specs.Parts.{placed, bytes_in, Within}
use Rattle.frame.proofs.Opens.{opens}
use Rattle.frame.proofs.Makes.{makes}
use Rattle.frame.proofs.Seals.{front-sealed, front_length, front_apart, length_parameters}

-- The parameters, placed, are the bytes that were there.
pub bytes_in-placed : (offset : ℕ) (ps : List Parameter) (bytes : List ℕ) → length bytes ≡ sizes ps → bytes_in (placed offset ps bytes) ≡ bytes
bytes_in-placed offset [] bytes l = sym (nil_from_length bytes l)
bytes_in-placed offset (p ∷ ps) bytes l =
    ap (λ (xs : List ℕ). take (size_of p) bytes ++ xs)
    (bytes_in-placed (offset + size_of p) ps (drop (size_of p) bytes) (simp length-drop (omega arith)))
    ∙ take-append-drop (size_of p) bytes

-- Each lies in the frame where it is placed, if the bytes lie there from the offset on.
pub within-placed : (frame behind : List ℕ) (offset : ℕ) (ps : List Parameter) (bytes : List ℕ) → length bytes ≡ sizes ps
    → drop offset frame ≡ bytes ++ behind → offset + length bytes + 2 ≤ length frame → Within frame (placed offset ps bytes)
within-placed frame behind offset [] bytes l e short = tt
within-placed frame behind offset (p ∷ ps) bytes l e short =
    let n : ℕ = size_of p in
    let fits : n ≤ length bytes = omega arith in
    let count : length (take n bytes) ≡ n = simp length-take (omega arith) in (
      (ap (λ (k : ℕ). take k (drop offset frame)) count ∙ ap (take n) e ∙ take-append-le n bytes behind fits, omega arith),
      within-placed frame behind (offset + n) ps (drop n bytes) (simp length-drop (omega arith))
          (sym (drop-drop n offset frame) ∙ ap (drop n) e ∙ drop-append-le n bytes behind fits) (simp length-drop (omega arith)),
    )

pub sealed-length : (message : List ℕ) → length (sealed message) ≡ length message + 2
unfolding sealed
sealed-length message = length-append message (high_byte_first (check_value message))

pub is-sealed : (message : List ℕ) → is_sealed (sealed message) ≡ true
unfolding is_sealed
is-sealed message =
    (bytes_eq-Decides (sealed message) (sealed (without_check_value (sealed message)))).1 (ap sealed (sym (front-sealed message)))

pub first_byte : (code : ℕ) (parameters : List ℕ) → get_or (sealed (code ∷ parameters)) 0 0 ≡ code
unfolding sealed
first_byte code parameters = refl

-- What is made opens as what it was made of.
pub opens_back : (code : ℕ) (parameters : List ℕ) (c : Command) → command_with_code code ≡ Some c → length parameters + 3 ≡ length_of c
    → OpensAs code parameters (sealed (code ∷ parameters))
unfolding parameters_of
opens_back code parameters c e l =
    let frame : List ℕ = sealed (code ∷ parameters) in
    let long : length frame ≡ length parameters + 3 = omega (arith, sealed-length (code ∷ parameters)) in
    let first : get_or frame 0 0 ≡ code = first_byte code parameters in
    let ps : parameters_of frame ≡ parameters = ap (drop 1) (front-sealed (code ∷ parameters)) in (
      c,
      placed 1 (layout c) parameters,
      opens frame (omega arith) (is-sealed (code ∷ parameters)) c (ap command_with_code first ∙ e) (long ∙ l)
          ∙ ap (λ (n : ℕ). opened n c (placed 1 (layout c) (parameters_of frame))) (named_code code c e)
          ∙ ap (λ (xs : List ℕ). opened code c (placed 1 (layout c) xs)) ps,
      bytes_in-placed 1 (layout c) parameters (omega arith),
    )

-- The same of a buffer at whose front the frame stands.
pub opens_at : (code : ℕ) (parameters buffer : List ℕ) (n : ℕ) (rest : List ℕ) → buffer ≡ sealed (code ∷ parameters) ++ rest → n ≡ length (sealed (code ∷ parameters))
    → OpensAs code parameters (sealed (code ∷ parameters)) → OpensAs code parameters (take n buffer)
opens_at code parameters buffer n rest e l h =
    subst (OpensAs code parameters) (sym (ap (take n) e ∙ take_at (sealed (code ∷ parameters)) rest n (sym l))) h

module _ (frame : List ℕ) (h : 3 ≤ length frame) (s : is_sealed frame ≡ true) where
  is-front-sealed : frame ≡ sealed (without_check_value frame)
  unfolding is_sealed
  is-front-sealed = (bytes_eq-Decides frame (sealed (without_check_value frame))).0 s

  behind_code : drop 1 frame ≡ parameters_of frame ++ drop (length frame - 2) frame
  unfolding without_check_value parameters_of
  behind_code =
      ap (drop 1) (sym (take-append-drop (length frame - 2) frame))
      ∙ drop-append-le 1 (take (length frame - 2) frame) (drop (length frame - 2) frame) (omega (arith, front_length frame h))

  module _ (c : Command) (e : command_with_code (get_or frame 0 0) ≡ Some c) (l : length frame ≡ length_of c) where
    parameters-fit : length (parameters_of frame) ≡ sizes (layout c)
    parameters-fit = omega (arith, length_parameters frame h)

    -- What opens lies in the frame where it says.
    pub within : Within frame (placed 1 (layout c) (parameters_of frame))
    within = within-placed frame (drop (length frame - 2) frame) 1 (layout c) (parameters_of frame) parameters-fit behind_code (omega (arith, length_parameters frame h))

    -- What opens is the frame that making gives for its code and parameters.
    pub remade : making (code_of c) (bytes_in (placed 1 (layout c) (parameters_of frame))) (length frame) ≡ made frame
    remade =
        let k : code_of c ≡ get_or frame 0 0 = named_code (get_or frame 0 0) c e in
        ap (λ (xs : List ℕ). making (code_of c) xs (length frame)) (bytes_in-placed 1 (layout c) (parameters_of frame) parameters-fit)
        ∙ makes (code_of c) (parameters_of frame) (length frame) c (ap command_with_code k ∙ e) (omega (arith, parameters-fit)) (omega arith)
        ∙ ap made (ap (λ (n : ℕ). sealed (n ∷ parameters_of frame)) k ∙ ap sealed (sym (front_apart frame h)) ∙ sym is-front-sealed)

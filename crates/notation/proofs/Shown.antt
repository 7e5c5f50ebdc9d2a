-- Bytes, as the loop over them writes them. Assumes nothing.
use Rattle.std.proofs.Common.{◌≡◌, ℕ, ◌+◌, ◌-◌, ◌/◌, ◌%◌, ◌^◌, ◌<◌, ◌≤◌, true, false, List, [], ◌∷◌, length, take, drop, get_or, Some, sym, ap, ◌∙◌, arith}
use Rattle.std.proofs.Output.{has_written_append, has_written_of_eq}
use Rattle.std.proofs.lemmas.Fmt.{hex_byte}
use Rattle.std.proofs.lemmas.List.{flat_map_more, take_all, take_more}
use Rattle.std.specs.Fmt.{digits, digits_output, padded_integral, format_spec, styled_digits_output, HasWritten}
use Rattle.std.specs.List.{flat_map}
use Rattle.std.specs.declared.fmt.Formatter.{Formatter}
use Rattle.hex.specs.Hex.{encode_upper, encode_with}
use Rattle.notation.specs.Hexadecimal.{behind, shown}
use Rattle.notation.proofs.Capitals.{capital}

two_digits : (byte : ℕ) → byte < 256 → padded_integral (format_spec 32 0 4 2 (2 ^ 64 - 1)) false [] (digits 16 true byte) ≡ encode_upper (byte ∷ [])
unfolding encode_with
two_digits byte fits =
    let high = capital (byte / 16) (omega arith) in
    let low = capital (byte % 16) (omega arith) in
    rw (high, low) (hex_byte true byte fits)

-- What `{:02X}` writes of a byte.
pub byte_text : (d : _) (s : _) (byte : ℕ) → byte < 256 → digits_output d ≡ Some (digits 16 true byte) → s ≡ format_spec 32 0 4 2 (2 ^ 64 - 1)
    → styled_digits_output d s ≡ Some (encode_upper (byte ∷ []))
byte_text d s byte fits e l = rw (l, e) (ap Some (two_digits byte fits))

module _ {W : Type 0} (took : W → List ℕ → W → Type 0) where
  -- One byte more is written, behind what stands between.
  pub one_more : (f g h k : Formatter W) (between rest : List ℕ) (i : ℕ) → i < length rest
      → HasWritten took f (flat_map (behind between) (take i rest)) g → HasWritten took g between h → HasWritten took h (encode_upper (get_or rest i 0 ∷ [])) k
      → HasWritten took f (flat_map (behind between) (take (i + 1) rest)) k
  one_more f g h k between rest i lt before gap byte =
      let same = flat_map_more (behind between) [] (take i rest) (get_or rest i 0) ∙ ap (flat_map (behind between)) (sym (take_more rest i 0 lt)) in
      has_written_of_eq took _ _ _ _ same (has_written_append took _ _ _ _ _ before (has_written_append took _ _ _ _ _ gap byte))

  -- The first byte is written, and then all others.
  pub all_shown : (f g h : Formatter W) (between bytes : List ℕ) (i : ℕ) → 1 ≤ length bytes → length (take (length bytes - 1) (drop 1 bytes)) ≤ i
      → HasWritten took f (encode_upper (get_or bytes 0 0 ∷ [])) g → HasWritten took g (flat_map (behind between) (take i (take (length bytes - 1) (drop 1 bytes)))) h
      → HasWritten took f (shown between bytes) h
  all_shown f g h between [] i some end first others = absurd (omega arith)
  all_shown f g h between (b ∷ rest) i some end first others =
      let behind_it : take (length (b ∷ rest) - 1) (drop 1 (b ∷ rest)) ≡ rest = take_all (length (b ∷ rest) - 1) rest (omega arith) in
      let whole : take i (take (length (b ∷ rest) - 1) (drop 1 (b ∷ rest))) ≡ rest = take_all i _ end ∙ behind_it in
      has_written_append took _ _ _ _ _ first (rw whole at others)

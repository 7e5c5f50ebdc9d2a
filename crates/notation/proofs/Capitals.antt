-- Digits with capital letters: what they read as, spells them. Assumes nothing.
use Rattle.std.proofs.Common.{◌≡◌, ℕ, zero, suc, ◌+◌, ◌*◌, ◌/◌, ◌%◌, ◌<◌, ◌==◌, eqb, codes, Bool, true, false, ◌&&◌, ◌⊎◌, inl, inr, List, [], ◌∷◌, length, slice_index, Option, Some, None, Result, Ok, Err, refl, sym, ap, ◌∙◌, arith}
use Rattle.std.proofs.lemmas.Bool.{and_parts, or_parts, cases_eq, cases_lt, eqb-true}
use Rattle.std.specs.Cmp.Lexicographic.{pointwise}
use Rattle.std.specs.Char.{is_ascii_lowercase}
use Rattle.std.specs.Fmt.{digit_glyph}
use Rattle.std.specs.Result.{result_or, result_unwrap_or}
use Rattle.hex.specs.Hex.{IsBytes, decode_of, decode_pairs, decode_sized, digit_or_error, hex_digit_value, encode_upper, encode_with, pair_value, upper_digits, value_at, ◌>>=◌}
use Rattle.hex.specs.declared.error.FromHexError.{FromHexError}
use Rattle.hex.specs.declared.error.FromHexError.TheVariants.{InvalidHexCharacter, OddLength, InvalidStringLength, OutOfMemory}
use Rattle.hex.proofs.HexLemmas.{decode_of-encode_upper, decode_of-even, decode_of-ok}
use Rattle.notation.specs.Hexadecimal.{SpellsDigits, SpellsBytes, SpellsArray, SpellsByte, has_small}
use Rattle.notation.specs.Errors.{Reads, of_hex}
use Rattle.notation.specs.Words.{SpellsPermission}
use Rattle.notation.specs.declared.error.NotationError.{NotationError}
use Rattle.notation.specs.declared.error.NotationError.TheVariants.{Bytes, Memory}

-- The sixteen digits are the capital ones, which a test of each shows.
abbrev is_glyph : ℕ → Bool
is_glyph v = slice_index upper_digits v == digit_glyph true v

abbrev are_glyphs : ℕ → Bool
are_glyphs zero = true
are_glyphs (suc n) = is_glyph n && are_glyphs n

glyph_below : (n v : ℕ) → are_glyphs n ≡ true → v < n → slice_index upper_digits v ≡ digit_glyph true v
glyph_below zero v h lt = absurd (omega arith)
glyph_below (suc n) v h lt =
    let parts = and_parts (is_glyph n) (are_glyphs n) h in
    elim (cases_lt v n) [
      | inl below ↦ glyph_below n v parts.1 below
      | inr top ↦
          let e : v ≡ n = omega arith in
          rw e (eqb-true (slice_index upper_digits n) (digit_glyph true n) parts.0)
    ]

pub capital : (v : ℕ) → v < 16 → slice_index upper_digits v ≡ digit_glyph true v
capital v lt = glyph_below 16 v refl lt

-- A digit that is no small letter is the capital one of its value.
value_of : (c v : ℕ) → hex_digit_value c ≡ Some v → is_ascii_lowercase c ≡ false → (v < 16) × (digit_glyph true v ≡ c)
value_of c v h small = (grind (arith), grind (arith))

not_small : (v : ℕ) → v < 16 → is_ascii_lowercase (digit_glyph true v) ≡ false
not_small v lt = grind (arith)

-- What an `Ok` of two steps shows.
then_ok : {A B : Type 0} (r : Result A FromHexError) (f : A → Result B FromHexError) (y : B) → (r >>= f) ≡ Ok y → (x : A) × (r ≡ Ok x) × (f x ≡ Ok y)
then_ok (Ok x) f y h = (x, refl, h)
then_ok (Err e) f y h = cc h

value_read : (c i : ℕ) (o : Option ℕ) (v : ℕ) → digit_or_error c i o ≡ Ok v → o ≡ Some v
value_read c i (Some w) v h = cc
value_read c i None v h = cc h

read_back : (i : ℕ) (text bytes : List ℕ) → has_small text ≡ false → decode_pairs i text ≡ Ok bytes → encode_upper bytes ≡ text
unfolding decode_pairs encode_with
read_back i [] bytes small h =
    let e : [] ≡ bytes = ap (λ (r : Result (List ℕ) FromHexError). result_unwrap_or r []) h in
    rw (← e) refl
read_back i (a ∷ []) bytes small h = cc h
read_back i (a ∷ b ∷ rest) bytes small h =
    let sa = or_parts (is_ascii_lowercase a) (has_small (b ∷ rest)) small in
    let sb = or_parts (is_ascii_lowercase b) (has_small rest) sa.1 in
    let p0 = then_ok (pair_value a b i) _ bytes h in
    let p1 = then_ok (value_at a i) _ p0.0 p0.1 in
    let p2 = then_ok (value_at b (i + 1)) _ p0.0 p1.2 in
    let p3 = then_ok (decode_pairs (i + 2) rest) _ bytes p0.2 in
    let later = read_back (i + 2) rest p3.0 sb.1 p3.1 in
    let e : p0.0 ∷ p3.0 ≡ bytes = ap (λ (r : Result (List ℕ) FromHexError). result_unwrap_or r []) p3.2 in
    let va = value_of a p1.0 (value_read a i (hex_digit_value a) p1.0 p1.1) sa.0 in
    let vb = value_of b p2.0 (value_read b (i + 1) (hex_digit_value b) p2.0 p2.1) sb.0 in
    let byte : p1.0 * 16 + p2.0 ≡ p0.0 = ap (λ (r : Result ℕ FromHexError). result_unwrap_or r 0) p2.2 in
    let high : p0.0 / 16 ≡ p1.0 = omega (arith, va.0, vb.0) in
    let low : p0.0 % 16 ≡ p2.0 = omega (arith, va.0, vb.0) in
    let ca : slice_index upper_digits p1.0 ≡ a = capital p1.0 va.0 ∙ va.1 in
    let cb : slice_index upper_digits p2.0 ≡ b = capital p2.0 vb.0 ∙ vb.1 in
    rw (← e, high, low, ca, cb, later) refl

written_large : (bytes : List ℕ) → IsBytes bytes → has_small (encode_upper bytes) ≡ false
unfolding encode_with
written_large [] h = refl
written_large (b ∷ rest) h =
    let fits : b < 256 = h 0 in
    let high : b / 16 < 16 = omega arith in
    let low : b % 16 < 16 = omega arith in
    let later = written_large rest (λ k. h (suc k)) in
    rw (capital (b / 16) high, capital (b % 16) low, not_small (b / 16) high, not_small (b % 16) low) later

-- What has no small letters and decodes, spells what it decodes to, and nothing else is spelt.
pub spells_decoded : (text bytes : List ℕ) → has_small text ≡ false → decode_of text ≡ Ok bytes → SpellsDigits text bytes
spells_decoded text bytes small h =
    let ok = decode_of-ok text bytes h in
    (ok.3, read_back 0 text bytes small (sym (decode_of-even text ok.0) ∙ h))

pub spelt_is_large : (text bytes : List ℕ) → SpellsDigits text bytes → has_small text ≡ false
spelt_is_large text bytes s = rw s.1 at (written_large bytes s.0)

pub spelt_decodes : (text bytes : List ℕ) → SpellsDigits text bytes → decode_of text ≡ Ok bytes
spelt_decodes text bytes s = rw s.1 at (decode_of-encode_upper bytes s.0)

sized_odd : (text : List ℕ) (n : ℕ) → length text % 2 ≡ 1 → decode_sized text n ≡ Err OddLength
sized_odd text n odd = grind (arith)

sized_other : (text : List ℕ) (n : ℕ) → length text % 2 ≡ 0 → (length text / 2 ≡ n → ⊥) → decode_sized text n ≡ Err InvalidStringLength
sized_other text n even other = grind (arith)

sized_same : (text : List ℕ) (n : ℕ) → length text % 2 ≡ 0 → length text / 2 ≡ n → decode_sized text n ≡ decode_of text
sized_same text n even same = grind (arith)

pub spells_sized : (text : List ℕ) (n : ℕ) (bytes : List ℕ) → has_small text ≡ false → decode_sized text n ≡ Ok bytes → SpellsArray n text bytes
spells_sized text n bytes small h =
    elim (cases_eq (length text % 2) 1) [
      | inl odd ↦ cc (sym h ∙ sized_odd text n odd)
      | inr even ↦
          let e : length text % 2 ≡ 0 = omega arith in
          elim (cases_eq (length text / 2) n) [
            | inl same ↦
                let d : decode_of text ≡ Ok bytes = sym (sized_same text n e same) ∙ h in
                let ok = decode_of-ok text bytes d in
                let long = ok.2 in
                (spells_decoded text bytes small d, omega (arith, long))
            | inr other ↦ cc (sym h ∙ sized_other text n e other)
          ]
    ]

pub spelt_decodes_sized : (text : List ℕ) (n : ℕ) (bytes : List ℕ) → SpellsArray n text bytes → decode_sized text n ≡ Ok bytes
spelt_decodes_sized text n bytes s =
    let d = spelt_decodes text bytes s.0 in
    let ok = decode_of-ok text bytes d in
    let long = ok.2 in
    let even = ok.0 in
    sized_same text n even (omega (arith, long, s.1)) ∙ d

pub read_sized : (text : List ℕ) (n : ℕ) (r : Result (List ℕ) FromHexError) → has_small text ≡ false → r ≡ decode_sized text n → Reads (SpellsArray n) Bytes text (result_or r (Err Bytes))
read_sized text n (Ok bytes) small e = spells_sized text n bytes small (sym e)
read_sized text n (Err x) small e = (refl, λ bytes s. cc (e ∙ spelt_decodes_sized text n bytes s))

-- What is no dash, spells by digits.
pub no_dash : (text bytes : List ℕ) → pointwise eqb text (codes "-") ≡ false → SpellsBytes text bytes → SpellsDigits text bytes
no_dash text bytes h s =
    elim s [
      | inl by_digits ↦ by_digits
      | inr dash ↦
          let t : true ≡ false = rw dash.0 at h in
          cc
    ]

pub refused_bytes : (text : List ℕ) (x : FromHexError) (e : NotationError) → e ≡ of_hex x → pointwise eqb text (codes "-") ≡ false → (x ≡ OutOfMemory) ⊎ (decode_of text ≡ Err x)
    → (e ≡ Memory) ⊎ ((e ≡ Bytes) × ((bytes : List ℕ) → SpellsBytes text bytes → ⊥))
refused_bytes text OutOfMemory e is h why = inl is
refused_bytes text OddLength e is h why = inr (is, λ bytes s. elim why [ inl m ↦ cc m | inr d ↦ cc (sym d ∙ spelt_decodes text bytes (no_dash text bytes h s)) ])
refused_bytes text InvalidStringLength e is h why = inr (is, λ bytes s. elim why [ inl m ↦ cc m | inr d ↦ cc (sym d ∙ spelt_decodes text bytes (no_dash text bytes h s)) ])
refused_bytes text (InvalidHexCharacter c i) e is h why = inr (is, λ bytes s. elim why [ inl m ↦ cc m | inr d ↦ cc (sym d ∙ spelt_decodes text bytes (no_dash text bytes h s)) ])

pub refused_permission : (text : List ℕ) → pointwise eqb text (codes "-") ≡ false → ((byte : ℕ) → SpellsByte text byte → ⊥) → (address : Option ℕ) → SpellsPermission text address → ⊥
refused_permission text h none None s =
    let t : true ≡ false = rw (← s) at h in
    cc
refused_permission text h none (Some byte) s = none byte s

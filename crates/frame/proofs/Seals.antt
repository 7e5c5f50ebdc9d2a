-- A frame taken apart into code, parameters and check value. Assumes nothing.
use Rattle.std.proofs.Common.{◌≡◌, ℕ, ◌+◌, ◌-◌, ◌*◌, ◌/◌, ◌%◌, ◌<◌, ◌≤◌, true, false, List, [], ◌∷◌, ◌++◌, length, get_or, take, drop, fold, sym, ap, ◌∙◌, ⊎_elim, arith}
use Rattle.std.proofs.lemmas.List.{append_cancel_left, take-append-drop, drop-take, drop_more, drop_all, take_at, get_or-take, length-append, length-take, length-drop}
use Rattle.std.proofs.lemmas.Bool.{cases_Bool}
use Rattle.std.proofs.lemmas.Slice.Eq.{bytes_eq-Decides}
use Rattle.crc.specs.Check.{byte_taken, check_value, high_byte_first, sealed}
use Rattle.frame.specs.Openings.{without_check_value, is_sealed, parameters_of}

-- two bytes are a number's, or the number is not theirs
two_bytes : (v h l : ℕ) → v ≡ h * 256 + l → h < 256 → l < 256 → high_byte_first v ≡ h ∷ l ∷ []
two_bytes v h l e hh hl =
    let a : v / 256 % 256 ≡ h = omega arith in
    let b : v % 256 ≡ l = omega arith in
    ap (λ (x : ℕ). x ∷ v % 256 ∷ []) a ∙ ap (λ (x : ℕ). h ∷ x ∷ []) b

of_two : (v h l : ℕ) → v < 0x10000 → high_byte_first v ≡ h ∷ l ∷ [] → v ≡ h * 256 + l
of_two v h l hv e =
    let a : v / 256 % 256 ≡ h = ap (λ (xs : List ℕ). get_or xs 0 0) e in
    let b : v % 256 ≡ l = ap (λ (xs : List ℕ). get_or xs 1 0) e in
    omega arith

pub check_value-fits : (message : List ℕ) → check_value message < 0x10000
check_value-fits message = omega arith

pub front-sealed : (message : List ℕ) → without_check_value (sealed message) ≡ message
unfolding without_check_value sealed
front-sealed message =
    let v : List ℕ = high_byte_first (check_value message) in
    take_at message v (length (message ++ v) - 2) (let e : length (message ++ v) ≡ length message + 2 = length-append message v in omega arith)

pub length_parameters : (frame : List ℕ) → 3 ≤ length frame → length (parameters_of frame) + 3 ≡ length frame
unfolding parameters_of without_check_value
length_parameters frame h = simp (length-drop, length-take) (omega arith)

-- The register, byte by byte, comes to the check value.
pub comes_to : (code : ℕ) (message : List ℕ) {a b d v : ℕ} → a ≡ 0xffff → b ≡ byte_taken a code → d ≡ fold byte_taken b message
    → v ≡ 0xffff - d → v ≡ check_value (code ∷ message)
comes_to x m p q r s =
    s ∙ ap (λ (y : ℕ). 0xffff - y) (r ∙ ap (λ (y : ℕ). fold byte_taken y m) (q ∙ ap (λ (y : ℕ). byte_taken y x) p))

module _ (frame : List ℕ) (long : 3 ≤ length frame) where
  -- the two bytes behind the parameters
  abbrev high : ℕ
  high = get_or frame (length frame - 2) 0

  abbrev low : ℕ
  low = get_or frame (length frame - 1) 0

  pub front_length : length (without_check_value frame) + 2 ≡ length frame
  unfolding without_check_value
  front_length = simp length-take (omega arith)

  pub front_apart : without_check_value frame ≡ get_or frame 0 0 ∷ parameters_of frame
  unfolding without_check_value parameters_of
  front_apart =
      drop_more (take (length frame - 2) frame) 0 0 (omega (arith, front_length))
      ∙ ap (λ (n : ℕ). n ∷ drop 1 (take (length frame - 2) frame)) (get_or-take (length frame - 2) frame 0 0 (omega arith))

  -- What the pattern for both ends binds.
  pub parameters_are : parameters_of frame ≡ take (length frame - 2 - 1) (drop 1 frame)
  unfolding without_check_value parameters_of
  parameters_are =
      let n : length frame - 2 ≡ 1 + (length frame - 2 - 1) = omega arith in
      ap (λ (k : ℕ). drop 1 (take k frame)) n ∙ drop-take 1 (length frame - 2 - 1) frame

  pub front-is : without_check_value frame ≡ get_or frame 0 0 ∷ take (length frame - 2 - 1) (drop 1 frame)
  front-is = front_apart ∙ ap (λ (xs : List ℕ). get_or frame 0 0 ∷ xs) parameters_are

  whole : frame ≡ without_check_value frame ++ high ∷ low ∷ []
  unfolding without_check_value
  whole =
      let n : ℕ = length frame - 2 in
      let m : n + 1 ≡ length frame - 1 = omega arith in
      sym (take-append-drop n frame)
      ∙ ap (λ (xs : List ℕ). take n frame ++ xs)
      (drop_more frame n 0 (omega arith)
      ∙ ap (λ (xs : List ℕ). high ∷ xs)
      (ap (λ (k : ℕ). drop k frame) m ∙ drop_more frame (length frame - 1) 0 (omega arith)
      ∙ ap (λ (xs : List ℕ). low ∷ xs) (drop_all (length frame - 1 + 1) frame (omega arith))))

  pub right : check_value (without_check_value frame) ≡ high * 256 + low → high < 256 → low < 256 → is_sealed frame ≡ true
  unfolding sealed is_sealed
  right e h l =
      (bytes_eq-Decides frame (sealed (without_check_value frame))).1
      (whole ∙ ap (λ (xs : List ℕ). without_check_value frame ++ xs) (sym (two_bytes _ high low e h l)))

  pub wrong : (check_value (without_check_value frame) ≡ high * 256 + low → ⊥) → is_sealed frame ≡ false
  unfolding sealed is_sealed
  wrong other =
      ⊎_elim
      (λ t.
      let same : frame ≡ without_check_value frame ++ high_byte_first (check_value (without_check_value frame)) = (bytes_eq-Decides frame (sealed (without_check_value frame))).0 t in
      absurd (other (of_two _ high low (check_value-fits (without_check_value frame))
      (sym (append_cancel_left (without_check_value frame) (high ∷ low ∷ []) (high_byte_first (check_value (without_check_value frame))) (sym whole ∙ same))))))
      (λ f. f) (cases_Bool (is_sealed frame))

-- Laws of what a send and a gap do to a list of tags. Assumes nothing.
use Rattle.std.proofs.Common.{◌≡◌, ℕ, zero, suc, ◌/◌, ◌%◌, ◌^◌, eqb, List, [], ◌∷◌, length, Some, sym, refl, ap, ◌∙◌, div-one}
use native.Mathlib.Nat.{div-div-eq-div-mul, pow-succ'}
use Rattle.std.proofs.lemmas.List.{length-map}
use Rattle.std.proofs.lemmas.Option.{slice_get-map}
use Rattle.std.specs.Option.{option_map}
use Rattle.std.specs.List.{slice_get}
use Rattle.frame.specs.Openings.{Opening}
use Rattle.record.specs.declared.Tag.{Tag}
use Rattle.record.specs.Gaps.{after_gap}
use Rattle.tag.specs.Steps.{stepped}
use Rattle.field.specs.Sends.{coin_at, stepped_all, after_gap_all, InPlace}

-- One place more is one halving more.
pub halved : (row n : ℕ) → row / 2 / 2 ^ n ≡ row / 2 ^ suc n
halved row n = div-div-eq-div-mul row 2 (2 ^ n) ∙ ap (λ (k : ℕ). row / k) (sym (pow-succ' 2 n))

pub length-stepped : (frame : Opening) (row : ℕ) (tags : List Tag) → length (stepped_all frame row tags) ≡ length tags
unfolding stepped_all
length-stepped frame row [] = refl
length-stepped frame row (t ∷ ts) = ap suc (length-stepped frame (row / 2) ts)

nth-stepped : (frame : Opening) (row : ℕ) (tags : List Tag) (place : ℕ)
    → slice_get (stepped_all frame row tags) place ≡ option_map (stepped frame (coin_at row place)) (slice_get tags place)
unfolding stepped_all
nth-stepped frame row [] place = refl
nth-stepped frame row (t ∷ ts) zero = ap (λ (k : ℕ). Some (stepped frame (eqb (k % 2) 1) t)) (sym (div-one row))
nth-stepped frame row (t ∷ ts) (suc place) =
    nth-stepped frame (row / 2) ts place
    ∙ ap (λ (k : ℕ). option_map (stepped frame (eqb (k % 2) 1)) (slice_get ts place)) (halved row place)

pub stepped_in_place : (frame : Opening) (row : ℕ) (tags : List Tag) → InPlace (λ place. stepped frame (coin_at row place)) tags (stepped_all frame row tags)
stepped_in_place frame row tags = record { places = length-stepped frame row tags; each = nth-stepped frame row tags }

pub gapped_in_place : (microseconds : ℕ) (tags : List Tag) → InPlace (λ _. after_gap microseconds) tags (after_gap_all microseconds tags)
gapped_in_place microseconds tags =
    record { places = length-map tags (after_gap microseconds); each = slice_get-map (after_gap microseconds) tags }

-- A memory keeps its length, whatever is stored in it and however long the gap. Assumes nothing.
use Rattle.std.proofs.Common.{◌≡◌, ℕ, zero, suc, ◌+◌, Bool, true, false, cond, List, length, get_or, refl, ◌∙◌, ltb}
use Rattle.std.proofs.lemmas.List.{length-set}
use Rattle.record.specs.declared.Tag.{Tag}
use Rattle.record.specs.Gaps.{after_gap, interrupted}
use Rattle.record.specs.Masks.{selects, stored}

length_either : (b : Bool) (x y : List ℕ) (n : ℕ) → length x ≡ n → length y ≡ n → length (cond b x y) ≡ n
length_either true x y n p q = p
length_either false x y n p q = q

pub length-stored : (a mask : ℕ) (bytes memory : List ℕ) (n : ℕ) → length (stored a mask bytes memory n) ≡ length memory
unfolding stored
length-stored a mask bytes memory zero = refl
length-stored a mask bytes memory (suc n) =
    length_either (selects mask n) _ _ (length memory)
    (length-set (stored a mask bytes memory n) (a + n) (get_or bytes n 0) ∙ length-stored a mask bytes memory n) (length-stored a mask bytes memory n)

-- No gap changes how long a memory is.
pub length-gapped : (microseconds : ℕ) (t : Tag) → length (after_gap microseconds t).memory ≡ length t.memory
length-gapped microseconds t = go (ltb microseconds 250) (ltb microseconds 4000000)
  where
    go : (short medium : Bool) → length (cond short t (cond medium (interrupted t) (record (interrupted t) { identified = false }))).memory ≡ length t.memory
    go true medium = refl
    go false true = refl
    go false false = refl

-- The front of a buffer as it is filled. Assumes nothing.
use Rattle.std.specs.Prelude.{◌≡◌, ℕ, List, ◌++◌}
use Rattle.slice_vec.specs.declared.vec.SliceVec.{SliceVec}
use Rattle.slice_vec.specs.Filling.{items_of, Behind}

-- A front since it began: the text, and behind it what was there. The buffer is its lender's all the time.
pub record Filled (start now : SliceVec ℕ) (text : List ℕ) : Type 0 where
  pub bytes : items_of now ≡ items_of start ++ text
  pub behind : Behind start now

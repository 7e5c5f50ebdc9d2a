-- Masked bytes, place by place. Assumes nothing.
use Rattle.std.proofs.Common.{◌≡◌, ℕ, ◌+◌, List, refl, add-one}
use Rattle.record.specs.Masks.{stored_at, stored}

pub stored_none : (a mask : ℕ) (bytes memory : List ℕ) → stored a mask bytes memory 0 ≡ memory
unfolding stored
stored_none a mask bytes memory = refl

pub stored_more : (a mask : ℕ) (bytes memory : List ℕ) (n : ℕ) → stored a mask bytes memory (n + 1) ≡ stored_at a mask bytes (stored a mask bytes memory n) n
unfolding stored
stored_more a mask bytes memory n = rw add-one refl

-- The closure looks at the bytes alone.
use Rattle.std.proofs.Common.{ℕ, ◌/◌, ◌%◌, of_calls, false, slice_index}
use Rattle.record.specs.Masks.{selects}
use Rattle.notation.proofs.Made.{made_by}
use Rattle.notation.proofs.words.read_locks.Goals as goal

pub returns : goal.returns
returns c =
    let h = c.from_fn.ensures.items in
    record { locks = (c.in_ok-bytes.bytes, c.in_ok-bytes.ensures.array, made_by _ _ (λ (address : ℕ). selects (slice_index c.in_ok-bytes.bytes (address / 8)) (address % 8)) (λ x y q called. search of_calls) c.from_fn.result 56 false h) }

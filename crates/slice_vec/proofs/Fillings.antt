-- Lists as they are filled, step by step. Assumes nothing.
use Rattle.std.proofs.Common.{◌≡◌, ℕ, ◌+◌, ◌-◌, ◌≤◌, List, ◌++◌, length, drop, sym, ap, ◌∙◌, arith}
use Rattle.std.proofs.lemmas.List.{length-take-le, take-append-drop, drop-drop}
use Rattle.slice_vec.specs.declared.vec.SliceVec.{SliceVec}
use Rattle.slice_vec.specs.Filling.{items_of, Behind}

-- What was untouched behind some items is untouched behind more.
pub behind_more : {T : Type 0} (a b c : SliceVec T) → Behind a b → Behind b c → length (items_of b) ≤ length (items_of c) → Behind a c
behind_more a b c first second more =
    let n : ℕ = length (items_of b) in
    let k : ℕ = length (items_of c) - n in
    let e : n + k ≡ length (items_of c) = omega arith in
    record {
      storage = second.storage ∙ ap (λ (m : ℕ). drop m b.storage.now) (sym e) ∙ sym (drop-drop k n b.storage.now) ∙ ap (drop k) first.storage
          ∙ drop-drop k n a.storage.now ∙ ap (λ (m : ℕ). drop m a.storage.now) e;
      room = second.room ∙ first.room;
      lender = second.lender ∙ first.lender;
    }

-- The storage of a list is its items, and behind them what was there before.
pub storage_filled : {T : Type 0} (a b : SliceVec T) → Behind a b → b.storage.now ≡ items_of b ++ drop (length (items_of b)) a.storage.now
storage_filled a b h =
    let size : length (items_of b) ≡ b.filled = length-take-le b.filled b.storage.now b.fits in
    sym (take-append-drop b.filled b.storage.now)
    ∙ ap (λ (n : ℕ). items_of b ++ drop n b.storage.now) (sym size)
    ∙ ap (λ (xs : List _). items_of b ++ xs) h.storage

-- There are no more items than there is room for.
pub rows_fit : {T : Type 0} (a : SliceVec T) → length (items_of a) ≤ length a.storage.now
rows_fit a = omega (arith, length-take-le a.filled a.storage.now a.fits, a.fits)

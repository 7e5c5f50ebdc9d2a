-- Lists that are filled from the front of lent storage. Assumes nothing.
use Rattle.std.specs.Prelude.{◌≡◌, ℕ, Bool, if◌then◌else◌, List, [], ◌∷◌, ◌++◌, length, take, drop, nat_le}
use Rattle.std.specs.Borrow.{MutBor}
use Rattle.slice_vec.specs.declared.vec.SliceVec.{SliceVec}

-- The storage of a list, as it was lent.
abbrev pub storage_of : {T : Type 0} → SliceVec T → MutBor (List T)
storage_of list = list.storage

-- The items of a list: the filled front of its storage.
abbrev pub items_of : {T : Type 0} → SliceVec T → List T
items_of list = take list.filled list.storage.now

-- How many items a list can have.
abbrev pub capacity_of : {T : Type 0} → SliceVec T → ℕ
capacity_of list = length list.storage.now

-- A list is full exactly when its items fill the storage.
abbrev pub is_full : {T : Type 0} → SliceVec T → Bool
is_full list = nat_le (capacity_of list) (length (items_of list))

-- The items once one more was to be listed: it stands last, unless the list is full.
abbrev pub with_item : {T : Type 0} → Bool → List T → T → List T
with_item full items item = if full then items else items ++ item ∷ []

-- A list before and after it was filled or emptied: the storage behind its items is untouched, and is its lender's all
-- the time.
pub record Behind {T : Type 0} (before after : SliceVec T) : Type 0 where
  pub storage : drop (length (items_of after)) after.storage.now ≡ drop (length (items_of after)) before.storage.now
  pub room : capacity_of after ≡ capacity_of before
  pub lender : after.storage.ghost_name ≡ before.storage.ghost_name

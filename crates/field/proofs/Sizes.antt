-- Memories keep their 56 bytes, whatever their tags meet. Assumes nothing.
use Rattle.std.proofs.Common.{◌≡◌, ℕ, ◌/◌, ◌≤◌, Bool, true, false, cond, List, [], ◌∷◌, map, length, nat_eq, refl, ◌∙◌, lit≤}
use Rattle.std.specs.List.{AllByRecursion}
use Rattle.std.proofs.lemmas.Bool.{eqb-true}
use Rattle.std.proofs.lemmas.List.Elements.{All-cons, All-nil, All-from_recursion, recursion_from_All}
use Rattle.frame.specs.Openings.{Opening, opening}
use Rattle.record.specs.declared.Tag.{Tag}
use Rattle.record.specs.Gaps.{after_gap}
use Rattle.record.proofs.Sizes.{length-gapped}
use Rattle.tag.proofs.Sizes.{length-stepped}
use Rattle.field.specs.Sends.{first_coin, stepped_all, after_gap_all, is_short, tags_after_send, Sized}

abbrev pub IsSized : Tag → Type 0
IsSized t = length t.memory ≡ 56

-- One tag on its own.
pub one_sized : (t : Tag) → length t.memory ≡ 56 → Sized (t ∷ [])
one_sized t h = All-cons IsSized t [] h (All-nil IsSized)

-- The same of any tag, which of another length is left out.
pub single_few : (t : Tag) → length (cond (nat_eq (length t.memory) 56) (t ∷ []) []) ≤ 64
single_few t = go (nat_eq (length t.memory) 56)
  where
    go : (b : Bool) → length (cond b (t ∷ []) []) ≤ 64
    go true = lit≤ tt
    go false = lit≤ tt

pub single_sized : (t : Tag) → Sized (cond (nat_eq (length t.memory) 56) (t ∷ []) [])
single_sized t = go (nat_eq (length t.memory) 56) refl
  where
    go : (b : Bool) → nat_eq (length t.memory) 56 ≡ b → Sized (cond b (t ∷ []) [])
    go true e = one_sized t (eqb-true (length t.memory) 56 e)
    go false e = All-nil IsSized

stepped_each : (frame : Opening) (row : ℕ) (tags : List Tag) → AllByRecursion IsSized tags → AllByRecursion IsSized (stepped_all frame row tags)
unfolding stepped_all
stepped_each frame row [] h = tt
stepped_each frame row (t ∷ ts) h = (length-stepped frame (first_coin row) t ∙ h.0, stepped_each frame (row / 2) ts h.1)

each : (change : Tag → Tag) → ((t : Tag) → length (change t).memory ≡ length t.memory) → (tags : List Tag) → AllByRecursion IsSized tags
    → AllByRecursion IsSized (map change tags)
each change keeps [] h = tt
each change keeps (t ∷ ts) h = (keeps t ∙ h.0, each change keeps ts h.1)

pub sized_stepped : (frame : Opening) (row : ℕ) (tags : List Tag) → Sized tags → Sized (stepped_all frame row tags)
sized_stepped frame row tags h = All-from_recursion IsSized _ (stepped_each frame row tags (recursion_from_All IsSized tags h))

pub sized_sent : (room : ℕ) (bytes : List ℕ) (row : ℕ) (tags : List Tag) → Sized tags → Sized (tags_after_send room bytes row tags)
sized_sent room bytes row tags h = go (is_short room)
  where
    go : (short : Bool) → Sized (cond short tags (stepped_all (opening bytes) row tags))
    go true = h
    go false = sized_stepped (opening bytes) row tags h

-- What changes each tag and no memory's length.
pub sized_each : (change : Tag → Tag) → ((t : Tag) → length (change t).memory ≡ length t.memory) → (tags : List Tag) → Sized tags → Sized (map change tags)
sized_each change keeps tags h = All-from_recursion IsSized _ (each change keeps tags (recursion_from_All IsSized tags h))

pub sized_gapped : (microseconds : ℕ) (tags : List Tag) → Sized tags → Sized (after_gap_all microseconds tags)
sized_gapped microseconds tags h = sized_each (after_gap microseconds) (length-gapped microseconds) tags h

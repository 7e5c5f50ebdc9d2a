-- Tags compared place by place. Assumes nothing.
use Rattle.std.proofs.Common.{◌≡◌, ℕ, suc, ◌<◌, true, List, [], ◌∷◌, length, get_or, Some, None, Option, refl, ap, ◌∙◌, ap₂, subst, arith}
use Rattle.std.specs.Bool.{Decides}
use Rattle.std.specs.List.{slice_get, list_all, range_with_len}
use Rattle.std.specs.Option.{option_eq}
use Rattle.std.proofs.lemmas.List.FromFn.{length-range_with_len, get_or-range_with_len}
use Rattle.std.proofs.lemmas.List.Sums.{AllPass-from_list_all, list_all-from_AllPass}
use Rattle.record.specs.declared.Tag.{Tag}
use Rattle.record.specs.Alike.{alike}
use Rattle.record.proofs.Likeness.{alike_Decides}
use Rattle.two_fields.specs.Places.{alike_at}

-- Two tags that may be there are compared by their records.
tags_compared : (x y : Option Tag) → Decides (option_eq alike x y) (x ≡ y)
tags_compared None None = (λ e. refl, λ e. refl)
tags_compared None (Some y) = (λ e. cc, λ e. cc)
tags_compared (Some x) None = (λ e. cc, λ e. cc)
tags_compared (Some x) (Some y) =
    let same : Some x ≡ Some y → x ≡ y = λ e. cc in
    (λ e. ap Some ((alike_Decides x y).0 e), λ e. (alike_Decides x y).1 (same e))

-- Lists of the same length are equal if they are so at each place.
same_lists : {X : Type 0} (xs ys : List X) → length xs ≡ length ys → ((k : ℕ) → k < length xs → slice_get xs k ≡ slice_get ys k) → xs ≡ ys
same_lists [] [] e h = refl
same_lists [] (y ∷ ys) e h = absurd (omega arith)
same_lists (x ∷ xs) [] e h = absurd (omega arith)
same_lists {X = X} (x ∷ xs) (y ∷ ys) e h =
    let first : Some x ≡ Some y = h 0 (omega arith) in
    let head : x ≡ y = cc in
    ap₂ (λ (a : X) (l : List X). a ∷ l) head (same_lists xs ys (omega arith) (λ k lt. h (suc k) (omega arith)))

-- A test of every place decides whether two lists of the same length are equal.
pub all_alike : (left right : List Tag) → length left ≡ length right
    → Decides (list_all (alike_at left right) (range_with_len 0 (length left))) (left ≡ right)
all_alike left right size =
    let places : List ℕ = range_with_len 0 (length left) in
    let count : length places ≡ length left = length-range_with_len 0 (length left) in (
      λ e. same_lists left right size
          (λ k lt. (tags_compared (slice_get left k) (slice_get right k)).0
          (subst (λ (place : ℕ). alike_at left right place ≡ true) (get_or-range_with_len 0 (length left) k 0 lt ∙ omega arith)
          (AllPass-from_list_all (alike_at left right) places e k 0 (omega arith)))),
      λ e. list_all-from_AllPass (alike_at left right) places
          (λ k d lt. (tags_compared (slice_get left (get_or places k d)) (slice_get right (get_or places k d))).1
          (ap (λ (l : List Tag). slice_get l (get_or places k d)) e)),
    )

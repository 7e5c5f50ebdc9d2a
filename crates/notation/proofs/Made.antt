-- What an array is whose elements a closure makes that stays as it is. Assumes nothing.
use Rattle.std.proofs.Common.{◌≡◌, ℕ, zero, suc, ◌+◌, ◌<◌, List, slice_index_or, map, subst, ◌∙◌, arith}
use Rattle.std.proofs.lemmas.List.FromFn.{fill_by_all}
use Rattle.std.specs.Array.{IsFromFnResult, IsFromFnResultFrom}
use Rattle.std.specs.List.{range_with_len}
use denote.Param.Members.{Mut, Called}

module _ {F B : Type 0} (g : Mut F (ℕ × Unit {0}) B) (f : F) (want : ℕ → B) where
  abbrev pub Stays : Type 0
  Stays = (x : ℕ) (y : B) (q : F) → Called g f (x, tt) y q → (q ≡ f) × (y ≡ want x)

  made_at : Stays → (ys : List B) (i n : ℕ) → IsFromFnResultFrom g f ys i n → (k j : ℕ) → k < n → i + k ≡ j → (d : B) → slice_index_or ys j d ≡ want j
  made_at stays ys i zero h k j lt e d = absurd (omega arith)
  made_at stays ys i (suc n) h zero j lt e d =
      let same : i ≡ j = omega arith in
      subst (λ (x : ℕ). slice_index_or ys x d ≡ want x) same (h.2.1 d ∙ (stays i h.1 h.0 h.3).1)
  made_at stays ys i (suc n) h (suc k) j lt e d =
      made_at stays ys (i + 1) n (subst (λ (q : F). IsFromFnResultFrom g q ys (i + 1) n) (stays i h.1 h.0 h.3).0 h.4) k j (omega arith) (omega arith) d

  pub made_by : Stays → (ys : List B) (n : ℕ) (d : B) → IsFromFnResult g f ys n → ys ≡ map want (range_with_len 0 n)
  made_by stays ys n d h = fill_by_all want ys n d h.long (λ k lt. made_at stays ys 0 n h.each k k lt (omega arith) d)

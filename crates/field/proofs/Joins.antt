-- Two lists of tags as one, unless they are too many for a field. Assumes nothing.
use Rattle.std.proofs.Common.{◌≡◌, ℕ, ◌+◌, ◌≤◌, Bool, true, false, cond, List, ◌++◌, length, nat_le, sym, refl, subst, leb-true}
use Rattle.std.proofs.lemmas.List.{length-append}
use Rattle.std.proofs.lemmas.List.Elements.{All-append}
use Rattle.record.specs.declared.Tag.{Tag}
use Rattle.field.specs.Sends.{Sized}
use Rattle.field.proofs.Sizes.{IsSized}

pub few_both : (left right : List Tag) → length left ≤ 64 → length (cond (nat_le (length left + length right) 64) (left ++ right) left) ≤ 64
few_both left right h = go (nat_le (length left + length right) 64) refl
  where
    go : (b : Bool) → nat_le (length left + length right) 64 ≡ b → length (cond b (left ++ right) left) ≤ 64
    go true e = subst (λ (n : ℕ). n ≤ 64) (sym (length-append left right)) (leb-true (length left + length right) 64 e)
    go false e = h

pub sized_both : (left right : List Tag) → Sized left → Sized right → Sized (cond (nat_le (length left + length right) 64) (left ++ right) left)
sized_both left right l r = go (nat_le (length left + length right) 64)
  where
    go : (b : Bool) → Sized (cond b (left ++ right) left)
    go true = All-append IsSized left right l r
    go false = l

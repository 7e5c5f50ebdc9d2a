-- One 00 more is taken away.
use Rattle.std.proofs.Common.{◌≡◌, ℕ, suc, List, [], ◌∷◌, ◌++◌, ap, ◌∙◌, append_assoc}
use Rattle.std.specs.Prelude.{replicate}
use Rattle.field_cases.proofs.showing.without_end.Goals as goal

one_less : (whole bytes front : List ℕ) (x n : ℕ) → whole ≡ bytes ++ replicate n 0 → bytes ≡ front ++ x ∷ [] → x ≡ 0
    → whole ≡ front ++ replicate (suc n) 0
one_less whole bytes front x n known cut zero =
    known ∙ ap (λ (b : List ℕ). b ++ replicate n 0) (cut ∙ ap (λ (y : ℕ). front ++ y ∷ []) zero)
    ∙ append_assoc front (0 ∷ []) (replicate n 0)

pub loop-front-preserved : goal.loop-front-preserved
loop-front-preserved c =
    let known = c.loop-front.invariant in
    let cut = c.in-Some-eq0-default in
    (suc known.0, one_less _ _ _ _ known.0 known.1 cut.ensures.cases.0 cut.field-0-0-test)

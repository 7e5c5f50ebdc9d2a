-- The parts are taken one after the other, and so is their list.
use Rattle.std.proofs.Common.{◌≡◌, ℕ, List, ◌++◌, fold, ◌∙◌, ap, rules}
use Rattle.std.proofs.lemmas.List.Sums.{fold-append}
use Rattle.field_cases.specs.Fingerprints.{byte_mixed, tag_mixed}
use Rattle.field_cases.proofs.showing.Fingerprint.with_tag.Goals as goal

parts : (v : ℕ) (xs ys zs : List ℕ) → fold byte_mixed v ((xs ++ ys) ++ zs) ≡ fold byte_mixed (fold byte_mixed (fold byte_mixed v xs) ys) zs
parts v xs ys zs = fold-append byte_mixed v (xs ++ ys) zs ∙ ap (λ (u : ℕ). fold byte_mixed u zs) (fold-append byte_mixed v xs ys)

pub returns : goal.returns
unfolding tag_mixed
returns c = search (rules, parts)

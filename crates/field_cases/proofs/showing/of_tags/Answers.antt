-- The tag at a place is taken next.
use Rattle.std.proofs.Common.{◌≡◌, ℕ, ◌+◌, List, [], ◌∷◌, ◌++◌, take, fold, ap, sym, ◌∙◌, Some, None, ◌<◌, length, arith}
use Rattle.std.specs.List.{slice_get}
use Rattle.std.proofs.lemmas.List.{take_more}
use Rattle.std.proofs.lemmas.List.Sums.{fold-append}
use Rattle.std.proofs.lemmas.Option.{slice_get_within, slice_get_cases, get_or_from_slice_get}
use Rattle.record.specs.declared.Tag.{Tag}
use Rattle.field_cases.specs.Fingerprints.{blank, tag_mixed}
use Rattle.field_cases.proofs.showing.of_tags.Goals as goal
use Rattle.field_cases.proofs.showing.of_tags.Goals.{in-Some, in_default}

one_more : (xs : List Tag) (i : ℕ) (t : Tag) → slice_get xs i ≡ Some t → take (i + 1) xs ≡ take i xs ++ t ∷ []
one_more xs i t e =
    take_more xs i t (slice_get_within xs i t e)
    ∙ ap (λ (d : Tag). take i xs ++ d ∷ []) (get_or_from_slice_get xs i t t e)

after : (xs : List Tag) (i : ℕ) (t : Tag) (v : ℕ) → slice_get xs i ≡ Some t → v ≡ fold tag_mixed blank (take i xs)
    → tag_mixed v t ≡ fold tag_mixed blank (take (i + 1) xs)
after xs i t v e known =
    ap (λ (u : ℕ). tag_mixed u t) known
    ∙ sym (ap (fold tag_mixed blank) (one_more xs i t e) ∙ fold-append tag_mixed blank (take i xs) (t ∷ []))

-- Each place below the length has a tag.
within : (xs : List Tag) (i : ℕ) → None ≡ slice_get xs i → i < length xs → ⊥
within xs i e h = grind (arith, slice_get_cases)

pub loop-place-preserved : goal.loop-place-preserved
loop-place-preserved g c =
    let tags = g.F.Field.tags c.args.field.now in
    let loop = c.loop-place in
    elim c.match-tag.branch [
      | in-Some w ↦
          w.fingerprint-is ∙ w.with_tag-fingerprint.ensures
          ∙ after tags loop.place w.in-Some.tag.now loop.fingerprint (sym w.in-Some.ensures) loop.invariant
      | in_default w ↦ absurd (within tags loop.place w.in_default.ensures (omega (arith, c.places-place-end.ensures)))
    ]

-- A case at the limit of the counter, as a proposition over one listing. Assumes nothing.
use Rattle.std.specs.Prelude.{◌≡◌, ℕ, Bool, [], ◌∷◌}
use Rattle.std.specs.List.{AllByRecursion}
use Rattle.frame.specs.Openings.{opening}
use Rattle.record.specs.declared.State.TheVariants.{Singulation}
use Rattle.record.specs.declared.Tag.{Tag}
use Rattle.tag.specs.Steps.{stepped}

-- What QUERY makes of some counters of a tag in SINGULATION, whatever its coin.
unfoldable pub FullCounters : Type 0
FullCounters =
    AllByRecursion {X = ℕ × ℕ}
    (λ x. (t : Tag) (coin : Bool) → t.state ≡ Singulation → t.counter ≡ x.0
    → (stepped (opening (0x08 ∷ 0x9f ∷ 0x07 ∷ [])) coin t).counter ≡ x.1)
    ((0xfe, 0xff) ∷ (0xff, 0xff) ∷ [])

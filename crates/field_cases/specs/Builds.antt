-- What a field is built of. Assumes nothing.
use Rattle.std.specs.Prelude.{List, ◌++◌}
use Rattle.record.specs.declared.Tag.{Tag}
use Rattle.field_cases.specs.declared.building.Parts.{Parts}
use Rattle.field_cases.specs.declared.building.Parts.TheVariants.{Bare, Spoiled, Paired}

-- The tags of what a layer is made of.
abbrev pub parts_tags : {F : Type 0} → (F → List Tag) → Parts F → List Tag
parts_tags tags (Bare f) = tags f
parts_tags tags (Spoiled f period) = tags f
parts_tags tags (Paired left right) = tags left ++ tags right

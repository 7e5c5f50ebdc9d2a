-- What a nesting means and promises: what the field in it does. Assumes nothing.
use Rattle.std.specs.Prelude.{ℕ, Bool, List, Result}
use Rattle.protocol.specs.declared.refusal.Refusal.{Refusal}
use Rattle.record.specs.declared.Tag.{Tag}
use Rattle.field.specs.declared.field.Field.{Ghosts as Kind}
use Rattle.field.specs.declared.hearing.Hearing.{Hearing}
use Rattle.bench.specs.declared.bench.Bench.{Bench}
use Rattle.bench.specs.declared.single.Single.{Single}
use Rattle.bench.specs.Benches.{table_of, tags_of}
use Rattle.composite_fields.specs.declared.pair.Pair.{Pair}
use Rattle.composite_fields.specs.declared.spoiler.Spoiler.{Spoiler}
use Rattle.composite_fields.specs.Pairs.{left_of, right_of, paired}
use Rattle.composite_fields.specs.Spoilers.{field_of}
use Rattle.field_cases.specs.declared.nesting.Leaf.{Leaf}
use Rattle.field_cases.specs.declared.nesting.Leaf.TheVariants.{Table, Lone}
use Rattle.field_cases.specs.declared.nesting.Node.{Node}
use Rattle.field_cases.specs.declared.nesting.Node.TheVariants.{Bare, Spoiled, Paired}

abbrev pub leaf_tags : Leaf → List Tag
leaf_tags (Table b) = (table_of b).now
leaf_tags (Lone s) = tags_of s

abbrev pub node_tags : {F : Type 0} → (F → List Tag) → Node F → List Tag
node_tags tags (Bare f) = tags f
node_tags tags (Spoiled s) = tags (field_of s)
node_tags tags (Paired p) = paired (tags (left_of p)) (tags (right_of p))

module _ (on_bench : Kind Bench) (on_single : Kind Single) where
  abbrev pub leaf_faithful : Leaf → Bool
  leaf_faithful (Table b) = on_bench.faithful b
  leaf_faithful (Lone s) = on_single.faithful s

  abbrev pub leaf_hears : Leaf → List ℕ → ℕ → Result Hearing Refusal → Leaf → Type 0
  leaf_hears (Table b) bytes row answer (Table c) = on_bench.hears b bytes row answer c
  leaf_hears (Lone s) bytes row answer (Lone t) = on_single.hears s bytes row answer t
  leaf_hears before bytes row answer after = ⊥

  abbrev pub leaf_passes : Leaf → ℕ → Leaf → Type 0
  leaf_passes (Table b) us (Table c) = on_bench.passes b us c
  leaf_passes (Lone s) us (Lone t) = on_single.passes s us t
  leaf_passes before us after = ⊥

module _ {F : Type 0} (bare : Kind F) (spoiled : Kind (Spoiler F)) (both : Kind (Pair F F)) where
  abbrev pub node_faithful : Node F → Bool
  node_faithful (Bare f) = bare.faithful f
  node_faithful (Spoiled s) = spoiled.faithful s
  node_faithful (Paired p) = both.faithful p

  abbrev pub node_hears : Node F → List ℕ → ℕ → Result Hearing Refusal → Node F → Type 0
  node_hears (Bare f) bytes row answer (Bare g) = bare.hears f bytes row answer g
  node_hears (Spoiled s) bytes row answer (Spoiled t) = spoiled.hears s bytes row answer t
  node_hears (Paired p) bytes row answer (Paired q) = both.hears p bytes row answer q
  node_hears before bytes row answer after = ⊥

  abbrev pub node_passes : Node F → ℕ → Node F → Type 0
  node_passes (Bare f) us (Bare g) = bare.passes f us g
  node_passes (Spoiled s) us (Spoiled t) = spoiled.passes s us t
  node_passes (Paired p) us (Paired q) = both.passes p us q
  node_passes before us after = ⊥

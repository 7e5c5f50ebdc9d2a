-- A field whose lone replies are spoiled now and then. Assumes nothing.
use Rattle.std.specs.Prelude.{◌≡◌, ℕ, ◌+◌, ◌%◌, ◌<◌, if◌then◌else◌, List, ◌==◌}
use Rattle.field.specs.declared.hearing.Hearing.{Hearing}
use Rattle.field.specs.declared.hearing.Hearing.TheVariants.{Silence, Lone, Clash}
use Rattle.field.specs.declared.field.Field.{Ghosts as Kind}
use Rattle.field.specs.Promises.{AfterSend}
use Rattle.composite_fields.specs.declared.spoiler.Spoiler.{Spoiler}

-- The field below, each how-many-th lone reply is spoiled, and how many came since the last that was.
abbrev pub field_of : {F : Type 0} → Spoiler F → F
field_of spoiler = spoiler.field

abbrev pub period_of : {F : Type 0} → Spoiler F → ℕ
period_of spoiler = spoiler.period

abbrev pub count_of : {F : Type 0} → Spoiler F → ℕ
count_of spoiler = spoiler.heard

-- How many lone replies a hearing is.
abbrev pub lone_count : Hearing → ℕ
lone_count Silence = 0
lone_count Lone = 1
lone_count Clash = 0

-- What is heard where each k-th lone reply is spoiled, and a lone one is the n-th: a clash if k divides n.
abbrev pub spoiled : ℕ → ℕ → Hearing → Hearing
spoiled k n Silence = Silence
spoiled k n Lone = if n % k == 0 then Clash else Lone
spoiled k n Clash = Clash

-- What a spoiler does with a frame: it is sent below, and what is heard there is spoiled. It keeps how many lone replies
-- came since it last spoiled one, so n of them since its making are n % k.
pub record Spoils {F : Type 0} (below : Kind F) (bytes : List ℕ) (row : ℕ) (s t : Spoiler F) (h : Hearing) : Type 0 where
  pub heard_below : Hearing
  pub sent_below : AfterSend below bytes row heard_below s.field t.field
  pub counts : (n : ℕ) → 0 < s.period → s.heard ≡ n % s.period → t.heard ≡ (n + lone_count heard_below) % s.period
  pub hears : (n : ℕ) → 0 < s.period → s.heard ≡ n % s.period → h ≡ spoiled s.period (n + lone_count heard_below) heard_below
  pub period : t.period ≡ s.period

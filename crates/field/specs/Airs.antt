-- What is on the air after a frame, and what may be heard of it. Assumes nothing.
use Rattle.std.specs.Prelude.{◌≡◌, ℕ, Bool, true, false, ◌⊎◌, List, [], Some, None, codes, Option}
use Rattle.field.specs.declared.hearing.Hearing.{Hearing}
use Rattle.field.specs.declared.hearing.Hearing.TheVariants.{Silence, Lone, Clash}

-- The replies of a group of tags, all at once.
pub data Air : Type 0 where
  silent : Air
  -- one reply, by its bytes
  one : List ℕ → Air
  -- two or more
  many : Air

-- The replies of two groups together.
abbrev pub mixed : Air → Air → Air
mixed silent other = other
mixed (one reply) silent = one reply
mixed (one reply) (one other) = many
mixed (one reply) many = many
mixed many other = many

-- What one tag adds.
abbrev pub air_of_one : Option (List ℕ) → Air
air_of_one None = silent
air_of_one (Some reply) = one reply

abbrev pub is_silent : Air → Bool
is_silent silent = true
is_silent (one reply) = false
is_silent many = false

-- The only reply, and no bytes where there is none or more than one.
abbrev pub only_reply : Air → List ℕ
only_reply silent = []
only_reply (one reply) = reply
only_reply many = []

-- The hearings by their numbers and names.
abbrev pub hearing_number : Hearing → ℕ
hearing_number Silence = 0
hearing_number Lone = 1
hearing_number Clash = 2

abbrev pub hearing_name : Hearing → List ℕ
hearing_name Silence = codes "silence"
hearing_name Lone = codes "lone"
hearing_name Clash = codes "clash"

-- What may be heard: only of a lone reply there is a choice.
abbrev pub MayHear : Air → Hearing → Type 0
MayHear silent h = h ≡ Silence
MayHear (one reply) h = (h ≡ Lone) ⊎ (h ≡ Clash)
MayHear many h = h ≡ Clash

-- What is heard where every lone reply is heard as lone.
abbrev pub plain_hearing : Air → Hearing
plain_hearing silent = Silence
plain_hearing (one reply) = Lone
plain_hearing many = Clash

-- The bytes that are heard: those of a lone reply.
abbrev pub heard_bytes : Hearing → Air → List ℕ
heard_bytes Silence air = []
heard_bytes Lone air = only_reply air
heard_bytes Clash air = []

-- What is heard of two groups at once: silence with x is x, and two that are not silent are a clash.
abbrev pub together : Hearing → Hearing → Hearing
together Silence other = other
together Lone Silence = Lone
together Lone Lone = Clash
together Lone Clash = Clash
together Clash other = Clash

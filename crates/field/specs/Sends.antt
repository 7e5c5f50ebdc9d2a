-- What a send and a gap do to a list of tags, whatever field they are in. Assumes nothing.
use Rattle.std.specs.Prelude.{◌≡◌, ℕ, ◌-◌, ◌/◌, ◌%◌, ◌^◌, Bool, if◌then◌else◌, ◌∷◌, ◌++◌, ◌==◌}
use Rattle.std.specs.Prelude.{List, [], map, min, length, drop, replicate, All, Ok, Err, Result, nat_lt}
use Rattle.std.specs.Int.{bit_at}
use Rattle.std.specs.Option.{option_map}
use Rattle.std.specs.List.{slice_get}
use Rattle.protocol.specs.declared.refusal.Refusal.{Refusal}
use Rattle.frame.specs.Openings.{Opening, opening}
use Rattle.record.specs.declared.Tag.{Tag}
use Rattle.record.specs.Gaps.{after_gap}
use Rattle.reply.specs.Replies.{longest_reply}
use Rattle.tag.specs.Steps.{stepped, replied}
use Rattle.field.specs.declared.hearing.Hearing.{Hearing}
use Rattle.field.specs.Airs.{Air, silent, mixed, air_of_one, heard_bytes}

-- The coin of the first place: the row's lowest bit.
abbrev pub first_coin : ℕ → Bool
first_coin row = row % 2 == 1

-- The coin of any place.
abbrev pub coin_at : ℕ → ℕ → Bool
coin_at row place = bit_at row place == 1

-- The row for what stands behind some places.
abbrev pub row_behind : ℕ → ℕ → ℕ
row_behind places row = row / 2 ^ places

-- Each tag steps with its own coin.
unfoldable pub stepped_all : Opening → ℕ → List Tag → List Tag
stepped_all frame row [] = []
stepped_all frame row (t ∷ ts) = stepped frame (first_coin row) t ∷ stepped_all frame (row / 2) ts

-- All replies to a frame.
unfoldable pub on_air : Opening → ℕ → List Tag → Air
on_air frame row [] = silent
on_air frame row (t ∷ ts) = mixed (air_of_one (replied frame (first_coin row) t)) (on_air frame (row / 2) ts)

-- A gap of some microseconds, for all tags.
abbrev pub after_gap_all : ℕ → List Tag → List Tag
after_gap_all us tags = map (after_gap us) tags

-- A send with a reply buffer that is too short does nothing.
abbrev pub is_short : ℕ → Bool
is_short room = nat_lt room longest_reply

-- The tags after a send.
abbrev pub tags_after_send : ℕ → List ℕ → ℕ → List Tag → List Tag
tags_after_send room bytes row tags = if is_short room then tags else stepped_all (opening bytes) row tags

-- Some bytes followed by 00, so many in all.
unfoldable pub padded : ℕ → List ℕ → List ℕ
padded n bytes = bytes ++ replicate (n - length bytes) 0

-- A buffer of which as much as a reply may take is set to 00.
abbrev pub cleared : List ℕ → List ℕ
cleared buffer = replicate (min (length buffer) longest_reply) 0 ++ drop longest_reply buffer

-- A reply buffer after a send: what is heard and 00 behind it, as long as the longest reply in all, and then what was
-- there. A refusal changes nothing.
abbrev pub buffer_after_send : Result Hearing Refusal → Air → List ℕ → List ℕ
buffer_after_send (Ok h) air buffer = padded longest_reply (heard_bytes h air) ++ drop longest_reply buffer
buffer_after_send (Err e) air buffer = buffer

-- Each tag's memory has its 56 bytes.
abbrev pub Sized : List Tag → Type 0
Sized tags = All (λ t. length t.memory ≡ 56) tags

-- What a kind promises of a send, by what is answered: something of what is heard, and of a refusal that nothing changes.
abbrev pub IfHeard : {F : Type 0} → Result Hearing Refusal → (Hearing → Type 0) → F → F → Type 0
IfHeard (Ok h) promise before after = promise h
IfHeard (Err e) promise before after = after ≡ before

-- No tag comes or goes, and what becomes of the tag at a place depends on nothing but that tag and its place.
pub record InPlace (change : ℕ → Tag → Tag) (before after : List Tag) : Type 0 where
  pub places : length after ≡ length before
  pub each : (place : ℕ) → slice_get after place ≡ option_map (change place) (slice_get before place)

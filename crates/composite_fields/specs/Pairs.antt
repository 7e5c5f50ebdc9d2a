-- Two fields as one: the places of the left first. Assumes nothing.
use Rattle.std.specs.Prelude.{◌≡◌, ℕ, ◌+◌, Bool, if◌then◌else◌, List, ◌++◌, length, Ok, MatchBool, nat_le}
use Rattle.frame.specs.Openings.{Opening}
use Rattle.record.specs.declared.Tag.{Tag}
use Rattle.field.specs.declared.hearing.Hearing.{Hearing}
use Rattle.field.specs.declared.hearing.Hearing.TheVariants.{Silence, Lone, Clash}
use Rattle.field.specs.declared.field.Field.{Ghosts as Kind}
use Rattle.field.specs.Airs.{Air, mixed, together}
use Rattle.field.specs.Promises.{AfterSend}
use Rattle.field.specs.Sends.{row_behind, on_air, after_gap_all, tags_after_send, cleared, buffer_after_send}
use Rattle.composite_fields.specs.declared.pair.Pair.{Pair}

-- The sides of a pair.
abbrev pub left_of : {L R : Type 0} → Pair L R → L
left_of pair = pair.left

abbrev pub right_of : {L R : Type 0} → Pair L R → R
right_of pair = pair.right

-- Whether two fields are few enough tags for a pair.
abbrev pub fits : List Tag → List Tag → Bool
fits left right = nat_le (length left + length right) 64

-- The tags of a pair. One above 64 places is never made; it would mean its left alone.
abbrev pub paired : List Tag → List Tag → List Tag
paired left right = if fits left right then left ++ right else left

-- What the sides of a pair do with a frame: it is sent to each, with the coins behind the left's places to the right, and
-- what is heard of both is heard at once.
pub record SentToBoth {L R : Type 0} (l : Kind L) (r : Kind R) (bytes : List ℕ) (row row_right : ℕ) (p q : Pair L R) (h : Hearing) : Type 0 where
  pub heard_left : Hearing
  pub heard_right : Hearing
  pub sent_left : AfterSend l bytes row heard_left p.left q.left
  pub sent_right : AfterSend r bytes row_right heard_right p.right q.right
  pub both : h ≡ together heard_left heard_right

-- What a pair promises of what is heard. One above 64 places, which is never made, is its left alone.
abbrev pub HeardOfBoth : {L R : Type 0} → Kind L → Kind R → List ℕ → ℕ → Pair L R → Pair L R → Hearing → Type 0
HeardOfBoth l r bytes row p q h =
    MatchBool (fits (l.tags p.left) (r.tags p.right)) (SentToBoth l r bytes row (row_behind (length (l.tags p.left)) row) p q h)
    (AfterSend l bytes row h p.left q.left × (q.right ≡ p.right))

-- The reply buffer once the right is heard beside the left, whose reply stands in it: beside silence the right's reply takes
-- its place, beside a silent right the left's stays, and of two sounding sides no reply is left.
abbrev pub beside : Hearing → Hearing → Air → List ℕ → List ℕ
beside Silence other air buffer = buffer_after_send (Ok other) air buffer
beside Lone Silence air buffer = buffer
beside Lone Lone air buffer = cleared buffer
beside Lone Clash air buffer = cleared buffer
beside Clash Silence air buffer = buffer
beside Clash Lone air buffer = cleared buffer
beside Clash Clash air buffer = cleared buffer

-- What a send and a gap do to a joined table is what they do to its two parts, wherever it is split.
pub record ActsOnParts (left right : List Tag) : Type 0 where
  pub send : (room : ℕ) (bytes : List ℕ) (row : ℕ)
      → tags_after_send room bytes row (left ++ right) ≡ tags_after_send room bytes row left ++ tags_after_send room bytes (row_behind (length left) row) right
  pub air : (frame : Opening) (row : ℕ) → on_air frame row (left ++ right) ≡ mixed (on_air frame row left) (on_air frame (row_behind (length left) row) right)
  pub gap : (us : ℕ) → after_gap_all us (left ++ right) ≡ after_gap_all us left ++ after_gap_all us right

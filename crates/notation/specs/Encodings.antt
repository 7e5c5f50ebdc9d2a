-- What is sent: frames, and the bytes of a reply or of none. Assumes nothing.
use Rattle.std.specs.Prelude.{◌≡◌, ℕ, List, [], Option, Some, None}
use Rattle.crc.specs.Check.{sealed}
use Rattle.frame.specs.Makings.{making, made, unmade, longest_frame}
use Rattle.protocol.specs.Refusals.{number_of}
use Rattle.protocol.specs.declared.refusal.Refusal.{Refusal}
use Rattle.record.specs.declared.Tag.{Tag}
use Rattle.reply.specs.declared.Reply.{Reply}
use Rattle.reply.specs.Replies.{data_of}
use Rattle.notation.specs.declared.error.NotationError.{NotationError}
use Rattle.notation.specs.declared.error.NotationError.TheVariants.{Refused}

-- The frame of a code with its parameters, for which there is room for the longest.
abbrev pub IsFrame : ℕ → List ℕ → List ℕ → Type 0
IsFrame code parameters frame = making code parameters longest_frame ≡ made frame

-- There is none, and an error says why.
abbrev pub IsNoFrame : ℕ → List ℕ → NotationError → Type 0
IsNoFrame code parameters e = (refusal : Refusal) × (e ≡ Refused refusal) × (making code parameters longest_frame ≡ unmade (number_of refusal))

abbrev pub reply_bytes : Tag → Option Reply → List ℕ
reply_bytes t None = []
reply_bytes t (Some reply) = sealed (data_of t reply)

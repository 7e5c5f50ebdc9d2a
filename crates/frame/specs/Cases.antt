-- Cases at the limits, each kind a proposition over one listing. Assumes nothing.
use Rattle.std.specs.Prelude.{◌≡◌, ℕ, List, [], ◌∷◌}
use Rattle.std.specs.List.{AllByRecursion}
use Rattle.crc.specs.Check.{sealed}
use Rattle.protocol.specs.declared.command.Command.{Command}
use Rattle.protocol.specs.declared.command.Command.TheVariants.{Query, Scroll, Repeat, Reset}
use Rattle.protocol.specs.Commands.{code_of}
use Rattle.frame.specs.Makings.{making, made}
use Rattle.frame.specs.Openings.{refused, opened, opening}

-- The frames of the commands without parameters: each is what making gives, and opens as its command.
unfoldable pub BareFrames : Type 0
BareFrames =
    AllByRecursion {X = Command × List ℕ} (λ x. (making (code_of x.0) [] 3 ≡ made x.1) × (opening x.1 ≡ opened (code_of x.0) x.0 []))
    ((Scroll, 0x09 ∷ 0x8f ∷ 0x26 ∷ []) ∷ (Query, 0x08 ∷ 0x9f ∷ 0x07 ∷ []) ∷ (Reset, 0x0a ∷ 0xbf ∷ 0x45 ∷ [])
    ∷ (Repeat, 0x15 ∷ 0x5c ∷ 0x9b ∷ []) ∷ [])

-- Replies of one byte, with their check values.
unfoldable pub ShortReplies : Type 0
ShortReplies =
    AllByRecursion {X = ℕ × List ℕ} (λ x. sealed (x.0 ∷ []) ≡ x.1)
    ((0x00, 0x00 ∷ 0x1e ∷ 0x0f ∷ []) ∷ (0x01, 0x01 ∷ 0x0e ∷ 0x2e ∷ []) ∷ (0xff, 0xff ∷ 0x00 ∷ 0xff ∷ [])
    ∷ (0xfe, 0xfe ∷ 0x10 ∷ 0xde ∷ []) ∷ [])

-- Damaged frames, with the number of the refusal that meets each.
unfoldable pub DamagedFrames : Type 0
DamagedFrames =
    AllByRecursion {X = List ℕ × ℕ} (λ x. opening x.0 ≡ refused x.1)
    ((0x09 ∷ 0x8f ∷ 0x27 ∷ [], 2) ∷ (0x09 ∷ 0x8f ∷ [], 1) ∷ [])

-- Sends and gaps at the limits, by the second implementation, which wrote this file. Assumes nothing.
use Prim.Native.String.{String}
use Rattle.std.specs.Prelude.{◌≡◌, ℕ, Bool, true, false, cond, List, [], ◌∷◌, ◌++◌, replicate, Some, Ok, Err}
use Rattle.std.specs.Prelude.{codes, Result}
use Rattle.std.specs.List.{AllByRecursion}
use Rattle.protocol.specs.declared.refusal.Refusal.{Refusal}
use Rattle.protocol.specs.declared.refusal.Refusal.TheVariants.{Buffer}
use Rattle.frame.specs.Openings.{opening}
use Rattle.record.specs.declared.State.TheVariants.{Ready, Singulation, Inventoried}
use Rattle.record.specs.declared.Tag.{Tag}
use Rattle.field.specs.declared.hearing.Hearing.{Hearing}
use Rattle.field.specs.declared.hearing.Hearing.TheVariants.{Silence, Lone, Clash}
use Rattle.field.specs.Airs.{Air, silent, one, many, mixed, hearing_number, hearing_name, MayHear}
use Rattle.field.specs.Airs.{plain_hearing, together}
use Rattle.field.specs.Sends.{coin_at, on_air, is_short, tags_after_send, buffer_after_send}
use Rattle.worked_cases.specs.Words.{bytes, used, numbered, numbered_from}

-- What a send gives where every lone reply is heard as lone.
abbrev pub given : ℕ → Air → Result Hearing Refusal
given room air = cond (is_short room) (Err Buffer) (Ok (plain_hearing air))

-- Tags, a frame, a row of coins, how long the reply buffer is; then the tags after the send, what is heard where every
-- lone reply is heard as lone, and the buffer after it.
abbrev pub SendCase : Type 0
SendCase = List Tag × String × ℕ × ℕ × List Tag × Result Hearing Refusal × List ℕ

abbrev pub Sent : SendCase → Type 0
Sent (before, frame, row, room, after, result, left) =
    let air = on_air (opening (bytes frame)) row before in
    (tags_after_send room (bytes frame) row before ≡ after) × (given room air ≡ result)
    × (buffer_after_send result air (used room) ≡ left)

abbrev pub send : List Tag → String → ℕ → ℕ → List Tag → Result Hearing Refusal → List ℕ → SendCase
send before frame row room after result left = (before, frame, row, room, after, result, left)

-- Sends to no tag, one, two and 64, at both ends of a row, and with buffers that are short, exact and long.
unfoldable pub Sends : Type 0
Sends =
    AllByRecursion Sent
    (send [] "089F07" 0x0 258 [] (Ok Silence) (replicate 258 0x00)
    ∷ send (numbered 0x01 Singulation 0x00 ∷ []) "089F07" 0x0 258 (numbered 0x01 Singulation 0x00 ∷ []) (Ok Lone)
    (replicate 7 0x00 ++ bytes "01DEE0" ++ replicate 248 0x00)
    ∷ send (numbered 0x01 Singulation 0x00 ∷ []) "089F07" 0x1 258 (numbered 0x01 Singulation 0x01 ∷ []) (Ok Silence)
    (replicate 258 0x00)
    ∷ send (numbered 0x01 Singulation 0x00 ∷ []) "089F07" 0x2 258 (numbered 0x01 Singulation 0x00 ∷ []) (Ok Lone)
    (replicate 7 0x00 ++ bytes "01DEE0" ++ replicate 248 0x00)
    ∷ send (numbered_from 0x01 2 Singulation 0x00) "089F07" 0x0 258 (numbered_from 0x01 2 Singulation 0x00) (Ok Clash)
    (replicate 258 0x00)
    ∷ send (numbered_from 0x01 2 Singulation 0x00) "089F07" 0x1 260
    (numbered 0x01 Singulation 0x01 ∷ numbered 0x02 Singulation 0x00 ∷ []) (Ok Lone)
    (replicate 7 0x00 ++ bytes "02EE83" ++ replicate 248 0x00 ++ bytes "A5A5")
    ∷ send (numbered_from 0x01 2 Singulation 0x00) "089F07" 0x2 258
    (numbered 0x01 Singulation 0x00 ∷ numbered 0x02 Singulation 0x01 ∷ []) (Ok Lone)
    (replicate 7 0x00 ++ bytes "01DEE0" ++ replicate 248 0x00)
    ∷ send (numbered_from 0x01 2 Singulation 0x00) "089F07" 0xffffffffffffffff 258
    (numbered_from 0x01 2 Singulation 0x01) (Ok Silence) (replicate 258 0x00)
    ∷ send (numbered_from 0x01 2 Singulation 0x00) "089F07" 0x0 257 (numbered_from 0x01 2 Singulation 0x00)
    (Err Buffer) (replicate 257 0xa5)
    ∷ send (numbered 0x01 Singulation 0x00 ∷ []) "089F07" 0x1 0 (numbered 0x01 Singulation 0x00 ∷ []) (Err Buffer) []
    ∷ send (numbered_from 0x01 2 Singulation 0x00) "0C0000000000000002009FDA" 0x0 258 (numbered 0x01 Singulation 0x00
    ∷ record (numbered 0x02 Inventoried 0x00) { identified = true; permission = Some 0x00 } ∷ []) (Ok Lone)
    (replicate 7 0x00 ++ bytes "02EE83" ++ replicate 248 0x00)
    ∷ send (numbered_from 0x01 2 Singulation 0x00) "51000000000000000100FFCB91" 0x0 260
    (record (numbered 0x01 Inventoried 0x00) { identified = true; permission = Some 0x00 }
    ∷ numbered 0x02 Singulation 0x00 ∷ []) (Ok Lone)
    (replicate 7 0x00 ++ bytes "01" ++ replicate 248 0x00 ++ bytes "9E84A5A5")
    ∷ send (numbered_from 0x01 2 Singulation 0x00) "" 0x0 258 (numbered_from 0x01 2 Ready 0x00) (Ok Silence)
    (replicate 258 0x00)
    ∷ send (numbered_from 0x00 64 Singulation 0x00) "089F07" 0x8000000000000000 258
    (numbered_from 0x00 63 Singulation 0x00 ++ numbered 0x3f Singulation 0x01 ∷ []) (Ok Clash) (replicate 258 0x00)
    ∷ send (numbered_from 0x00 64 Singulation 0x00) "089F07" 0x7fffffffffffffff 258
    (numbered_from 0x00 63 Singulation 0x01 ++ numbered 0x3f Singulation 0x00 ∷ []) (Ok Lone)
    (replicate 7 0x00 ++ bytes "3F097D" ++ replicate 248 0x00)
    ∷ [])

-- A row of coins, a place, and its coin.
unfoldable pub Coins : Type 0
Coins =
    AllByRecursion {X = ℕ × ℕ × Bool} (λ (row, place, coin). coin_at row place ≡ coin)
    ((0x1, 0, true) ∷ (0x1, 1, false) ∷ (0x1, 62, false) ∷ (0x1, 63, false) ∷ (0x2, 0, false) ∷ (0x2, 1, true)
    ∷ (0x2, 62, false) ∷ (0x2, 63, false) ∷ (0x8000000000000000, 0, false) ∷ (0x8000000000000000, 1, false)
    ∷ (0x8000000000000000, 62, false) ∷ (0x8000000000000000, 63, true) ∷ (0xfffffffffffffffe, 0, false)
    ∷ (0xfffffffffffffffe, 1, true) ∷ (0xfffffffffffffffe, 62, true) ∷ (0xfffffffffffffffe, 63, true) ∷ [])

-- What two groups of tags put on the air, and what they do together.
unfoldable pub MixedAirs : Type 0
MixedAirs =
    AllByRecursion {X = Air × Air × Air} (λ (left, right, both). mixed left right ≡ both)
    ((silent, silent, silent)
    ∷ (silent, one (replicate 7 0x00 ++ bytes "084FC9"), one (replicate 7 0x00 ++ bytes "084FC9"))
    ∷ (silent, many, many)
    ∷ (one (replicate 7 0x00 ++ bytes "01DEE0"), silent, one (replicate 7 0x00 ++ bytes "01DEE0"))
    ∷ (one (replicate 7 0x00 ++ bytes "01DEE0"), one (replicate 7 0x00 ++ bytes "084FC9"), many)
    ∷ (one (replicate 7 0x00 ++ bytes "01DEE0"), many, many) ∷ (many, silent, many)
    ∷ (many, one (replicate 7 0x00 ++ bytes "084FC9"), many) ∷ (many, many, many) ∷ [])

-- What is on the air, what is heard of it by a bench or by a spoiler of all, and what a bench hears.
unfoldable pub HeardAirs : Type 0
HeardAirs =
    AllByRecursion {X = Air × Hearing × Hearing} (λ (air, any, plain). MayHear air any × (plain_hearing air ≡ plain))
    ((silent, Silence, Silence) ∷ (one (replicate 7 0x00 ++ bytes "01DEE0"), Lone, Lone)
    ∷ (one (replicate 7 0x00 ++ bytes "01DEE0"), Clash, Lone) ∷ (many, Clash, Clash) ∷ [])

-- The hearings, with their numbers and names.
unfoldable pub HearingsListed : Type 0
HearingsListed =
    AllByRecursion {X = Hearing × ℕ × String}
    (λ (hearing, number, name). (hearing_number hearing ≡ number) × (hearing_name hearing ≡ codes name))
    ((Silence, 0, "silence") ∷ (Lone, 1, "lone") ∷ (Clash, 2, "clash") ∷ [])

-- What two groups are heard as alone, and at once.
unfoldable pub HeardTogether : Type 0
HeardTogether =
    AllByRecursion {X = Hearing × Hearing × Hearing} (λ (left, right, both). together left right ≡ both)
    ((Silence, Silence, Silence) ∷ (Silence, Lone, Lone) ∷ (Silence, Clash, Clash) ∷ (Lone, Silence, Lone)
    ∷ (Lone, Lone, Clash) ∷ (Lone, Clash, Clash) ∷ (Clash, Silence, Clash) ∷ (Clash, Lone, Clash)
    ∷ (Clash, Clash, Clash) ∷ [])

-- Replies at the limits, by the second implementation, which wrote this file. Assumes nothing.
use Rattle.std.specs.Prelude.{◌≡◌, ℕ, List, [], ◌∷◌, ◌++◌, replicate}
use Rattle.std.specs.List.{AllByRecursion, range_with_len}
use Rattle.crc.specs.Check.{sealed}
use Rattle.protocol.specs.Refusals.{WriteResult, wrote, not_written}
use Rattle.frame.specs.Makings.{result_of, buffer_after, writing}
use Rattle.record.specs.declared.State.TheVariants.{Ready}
use Rattle.record.specs.Records.{bytes_from}
use Rattle.reply.specs.declared.Reply.{Reply}
use Rattle.reply.specs.declared.Reply.TheVariants.{Serial, Memory, Status}
use Rattle.reply.specs.Replies.{data_of}
use Rattle.worked_cases.specs.Words.{bytes, used, plain, tag_in}

-- What a plain tag sends for a reply.
abbrev pub told_by_plain : Reply → List ℕ
told_by_plain reply = sealed (data_of (tag_in Ready 0x00) reply)

-- An address, how many bytes from there on, and these bytes of the plain memory.
unfoldable pub Stretches : Type 0
Stretches =
    AllByRecursion {X = ℕ × ℕ × List ℕ} (λ (address, length, held). bytes_from plain address length ≡ held)
    ((0x00, 1, bytes "40") ∷ (0x00, 8, bytes "4041424344454647") ∷ (0x00, 56, range_with_len 0x40 56)
    ∷ (0x00, 57, range_with_len 0x40 56 ++ bytes "00") ∷ (0x00, 256, range_with_len 0x40 56 ++ replicate 200 0x00)
    ∷ (0x07, 2, bytes "4748") ∷ (0x34, 4, bytes "74757677") ∷ (0x34, 8, bytes "7475767700000000")
    ∷ (0x37, 1, bytes "77") ∷ (0x37, 2, bytes "7700") ∷ (0x38, 4, bytes "00000000") ∷ (0xff, 2, bytes "0000") ∷ [])

-- Replies of each kind, from one byte to 256, how long the buffer is, the answer of writing, and the buffer after it.
unfoldable pub WrittenReplies : Type 0
WrittenReplies =
    AllByRecursion {X = Reply × ℕ × WriteResult × List ℕ}
    (λ (reply, room, answer, after). (result_of (writing (told_by_plain reply) room) ≡ answer)
    × (buffer_after (writing (told_by_plain reply) room) (used room) ≡ after))
    ((Serial, 10, wrote 10, bytes "40414243444546478E0F") ∷ (Serial, 9, not_written 5, replicate 9 0xa5)
    ∷ (Serial, 0, not_written 5, []) ∷ (Serial, 12, wrote 10, bytes "40414243444546478E0FA5A5")
    ∷ (Memory 0x00 0, 3, wrote 3, bytes "4056CB") ∷ (Memory 0x00 0, 2, not_written 5, bytes "A5A5")
    ∷ (Memory 0x34 3, 6, wrote 6, bytes "747576776CCC") ∷ (Memory 0x34 7, 10, wrote 10, bytes "74757677000000003E49")
    ∷ (Memory 0x37 1, 5, wrote 4, bytes "7700733EA5") ∷ (Memory 0x38 7, 10, wrote 10, replicate 8 0x00 ++ bytes "CEC1")
    ∷ (Memory 0xff 0, 3, wrote 3, bytes "001E0F")
    ∷ (Memory 0x00 255, 258, wrote 258, range_with_len 0x40 56 ++ replicate 200 0x00 ++ bytes "846C")
    ∷ (Memory 0x00 255, 257, not_written 5, replicate 257 0xa5) ∷ (Status 0x00, 3, wrote 3, bytes "001E0F")
    ∷ (Status 0x00, 2, not_written 5, bytes "A5A5") ∷ (Status 0x00, 0, not_written 5, [])
    ∷ (Status 0x01, 3, wrote 3, bytes "010E2E") ∷ (Status 0xfe, 3, wrote 3, bytes "FE10DE")
    ∷ (Status 0xff, 5, wrote 3, bytes "FF00FFA5A5") ∷ [])

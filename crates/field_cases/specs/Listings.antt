-- Fingerprints, words and nestings, by the second implementation, which wrote this file. Assumes nothing.
use Prim.Native.String.{String}
use Rattle.std.proofs.Common.{lit≤}
use Rattle.std.specs.Prelude.{◌≡◌, ℕ, true, List, [], ◌∷◌, ◌++◌, map, replicate, Some, codes}
use Rattle.std.specs.List.{AllByRecursion, range_with_len}
use Rattle.record.specs.declared.State.{State}
use Rattle.record.specs.declared.State.TheVariants.{Singulation, Inventoried}
use Rattle.record.specs.declared.Tag.{Tag}
use Rattle.record.specs.declared.WriteMark.TheVariants.{Fresh}
use Rattle.record.specs.Records.{new_tag}
use Rattle.composite_fields.specs.declared.pair.Pair.{Pair}
use Rattle.composite_fields.specs.declared.spoiler.Spoiler.{Spoiler}
use Rattle.field_cases.specs.declared.building.Parts.{Parts}
use Rattle.field_cases.specs.declared.building.Parts.TheVariants as parts
use Rattle.field_cases.specs.declared.nesting.Node.{Node}
use Rattle.field_cases.specs.declared.nesting.Node.TheVariants as node
use Rattle.field_cases.specs.Builds.{parts_tags}
use Rattle.field_cases.specs.Fingerprints.{fingerprint, tags_fingerprint}
use Rattle.field_cases.specs.Nestings.{node_tags}
use Rattle.field_cases.specs.Questions.{first_word, behind_first, IsOneWord, SpellsRow, SpellsSending}

-- A new tag of the bytes 40 to 77, no two alike.
abbrev pub plain : Tag
plain = new_tag (range_with_len 0x40 56)

-- The same with every part set.
abbrev pub full : Tag
full =
    record plain {
      locks = replicate 56 true;
      state = Inventoried;
      identified = true;
      counter = 0xff;
      mark = Fresh;
      permission = Some 0x37;
    }

-- A tag of which only the serial number's last byte is not 00, in some state, with some counter.
abbrev pub numbered : ℕ → State → ℕ → Tag
numbered n state counter =
    record (new_tag (replicate 7 0x00 ++ n ∷ replicate 48 0x00)) { state = state; counter = counter }

-- So many of them, numbered on from this one.
abbrev pub numbered_from : ℕ → ℕ → State → ℕ → List Tag
numbered_from first count state counter = map (λ n. numbered n state counter) (range_with_len first count)

-- A spoiler that spoils each third lone reply and has heard none yet, and a pair, over what stands for fields.
abbrev pub spoiler : List Tag → Spoiler (List Tag)
spoiler tags = record { field = tags; period = 3; heard = 0; counting = lit≤ tt }

abbrev pub pair : List Tag → List Tag → Pair (List Tag) (List Tag)
pair left right = record { left = left; right = right }

-- Bytes, and their fingerprint.
unfoldable pub BytesTaken : Type 0
BytesTaken =
    AllByRecursion {X = List ℕ × ℕ} (λ (bytes, value). fingerprint bytes ≡ value)
    (([], 0xcbf29ce484222325) ∷ (0x00 ∷ [], 0xaf63bd4c8601b7df) ∷ (0xff ∷ [], 0xaf64724c8602eb6e)
    ∷ (0x66 ∷ 0x6f ∷ 0x6f ∷ 0x62 ∷ 0x61 ∷ 0x72 ∷ [], 0x85944171f73967e8) ∷ (replicate 300 0xa5, 0x9f75be7e20080019)
    ∷ [])

-- Tags, and their fingerprint.
unfoldable pub TagsTaken : Type 0
TagsTaken =
    AllByRecursion {X = List Tag × ℕ} (λ (tags, value). tags_fingerprint tags ≡ value)
    (([], 0xcbf29ce484222325) ∷ (plain ∷ [], 0x6c16dc0697a9b28f)
    ∷ (record plain { permission = Some 0x00 } ∷ [], 0x6c13760697a6cf66) ∷ (full ∷ [], 0x562510d04d5b2605)
    ∷ (full ∷ numbered 0x01 Singulation 0x00 ∷ [], 0x637dcb046e9c471)
    ∷ (numbered 0x01 Singulation 0x00 ∷ full ∷ [], 0x57457d2b09d8fc41) ∷ [])

-- Texts, what stands in front of the first space, and what stands behind it.
unfoldable pub SplitWords : Type 0
SplitWords =
    AllByRecursion {X = String × String × String}
    (λ (text, word, rest). (first_word (codes text) ≡ codes word) × (behind_first (codes text) ≡ codes rest))
    (("gap 250", "gap", "250") ∷ ("send 00 0 -", "send", "00 0 -") ∷ (" two", "", "two") ∷ ("one ", "one", "")
    ∷ ("a  b", "a", " b") ∷ (" ", "", "") ∷ [])

-- Texts without a space.
unfoldable pub SingleWords : Type 0
SingleWords =
    AllByRecursion (λ text. IsOneWord (codes text))
    ("" ∷ "end" ∷ [])

-- Texts, and the row of coins that they spell.
unfoldable pub SpeltRows : Type 0
SpeltRows =
    AllByRecursion {X = String × ℕ} (λ (text, row). SpellsRow (codes text) row)
    (("0000000000000000", 0x0) ∷ ("0000000000000001", 0x1) ∷ ("8000000000000000", 0x8000000000000000)
    ∷ ("0123456789ABCDEF", 0x123456789abcdef) ∷ ("FFFFFFFFFFFFFFFF", 0xffffffffffffffff) ∷ [])

-- Texts, and the row of coins, the room and the frame that they spell.
unfoldable pub SpeltSendings : Type 0
SpeltSendings =
    AllByRecursion {X = String × ℕ × ℕ × List ℕ}
    (λ (text, row, room, frame). SpellsSending (codes text) row room frame)
    (("0000000000000000 0 -", 0x0, 0, []) ∷ ("0000000000000001 +9 00", 0x1, 9, 0x00 ∷ [])
    ∷ ("8000000000000000 260 098F26", 0x8000000000000000, 260, 0x09 ∷ 0x8f ∷ 0x26 ∷ [])
    ∷ ("FFFFFFFFFFFFFFFF 0300 FF", 0xffffffffffffffff, 300, 0xff ∷ []) ∷ [])

-- What a layer is made of, and the tags of that.
unfoldable pub PartsTaken : Type 0
PartsTaken =
    AllByRecursion {X = Parts (List Tag) × List Tag} (λ (made, tags). parts_tags (λ field. field) made ≡ tags)
    ((parts.Bare [], []) ∷ (parts.Bare (numbered_from 0x00 2 Singulation 0x00), numbered_from 0x00 2 Singulation 0x00)
    ∷ (parts.Spoiled (numbered_from 0x00 2 Singulation 0x00) 3, numbered_from 0x00 2 Singulation 0x00)
    ∷ (parts.Paired [] [], [])
    ∷ (
      parts.Paired (numbered 0x00 Singulation 0x00 ∷ []) (numbered_from 0x01 2 Singulation 0x00),
      numbered_from 0x00 3 Singulation 0x00,
    )
    ∷ (
      parts.Paired (numbered_from 0x00 60 Singulation 0x00) (numbered_from 0x3c 4 Singulation 0x00),
      numbered_from 0x00 64 Singulation 0x00,
    )
    ∷ [])

-- Fields with a layer or none, and their tags.
unfoldable pub NodesNested : Type 0
NodesNested =
    AllByRecursion {X = Node (List Tag) × List Tag} (λ (made, tags). node_tags (λ field. field) made ≡ tags)
    ((node.Bare [], []) ∷ (node.Bare (numbered_from 0x00 2 Singulation 0x00), numbered_from 0x00 2 Singulation 0x00)
    ∷ (node.Spoiled (spoiler (numbered_from 0x00 2 Singulation 0x00)), numbered_from 0x00 2 Singulation 0x00)
    ∷ (node.Paired (pair [] []), [])
    ∷ (
      node.Paired (pair (numbered 0x00 Singulation 0x00 ∷ []) (numbered_from 0x01 2 Singulation 0x00)),
      numbered_from 0x00 3 Singulation 0x00,
    )
    ∷ (
      node.Paired (pair (numbered_from 0x00 60 Singulation 0x00) (numbered_from 0x3c 4 Singulation 0x00)),
      numbered_from 0x00 64 Singulation 0x00,
    )
    ∷ [])

-- The record of a tag at the limits, by the second implementation, which wrote this file. Assumes nothing.
use Prim.Native.String.{String}
use Rattle.std.specs.Prelude.{◌≡◌, ℕ, Bool, true, false, List, [], ◌∷◌, replicate, Some, None, codes}
use Rattle.std.specs.List.{AllByRecursion}
use Rattle.record.specs.declared.State.{State}
use Rattle.record.specs.declared.State.TheVariants.{Ready, Singulation, Inventoried}
use Rattle.record.specs.declared.WriteMark.{WriteMark}
use Rattle.record.specs.declared.WriteMark.TheVariants.{Clear, Fading, Fresh}
use Rattle.record.specs.declared.Tag.{Tag}
use Rattle.record.specs.Alike.{alike}
use Rattle.record.specs.Gaps.{after_gap}
use Rattle.record.specs.Masks.{selects, matches, stored}
use Rattle.record.specs.Names.{state_name}
use Rattle.record.specs.Records.{byte_at, locked_at, serial_of, mark_number, fallen, is_write_ok, new_tag}
use Rattle.worked_cases.specs.Words.{bytes, plain, plain_but, locked_in, first_two, only_locked}
use Rattle.worked_cases.specs.Words.{tag_of, tag_in, flagged_in, busy}

-- 56 bytes, the new tag that has them, and its serial number.
unfoldable pub NewTags : Type 0
NewTags =
    AllByRecursion {X = List ℕ × Tag × String}
    (λ (memory, tag, serial). (new_tag memory ≡ tag) × (serial_of tag ≡ bytes serial))
    ((plain, tag_in Ready 0x00, "4041424344454647")
    ∷ (replicate 56 0x00, record (tag_in Ready 0x00) { memory = replicate 56 0x00 }, "0000000000000000")
    ∷ (replicate 56 0xff, record (tag_in Ready 0x00) { memory = replicate 56 0xff }, "FFFFFFFFFFFFFFFF") ∷ [])

-- The locks of a plain tag, an address, the byte there, and whether it is locked.
unfoldable pub Addresses : Type 0
Addresses =
    AllByRecursion {X = List Bool × ℕ × ℕ × Bool}
    (λ (locks, address, held, locked). let tag = record (tag_in Ready 0x00) { locks = locks } in
    (byte_at tag address ≡ held) × (locked_at tag address ≡ locked))
    ((first_two, 0x00, 0x40, true) ∷ (first_two, 0x01, 0x41, true) ∷ (first_two, 0x02, 0x42, false)
    ∷ (first_two, 0x37, 0x77, false) ∷ (first_two, 0x38, 0x00, true) ∷ (first_two, 0xff, 0x00, true)
    ∷ (replicate 56 false, 0x00, 0x40, false) ∷ (replicate 56 false, 0x01, 0x41, false)
    ∷ (replicate 56 false, 0x02, 0x42, false) ∷ (replicate 56 false, 0x37, 0x77, false)
    ∷ (replicate 56 false, 0x38, 0x00, true) ∷ (replicate 56 false, 0xff, 0x00, true)
    ∷ (replicate 56 true, 0x00, 0x40, true) ∷ (replicate 56 true, 0x01, 0x41, true)
    ∷ (replicate 56 true, 0x02, 0x42, true) ∷ (replicate 56 true, 0x37, 0x77, true)
    ∷ (replicate 56 true, 0x38, 0x00, true) ∷ (replicate 56 true, 0xff, 0x00, true) ∷ [])

-- A mask, a place, and whether the one selects the other.
unfoldable pub Selections : Type 0
Selections =
    AllByRecursion {X = ℕ × ℕ × Bool} (λ (mask, place, selected). selects mask place ≡ selected)
    ((0x00, 0, false) ∷ (0x00, 3, false) ∷ (0x00, 4, false) ∷ (0x00, 7, false) ∷ (0x80, 0, true) ∷ (0x80, 3, false)
    ∷ (0x80, 4, false) ∷ (0x80, 7, false) ∷ (0x01, 0, false) ∷ (0x01, 3, false) ∷ (0x01, 4, false) ∷ (0x01, 7, true)
    ∷ (0xff, 0, true) ∷ (0xff, 3, true) ∷ (0xff, 4, true) ∷ (0xff, 7, true) ∷ [])

-- An address, a mask and a word, and whether the plain memory matches.
unfoldable pub Comparisons : Type 0
Comparisons =
    AllByRecursion {X = ℕ × ℕ × String × Bool}
    (λ (address, mask, word, matched). matches plain address mask (bytes word) ≡ matched)
    ((0x00, 0x00, "0000000000000000", true) ∷ (0x00, 0xff, "4041424344454647", true)
    ∷ (0x00, 0xff, "0041424344454647", false) ∷ (0x00, 0x80, "0041424344454647", false)
    ∷ (0x00, 0x7f, "0041424344454647", true) ∷ (0x00, 0xff, "4041424344454600", false)
    ∷ (0x00, 0x01, "4041424344454600", false) ∷ (0x00, 0xfe, "4041424344454600", true)
    ∷ (0x34, 0xff, "7475767700000000", true) ∷ (0x34, 0xff, "7475767700000001", false)
    ∷ (0x37, 0x80, "7777777777777777", true) ∷ (0x37, 0x01, "7777777777777777", false)
    ∷ (0x38, 0xff, "0000000000000000", true) ∷ (0x38, 0x01, "0000000000000001", false)
    ∷ (0xff, 0xff, "0040414243444546", false) ∷ (0xff, 0xff, "0000000000000000", true) ∷ [])

-- An address, a mask and four bytes, and the plain memory once those selected are stored.
unfoldable pub Storings : Type 0
Storings =
    AllByRecursion {X = ℕ × ℕ × String × List ℕ}
    (λ (address, mask, given, after). stored address mask (bytes given) plain 4 ≡ after)
    ((0x00, 0x00, "01020304", plain) ∷ (0x00, 0x80, "01020304", plain_but 0x00 "01")
    ∷ (0x00, 0x10, "01020304", plain_but 0x03 "04") ∷ (0x00, 0x01, "01020304", plain)
    ∷ (0x00, 0xf0, "01020304", plain_but 0x00 "01020304") ∷ (0x00, 0xff, "01020304", plain_but 0x00 "01020304")
    ∷ (0x04, 0x60, "01020304", plain_but 0x05 "0203") ∷ (0x08, 0xf0, "01020304", plain_but 0x08 "01020304")
    ∷ (0x34, 0x80, "01020304", plain_but 0x34 "01") ∷ (0x34, 0x10, "01020304", plain_but 0x37 "04")
    ∷ (0x34, 0x0f, "01020304", plain) ∷ (0x34, 0xff, "01020304", plain_but 0x34 "01020304") ∷ [])

-- A mark, its number, the mark once it has fallen, and whether it is WRITE_OK.
unfoldable pub Marks : Type 0
Marks =
    AllByRecursion {X = WriteMark × ℕ × WriteMark × Bool}
    (λ (mark, number, after, allowed).
    (mark_number mark ≡ number) × (fallen mark ≡ after) × (is_write_ok mark ≡ allowed))
    ((Clear, 0, Clear, false) ∷ (Fading, 1, Clear, true) ∷ (Fresh, 2, Fading, true) ∷ [])

-- The states by their names.
unfoldable pub States : Type 0
States =
    AllByRecursion {X = State × String} (λ (state, name). state_name state ≡ codes name)
    ((Ready, "READY") ∷ (Singulation, "SINGULATION") ∷ (Inventoried, "INVENTORIED") ∷ [])

-- A tag, a gap in microseconds, and the tag after it.
unfoldable pub Gaps : Type 0
Gaps =
    AllByRecursion {X = Tag × ℕ × Tag} (λ (before, microseconds, after). after_gap microseconds before ≡ after)
    ((busy Singulation, 0, busy Singulation) ∷ (busy Singulation, 249, busy Singulation)
    ∷ (busy Singulation, 250, flagged_in Ready 0x00) ∷ (busy Singulation, 3999999, flagged_in Ready 0x00)
    ∷ (busy Singulation, 4000000, tag_in Ready 0x00) ∷ (busy Singulation, 4294967295, tag_in Ready 0x00)
    ∷ (busy Inventoried, 0, busy Inventoried) ∷ (busy Inventoried, 249, busy Inventoried)
    ∷ (busy Inventoried, 250, flagged_in Ready 0x00) ∷ (busy Inventoried, 3999999, flagged_in Ready 0x00)
    ∷ (busy Inventoried, 4000000, tag_in Ready 0x00) ∷ (busy Inventoried, 4294967295, tag_in Ready 0x00) ∷ [])

-- Tags beside a busy one, and whether the two are alike: the same, and such as differ in one part.
unfoldable pub Likenesses : Type 0
Likenesses =
    AllByRecursion {X = Tag × Bool} (λ (other, same). alike (busy Singulation) other ≡ same)
    ((busy Singulation, true) ∷ (record (busy Singulation) { memory = plain_but 0x00 "41" }, false)
    ∷ (record (busy Singulation) { memory = plain_but 0x37 "76" }, false)
    ∷ (only_locked 0x00 (busy Singulation), false)
    ∷ (record (busy Singulation) { locks = locked_in (0x00 ∷ 0x01 ∷ 0x37 ∷ []) }, false) ∷ (busy Ready, false)
    ∷ (busy Inventoried, false) ∷ (tag_of Singulation false 0xff Fresh (Some 0x37), false)
    ∷ (record (busy Singulation) { counter = 0xfe }, false) ∷ (record (busy Singulation) { mark = Fading }, false)
    ∷ (tag_of Singulation true 0xff Fresh None, false) ∷ (tag_of Singulation true 0xff Fresh (Some 0x36), false) ∷ [])

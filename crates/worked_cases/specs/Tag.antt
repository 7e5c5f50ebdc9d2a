-- A tag's steps at the limits, by the second implementation, which wrote this file. Assumes nothing.
use Prim.Native.String.{String}
use Rattle.std.specs.Prelude.{◌≡◌, ℕ, Bool, true, false, List, [], ◌∷◌, ◌++◌, replicate, Some, None, Option}
use Rattle.std.specs.List.{AllByRecursion, range_with_len}
use Rattle.frame.specs.Openings.{opening}
use Rattle.record.specs.declared.State.TheVariants.{Ready, Singulation, Inventoried}
use Rattle.record.specs.declared.WriteMark.TheVariants.{Clear, Fading, Fresh}
use Rattle.record.specs.declared.Tag.{Tag}
use Rattle.tag.specs.Steps.{stepped, replied}
use Rattle.worked_cases.specs.Words.{bytes, plain_but, locked_in, only_locked, tag_of, tag_in, flagged_in, busy}

-- A tag, the frame that it hears, the tag after it, and its reply.
abbrev pub step : Tag → String → Tag → Option (List ℕ) → Tag × String × Tag × Option (List ℕ)
step before frame after reply = (before, frame, after, reply)

-- The plain tag's serial number, as it is sent.
abbrev pub serial_sent : List ℕ
serial_sent = bytes "40414243444546478E0F"

-- By a frame and a coin a tag becomes this one, and replies so.
abbrev pub Holds : Tag → String → Bool → Tag → Option (List ℕ) → Type 0
Holds before frame coin after reply =
    (stepped (opening (bytes frame)) coin before ≡ after) × (replied (opening (bytes frame)) coin before ≡ reply)

-- SELECT, at the ends of the memory, by single bits of the mask, and in each state.
unfoldable pub Selects : Type 0
Selects =
    AllByRecursion {X = Tag × String × Tag × Option (List ℕ)}
    (λ (before, frame, after, reply). Holds before frame false after reply)
    (step (tag_in Ready 0xff) "0000FF4041424344454647E703" (tag_in Singulation 0x00) (Some serial_sent)
    ∷ step (tag_in Ready 0xff) "0000FF404142434445464816EC" (tag_in Ready 0xff) None
    ∷ step (tag_in Ready 0xff) "0000FE4041424344454648FDCF" (tag_in Singulation 0x00) (Some serial_sent)
    ∷ step (tag_in Ready 0xff) "000001404142434445464871F2" (tag_in Ready 0xff) None
    ∷ step (tag_in Ready 0xff) "0000800041424344454647225C" (tag_in Ready 0xff) None
    ∷ step (tag_in Ready 0xff) "00007F0041424344454647AE61" (tag_in Singulation 0x00) (Some serial_sent)
    ∷ step (tag_in Ready 0xff) "000000EEEEEEEEEEEEEEEEA251" (tag_in Singulation 0x00) (Some serial_sent)
    ∷ step (tag_in Ready 0xff) "0034FF747576770000000057EB" (tag_in Singulation 0x00) (Some serial_sent)
    ∷ step (tag_in Ready 0xff) "0037807777777777777777E9E3" (tag_in Singulation 0x00) (Some serial_sent)
    ∷ step (tag_in Ready 0xff) "0038FF0000000000000000401D" (tag_in Singulation 0x00) (Some serial_sent)
    ∷ step (tag_in Ready 0xff) "00FFFF00404142434445468368" (tag_in Ready 0xff) None
    ∷ step (tag_in Ready 0xff) "00FF800040414243444546B0E7" (tag_in Singulation 0x00) (Some serial_sent)
    ∷ step (flagged_in Singulation 0xff) "0000FF404142434445464816EC" (flagged_in Singulation 0x00) (Some serial_sent)
    ∷ step (tag_of Singulation false 0x00 Fresh (Some 0x00)) "0000FF4041424344454647E703"
    (tag_of Singulation false 0x00 Fading None) (Some serial_sent)
    ∷ step (tag_of Inventoried false 0x01 Fading (Some 0x37)) "0000FF4041424344454647E703" (tag_in Inventoried 0x01)
    None
    ∷ [])

-- UNSELECT_NE, in the same ways.
unfoldable pub UnselectsNe : Type 0
UnselectsNe =
    AllByRecursion {X = Tag × String × Tag × Option (List ℕ)}
    (λ (before, frame, after, reply). Holds before frame false after reply)
    (step (tag_in Singulation 0x01) "0500FF40414243444546476E0D" (tag_in Singulation 0x00) (Some serial_sent)
    ∷ step (tag_in Singulation 0x01) "0500FF40414243444546489FE2" (tag_in Ready 0x01) None
    ∷ step (tag_in Singulation 0x01) "0500FE404142434445464874C1" (tag_in Singulation 0x00) (Some serial_sent)
    ∷ step (tag_in Singulation 0x01) "0500014041424344454648F8FC" (tag_in Ready 0x01) None
    ∷ step (tag_in Singulation 0x01) "0500800041424344454647AB52" (tag_in Ready 0x01) None
    ∷ step (tag_in Singulation 0x01) "05007F0041424344454647276F" (tag_in Singulation 0x00) (Some serial_sent)
    ∷ step (tag_in Singulation 0x01) "050000EEEEEEEEEEEEEEEE2B5F" (tag_in Singulation 0x00) (Some serial_sent)
    ∷ step (tag_in Singulation 0x01) "0534FF7475767700000000DEE5" (tag_in Singulation 0x00) (Some serial_sent)
    ∷ step (tag_in Singulation 0x01) "053780777777777777777760ED" (tag_in Singulation 0x00) (Some serial_sent)
    ∷ step (tag_in Singulation 0x01) "0538FF0000000000000000C913" (tag_in Singulation 0x00) (Some serial_sent)
    ∷ step (tag_in Singulation 0x01) "05FFFF00404142434445460A66" (tag_in Ready 0x01) None
    ∷ step (tag_in Singulation 0x01) "05FF80004041424344454639E9" (tag_in Singulation 0x00) (Some serial_sent)
    ∷ step (tag_of Singulation true 0xff Fresh None) "0500FF40414243444546476E0D"
    (tag_of Singulation true 0x00 Fading None) (Some serial_sent)
    ∷ step (tag_of Singulation true 0xff Clear (Some 0x00)) "0500FF40414243444546489FE2" (flagged_in Ready 0xff) None
    ∷ step (tag_in Ready 0x01) "0500FF40414243444546476E0D" (tag_in Ready 0x01) None
    ∷ step (tag_of Inventoried false 0xff Fading None) "0500FF40414243444546489FE2" (tag_in Inventoried 0xff) None
    ∷ [])

-- UNSELECT_ID_FLAG, in each state, with the flag set and clear.
unfoldable pub UnselectsFlag : Type 0
UnselectsFlag =
    AllByRecursion {X = Tag × Tag × Option (List ℕ)}
    (λ (before, after, reply). Holds before "190000EE91" false after reply)
    ((tag_in Ready 0x00, tag_in Ready 0x00, None) ∷ (flagged_in Ready 0x00, flagged_in Ready 0x00, None)
    ∷ (tag_in Ready 0xff, tag_in Ready 0xff, None) ∷ (flagged_in Ready 0xff, flagged_in Ready 0xff, None)
    ∷ (tag_in Singulation 0x00, tag_in Singulation 0x00, Some serial_sent)
    ∷ (flagged_in Singulation 0x00, flagged_in Ready 0x00, None)
    ∷ (tag_in Singulation 0xff, tag_in Singulation 0x00, Some serial_sent)
    ∷ (flagged_in Singulation 0xff, flagged_in Ready 0xff, None)
    ∷ (tag_in Inventoried 0x00, tag_in Inventoried 0x00, None)
    ∷ (flagged_in Inventoried 0x00, flagged_in Inventoried 0x00, None)
    ∷ (tag_in Inventoried 0xff, tag_in Inventoried 0xff, None)
    ∷ (flagged_in Inventoried 0xff, flagged_in Inventoried 0xff, None)
    ∷ (tag_of Singulation false 0x01 Fresh (Some 0x08), tag_of Singulation false 0x00 Fading None, Some serial_sent)
    ∷ (tag_of Singulation true 0x01 Fading (Some 0x08), flagged_in Ready 0x01, None) ∷ [])

-- UNSELECT_NOID_FLAG, in the same ways.
unfoldable pub UnselectsNoFlag : Type 0
UnselectsNoFlag =
    AllByRecursion {X = Tag × Tag × Option (List ℕ)}
    (λ (before, after, reply). Holds before "1AFF01A41F" false after reply)
    ((tag_in Ready 0x00, tag_in Ready 0x00, None) ∷ (flagged_in Ready 0x00, flagged_in Ready 0x00, None)
    ∷ (tag_in Ready 0xff, tag_in Ready 0xff, None) ∷ (flagged_in Ready 0xff, flagged_in Ready 0xff, None)
    ∷ (tag_in Singulation 0x00, tag_in Ready 0x00, None)
    ∷ (flagged_in Singulation 0x00, flagged_in Singulation 0x00, Some serial_sent)
    ∷ (tag_in Singulation 0xff, tag_in Ready 0xff, None)
    ∷ (flagged_in Singulation 0xff, flagged_in Singulation 0x00, Some serial_sent)
    ∷ (tag_in Inventoried 0x00, tag_in Inventoried 0x00, None)
    ∷ (flagged_in Inventoried 0x00, flagged_in Inventoried 0x00, None)
    ∷ (tag_in Inventoried 0xff, tag_in Inventoried 0xff, None)
    ∷ (flagged_in Inventoried 0xff, flagged_in Inventoried 0xff, None)
    ∷ (tag_of Singulation false 0x01 Fresh (Some 0x08), tag_of Ready false 0x01 Fading None, None)
    ∷ (tag_of Singulation true 0x01 Fading (Some 0x08), flagged_in Singulation 0x00, Some serial_sent) ∷ [])

-- QUERY, with counters at their limits and both coins, and in each state.
unfoldable pub Queries : Type 0
Queries =
    AllByRecursion {X = Tag × Bool × Tag × Option (List ℕ)}
    (λ (before, coin, after, reply). Holds before "089F07" coin after reply)
    ((tag_in Singulation 0x00, false, tag_in Singulation 0x00, Some serial_sent)
    ∷ (tag_in Singulation 0x00, true, tag_in Singulation 0x01, None)
    ∷ (tag_in Singulation 0x01, false, tag_in Singulation 0x02, None)
    ∷ (tag_in Singulation 0x01, true, tag_in Singulation 0x02, None)
    ∷ (tag_in Singulation 0xfe, false, tag_in Singulation 0xff, None)
    ∷ (tag_in Singulation 0xfe, true, tag_in Singulation 0xff, None)
    ∷ (tag_in Singulation 0xff, false, tag_in Singulation 0xff, None)
    ∷ (tag_in Singulation 0xff, true, tag_in Singulation 0xff, None)
    ∷ (tag_in Ready 0x00, false, tag_in Ready 0x00, None) ∷ (tag_in Ready 0xfe, true, tag_in Ready 0xfe, None)
    ∷ (tag_in Inventoried 0x00, false, tag_in Inventoried 0x00, None)
    ∷ (tag_of Inventoried true 0x01 Fresh None, true, tag_of Inventoried true 0x01 Fading None, None)
    ∷ (tag_of Singulation true 0x00 Fading (Some 0x37), false, flagged_in Singulation 0x00, Some serial_sent) ∷ [])

-- SCROLL, with counters at their limits and in each state.
unfoldable pub Scrolls : Type 0
Scrolls =
    AllByRecursion {X = Tag × Tag × Option (List ℕ)}
    (λ (before, after, reply). Holds before "098F26" false after reply)
    ((tag_in Singulation 0x00, tag_in Singulation 0x00, Some serial_sent)
    ∷ (tag_in Singulation 0x01, tag_in Singulation 0x00, Some serial_sent)
    ∷ (tag_in Singulation 0x02, tag_in Singulation 0x01, None)
    ∷ (tag_in Singulation 0xfe, tag_in Singulation 0xfd, None)
    ∷ (tag_in Singulation 0xff, tag_in Singulation 0xfe, None)
    ∷ (flagged_in Singulation 0x00, flagged_in Singulation 0x00, Some serial_sent)
    ∷ (tag_of Singulation false 0x01 Fresh (Some 0x00), tag_of Singulation false 0x00 Fading None, Some serial_sent)
    ∷ (tag_of Singulation false 0x00 Fading None, tag_in Singulation 0x00, Some serial_sent)
    ∷ (tag_in Ready 0x00, tag_in Ready 0x00, None) ∷ (tag_in Ready 0x01, tag_in Ready 0x01, None)
    ∷ (flagged_in Inventoried 0x00, flagged_in Inventoried 0x00, None)
    ∷ (tag_of Inventoried false 0x01 Clear (Some 0x37), tag_in Inventoried 0x01, None) ∷ [])

-- REPEAT, in the same ways.
unfoldable pub Repeats : Type 0
Repeats =
    AllByRecursion {X = Tag × Tag × Option (List ℕ)}
    (λ (before, after, reply). Holds before "155C9B" false after reply)
    ((tag_in Singulation 0x00, tag_in Singulation 0x00, Some serial_sent)
    ∷ (tag_in Singulation 0x01, tag_in Singulation 0x01, None)
    ∷ (tag_in Singulation 0x02, tag_in Singulation 0x02, None)
    ∷ (tag_in Singulation 0xfe, tag_in Singulation 0xfe, None)
    ∷ (tag_in Singulation 0xff, tag_in Singulation 0xff, None)
    ∷ (flagged_in Singulation 0x00, flagged_in Singulation 0x00, Some serial_sent)
    ∷ (tag_of Singulation false 0x01 Fresh (Some 0x00), tag_of Singulation false 0x01 Fading None, None)
    ∷ (tag_of Singulation false 0x00 Fading None, tag_in Singulation 0x00, Some serial_sent)
    ∷ (tag_in Ready 0x00, tag_in Ready 0x00, None) ∷ (tag_in Ready 0x01, tag_in Ready 0x01, None)
    ∷ (flagged_in Inventoried 0x00, flagged_in Inventoried 0x00, None)
    ∷ (tag_of Inventoried false 0x01 Clear (Some 0x37), tag_in Inventoried 0x01, None) ∷ [])

-- RESET, in each state, with the flag set and clear.
unfoldable pub Resets : Type 0
Resets =
    AllByRecursion {X = Tag × Tag × Option (List ℕ)}
    (λ (before, after, reply). Holds before "0ABF45" false after reply)
    ((tag_in Ready 0x00, tag_in Ready 0x00, None) ∷ (flagged_in Ready 0x00, tag_in Ready 0x00, None)
    ∷ (tag_in Ready 0xff, tag_in Ready 0xff, None) ∷ (flagged_in Ready 0xff, tag_in Ready 0xff, None)
    ∷ (tag_in Singulation 0x00, tag_in Ready 0x00, None) ∷ (flagged_in Singulation 0x00, tag_in Ready 0x00, None)
    ∷ (tag_in Singulation 0xff, tag_in Ready 0xff, None) ∷ (flagged_in Singulation 0xff, tag_in Ready 0xff, None)
    ∷ (tag_in Inventoried 0x00, tag_in Ready 0x00, None) ∷ (flagged_in Inventoried 0x00, tag_in Ready 0x00, None)
    ∷ (tag_in Inventoried 0xff, tag_in Ready 0xff, None) ∷ (flagged_in Inventoried 0xff, tag_in Ready 0xff, None)
    ∷ (tag_of Singulation false 0x01 Fresh (Some 0x08), tag_of Ready false 0x01 Fading None, None)
    ∷ (tag_of Singulation true 0x01 Fading (Some 0x08), tag_in Ready 0x01, None) ∷ [])

-- READ, at the ends of the memory and in each state, and with other serial numbers.
unfoldable pub Reads : Type 0
Reads =
    AllByRecursion {X = Tag × String × Tag × Option (List ℕ)}
    (λ (before, frame, after, reply). Holds before frame false after reply)
    (step (tag_in Ready 0x00) "0C4041424344454647007F7C" (tag_of Inventoried true 0x00 Clear (Some 0x00))
    (Some serial_sent)
    ∷ step (tag_in Ready 0xff) "0C40414243444546472FAAF1" (tag_of Inventoried true 0xff Clear (Some 0x2f))
    (Some (bytes "6F70717273747576737F"))
    ∷ step (tag_in Ready 0x00) "0C404142434445464730492F" (tag_of Inventoried true 0x00 Clear (Some 0x30))
    (Some (bytes "707172737475767768B6"))
    ∷ step (tag_in Ready 0x00) "0C404142434445464731590E" (tag_of Inventoried true 0x00 Clear (Some 0x31))
    (Some (bytes "7172737475767700C736"))
    ∷ step (tag_in Ready 0x00) "0C40414243444546473409AB" (tag_of Inventoried true 0x00 Clear (Some 0x34))
    (Some (bytes "74757677000000003E49"))
    ∷ step (tag_in Ready 0x00) "0C40414243444546473739C8" (tag_of Inventoried true 0x00 Clear (Some 0x37))
    (Some (bytes "77" ++ replicate 7 0x00 ++ bytes "B9D5"))
    ∷ step (tag_in Ready 0x00) "0C404142434445464738C827" (tag_of Inventoried true 0x00 Clear (Some 0x38))
    (Some (replicate 8 0x00 ++ bytes "CEC1"))
    ∷ step (tag_in Ready 0x00) "0C4041424344454647FF618C" (tag_of Inventoried true 0x00 Clear (Some 0xff))
    (Some (replicate 8 0x00 ++ bytes "CEC1"))
    ∷ step (tag_in Singulation 0x01) "0C404142434445464708FE74" (tag_of Inventoried true 0x01 Clear (Some 0x08))
    (Some (bytes "48494A4B4C4D4E4F28D4"))
    ∷ step (flagged_in Inventoried 0xff) "0C404142434445464708FE74" (tag_of Inventoried true 0xff Clear (Some 0x08))
    (Some (bytes "48494A4B4C4D4E4F28D4"))
    ∷ step (tag_of Ready false 0x00 Fresh (Some 0x37)) "0C4041424344454647007F7C"
    (tag_of Inventoried true 0x00 Fading (Some 0x00)) (Some serial_sent)
    ∷ step (tag_of Ready false 0x00 Fresh (Some 0x37)) "0C4041424344454648006F42" (tag_of Ready false 0x00 Fading None)
    None
    ∷ step (tag_of Ready false 0x00 Fresh (Some 0x37)) "0CFF4142434445464700AC98" (tag_of Ready false 0x00 Fading None)
    None
    ∷ [])

-- READ_FLEXIBLE, from one byte to 256, in the same ways.
unfoldable pub FlexibleReads : Type 0
FlexibleReads =
    AllByRecursion {X = Tag × String × Tag × Option (List ℕ)}
    (λ (before, frame, after, reply). Holds before frame false after reply)
    (step (tag_in Ready 0x00) "5140414243444546470000D71F" (tag_of Inventoried true 0x00 Clear (Some 0x00))
    (Some (bytes "4056CB"))
    ∷ step (tag_in Ready 0x00) "514041424344454647003791AB" (tag_of Inventoried true 0x00 Clear (Some 0x00))
    (Some (range_with_len 0x40 56 ++ bytes "451A"))
    ∷ step (tag_in Ready 0x00) "51404142434445464700386044" (tag_of Inventoried true 0x00 Clear (Some 0x00))
    (Some (range_with_len 0x40 56 ++ bytes "001C6E"))
    ∷ step (tag_in Ready 0x00) "51404142434445464700FFC9EF" (tag_of Inventoried true 0x00 Clear (Some 0x00))
    (Some (range_with_len 0x40 56 ++ replicate 200 0x00 ++ bytes "846C"))
    ∷ step (tag_in Ready 0x00) "51404142434445464734032E2D" (tag_of Inventoried true 0x00 Clear (Some 0x34))
    (Some (bytes "747576776CCC"))
    ∷ step (tag_in Ready 0x00) "51404142434445464737004B1D" (tag_of Inventoried true 0x00 Clear (Some 0x37))
    (Some (bytes "77107F"))
    ∷ step (tag_in Ready 0x00) "51404142434445464737015B3C" (tag_of Inventoried true 0x00 Clear (Some 0x37))
    (Some (bytes "7700733E"))
    ∷ step (tag_in Ready 0x00) "51404142434445464738005B23" (tag_of Inventoried true 0x00 Clear (Some 0x38))
    (Some (bytes "001E0F"))
    ∷ step (tag_in Ready 0x00) "514041424344454647FF01C4C1" (tag_of Inventoried true 0x00 Clear (Some 0xff))
    (Some (bytes "0000E2F0"))
    ∷ step (tag_in Singulation 0x01) "51404142434445464707015EA9" (tag_of Inventoried true 0x01 Clear (Some 0x07))
    (Some (bytes "4748BF67"))
    ∷ step (flagged_in Inventoried 0xff) "51404142434445464708005EB6" (tag_of Inventoried true 0xff Clear (Some 0x08))
    (Some (bytes "48D7C3"))
    ∷ step (tag_of Ready false 0x00 Fading (Some 0x37)) "5140414243444546470100E42E"
    (tag_of Inventoried true 0x00 Clear (Some 0x01)) (Some (bytes "4146EA"))
    ∷ step (tag_of Ready false 0x00 Fading (Some 0x37)) "5140414243444546480100C81F" (tag_in Ready 0x00) None
    ∷ step (tag_of Ready false 0x00 Fading (Some 0x37)) "51FF414243444546470100FB30" (tag_in Ready 0x00) None ∷ [])

-- VERIFY, with each mark, in the same ways.
unfoldable pub Verifies : Type 0
Verifies =
    AllByRecursion {X = Tag × String × Tag × Option (List ℕ)}
    (λ (before, frame, after, reply). Holds before frame false after reply)
    (step (tag_in Ready 0x00) "1D40414243444546470084AF" (tag_in Ready 0x00) None
    ∷ step (tag_of Ready false 0x00 Fading None) "1D40414243444546470084AF" (tag_in Ready 0x00) None
    ∷ step (tag_of Ready false 0x00 Fresh None) "1D40414243444546470084AF" (tag_of Inventoried true 0x00 Fading None)
    (Some (bytes "404142432C37"))
    ∷ step (tag_of Ready false 0x00 Fresh None) "1D404142434445464734F278" (tag_of Inventoried true 0x00 Fading None)
    (Some (bytes "747576776CCC"))
    ∷ step (tag_of Ready false 0x00 Fresh None) "1D404142434445464735E259" (tag_of Inventoried true 0x00 Fading None)
    (Some (bytes "757677007E69"))
    ∷ step (tag_of Ready false 0xff Fresh None) "1D404142434445464737C21B" (tag_of Inventoried true 0xff Fading None)
    (Some (bytes "770000006867"))
    ∷ step (tag_of Ready false 0x00 Fresh None) "1D40414243444546473833F4" (tag_of Inventoried true 0x00 Fading None)
    (Some (bytes "000000007B3F"))
    ∷ step (tag_of Ready false 0x00 Fresh None) "1D4041424344454647FF9A5F" (tag_of Inventoried true 0x00 Fading None)
    (Some (bytes "000000007B3F"))
    ∷ step (tag_of Singulation false 0x01 Fresh None) "1D40414243444546470805A7"
    (tag_of Inventoried true 0x01 Fading None) (Some (bytes "48494A4B08F4"))
    ∷ step (tag_of Inventoried true 0xff Fading (Some 0x08)) "1D40414243444546470805A7" (flagged_in Inventoried 0xff)
    None
    ∷ step (tag_of Inventoried false 0x00 Fresh (Some 0x08)) "1D40414243444546470805A7"
    (tag_of Inventoried true 0x00 Fading None) (Some (bytes "48494A4B08F4"))
    ∷ step (tag_of Inventoried false 0x00 Fresh (Some 0x08)) "1D4041424344454648081599"
    (tag_of Inventoried false 0x00 Fading None) None
    ∷ step (tag_of Inventoried false 0x00 Fresh (Some 0x08)) "1DFF4142434445464708D643"
    (tag_of Inventoried false 0x00 Fading None) None
    ∷ [])

-- WRITE, at the ends of the memory, off a multiple of 4, by single bits of the mask, and over locked bytes.
unfoldable pub Writes : Type 0
Writes =
    AllByRecursion {X = Tag × String × Tag × Option (List ℕ)}
    (λ (before, frame, after, reply). Holds before frame false after reply)
    (step (tag_in Ready 0x00) "1B404142434445464700F0010203049F83" (flagged_in Inventoried 0x00)
    (Some (bytes "FF00FF"))
    ∷ step (only_locked 0x37 (tag_in Ready 0x00)) "1B404142434445464700F0010203049F83"
    (record (only_locked 0x37 (tag_of Inventoried true 0x00 Fresh (Some 0x00))) { memory = plain_but 0x00 "01020304" })
    (Some (bytes "001E0F"))
    ∷ step (tag_in Ready 0xff) "1B404142434445464704FF01020304FCDB"
    (record (busy Inventoried) { memory = plain_but 0x04 "01020304"; permission = Some 0x04 }) (Some (bytes "001E0F"))
    ∷ step (tag_in Ready 0x00) "1B404142434445464734000102030489F8" (tag_of Inventoried true 0x00 Fresh (Some 0x34))
    (Some (bytes "001E0F"))
    ∷ step (tag_in Ready 0x00) "1B4041424344454647348001020304AB28"
    (record (tag_of Inventoried true 0x00 Fresh (Some 0x34)) { memory = plain_but 0x34 "01" }) (Some (bytes "001E0F"))
    ∷ step (tag_in Ready 0x00) "1B40414243444546473410010203048DA2"
    (record (tag_of Inventoried true 0x00 Fresh (Some 0x34)) { memory = plain_but 0x37 "04" }) (Some (bytes "001E0F"))
    ∷ step (tag_in Ready 0x00) "1B404142434445464734010102030423A9" (tag_of Inventoried true 0x00 Fresh (Some 0x34))
    (Some (bytes "001E0F"))
    ∷ step (tag_of Ready false 0x00 Fresh None) "1B404142434445464737FF010203041DB7" (flagged_in Inventoried 0x00)
    (Some (bytes "FF00FF"))
    ∷ step (tag_of Ready false 0x00 Fresh None) "1B404142434445464738FF01020304D8B4" (flagged_in Inventoried 0x00)
    (Some (bytes "FF00FF"))
    ∷ step (tag_in Ready 0x00) "1B4041424344454647FCFF010203046025" (flagged_in Inventoried 0x00)
    (Some (bytes "FF00FF"))
    ∷ step (tag_in Ready 0x00) "1B4041424344454647FFFF01020304AEC5" (flagged_in Inventoried 0x00)
    (Some (bytes "FF00FF"))
    ∷ step (tag_of Ready false 0x00 Fading None) "1B404142434445464702F00102030414C3" (flagged_in Inventoried 0x00)
    (Some (bytes "FF00FF"))
    ∷ step (only_locked 0x0b (tag_in Ready 0x00)) "1B404142434445464708E001020304969B"
    (only_locked 0x0b (flagged_in Inventoried 0x00)) (Some (bytes "FF00FF"))
    ∷ step (only_locked 0x0c (tag_in Ready 0x00)) "1B404142434445464708F00102030492C1"
    (record (only_locked 0x0c (tag_of Inventoried true 0x00 Fresh (Some 0x08))) { memory = plain_but 0x08 "01020304" })
    (Some (bytes "001E0F"))
    ∷ step (tag_in Singulation 0x01) "1B404142434445464708F00102030492C1"
    (record (tag_of Inventoried true 0x01 Fresh (Some 0x08)) { memory = plain_but 0x08 "01020304" })
    (Some (bytes "001E0F"))
    ∷ step (tag_of Inventoried true 0xff Clear (Some 0x0c)) "1B4041424344454647086001020304B44B"
    (record (busy Inventoried) { memory = plain_but 0x09 "0203"; permission = Some 0x08 }) (Some (bytes "001E0F"))
    ∷ step (tag_of Inventoried true 0xff Clear (Some 0x0c)) "1B40414243444546480860010203043EA2"
    (flagged_in Inventoried 0xff) None
    ∷ step (tag_of Inventoried true 0xff Clear (Some 0x0c)) "1BFF414243444546470860010203042360"
    (flagged_in Inventoried 0xff) None
    ∷ [])

-- LOCK, with no permission, another and the same, at the ends of the memory and in each state.
unfoldable pub LocksTried : Type 0
LocksTried =
    AllByRecursion {X = Tag × String × Tag × Option (List ℕ)}
    (λ (before, frame, after, reply). Holds before frame false after reply)
    (step (tag_in Inventoried 0x00) "0F4041424344454647084FBB" (tag_in Inventoried 0x00) (Some (bytes "001E0F"))
    ∷ step (tag_of Inventoried false 0x00 Clear (Some 0x08)) "0F4041424344454647084FBB"
    (record (tag_in Inventoried 0x00) { locks = locked_in (0x00 ∷ 0x01 ∷ 0x08 ∷ []); mark = Fresh })
    (Some (bytes "001E0F"))
    ∷ step (tag_of Inventoried false 0x00 Clear (Some 0x09)) "0F4041424344454647084FBB" (tag_in Inventoried 0x00)
    (Some (bytes "001E0F"))
    ∷ step (tag_of Inventoried false 0x00 Clear (Some 0x00)) "0F404142434445464700CEB3"
    (tag_of Inventoried false 0x00 Fresh None) (Some (bytes "001E0F"))
    ∷ step (tag_of Inventoried false 0xff Clear (Some 0x34)) "0F404142434445464734B864"
    (record (tag_in Inventoried 0xff) { locks = locked_in (0x00 ∷ 0x01 ∷ 0x34 ∷ []); mark = Fresh })
    (Some (bytes "001E0F"))
    ∷ step (tag_of Inventoried false 0x00 Clear (Some 0x37)) "0F4041424344454647378807"
    (record (tag_in Inventoried 0x00) { locks = locked_in (0x00 ∷ 0x01 ∷ 0x37 ∷ []); mark = Fresh })
    (Some (bytes "001E0F"))
    ∷ step (tag_of Inventoried false 0x00 Fresh (Some 0x38)) "0F40414243444546473879E8" (tag_in Inventoried 0x00)
    (Some (bytes "001E0F"))
    ∷ step (tag_of Inventoried false 0x00 Fresh (Some 0xff)) "0F4041424344454647FFD043" (tag_in Inventoried 0x00)
    (Some (bytes "001E0F"))
    ∷ step (tag_of Inventoried false 0x00 Fresh None) "0F4041424344454647084FBB" (tag_in Inventoried 0x00)
    (Some (bytes "001E0F"))
    ∷ step (tag_of Ready false 0x00 Clear (Some 0x08)) "0F4041424344454647084FBB" (tag_in Ready 0x00) None
    ∷ step (tag_of Singulation false 0x01 Fading (Some 0x08)) "0F4041424344454647084FBB" (tag_in Singulation 0x01) None
    ∷ step (tag_of Inventoried true 0x01 Fading (Some 0x02)) "0F404142434445464702EEF1"
    (record (tag_of Inventoried true 0x01 Fresh None) { locks = locked_in (0x00 ∷ 0x01 ∷ 0x02 ∷ []) })
    (Some (bytes "001E0F"))
    ∷ step (tag_of Inventoried true 0x01 Fading (Some 0x02)) "0F404142434445464802FECF" (flagged_in Inventoried 0x01)
    None
    ∷ step (tag_of Inventoried true 0x01 Fading (Some 0x02)) "0FFF41424344454647023D15" (flagged_in Inventoried 0x01)
    None
    ∷ [])

-- QLOCK, of bytes that are locked, that are not, and that are not there, with each mark.
unfoldable pub LockQueries : Type 0
LockQueries =
    AllByRecursion {X = Tag × String × Tag × Option (List ℕ)}
    (λ (before, frame, after, reply). Holds before frame false after reply)
    (step (tag_in Ready 0x00) "1140414243444546470063D1" (tag_of Inventoried true 0x00 Clear (Some 0x00))
    (Some (bytes "FE10DE"))
    ∷ step (tag_in Ready 0x00) "1140414243444546470173F0" (tag_of Inventoried true 0x00 Clear (Some 0x01))
    (Some (bytes "FE10DE"))
    ∷ step (tag_in Ready 0x00) "114041424344454647024393" (tag_of Inventoried true 0x00 Clear (Some 0x02))
    (Some (bytes "001E0F"))
    ∷ step (tag_of Ready false 0x00 Fresh None) "1140414243444546470063D1"
    (tag_of Inventoried true 0x00 Fading (Some 0x00)) (Some (bytes "FF00FF"))
    ∷ step (tag_of Ready false 0x00 Fresh None) "114041424344454647024393"
    (tag_of Inventoried true 0x00 Fading (Some 0x02)) (Some (bytes "010E2E"))
    ∷ step (tag_of Ready false 0x00 Fading None) "114041424344454647024393"
    (tag_of Inventoried true 0x00 Clear (Some 0x02)) (Some (bytes "001E0F"))
    ∷ step (tag_in Ready 0xff) "114041424344454647372565" (record (busy Inventoried) { mark = Clear })
    (Some (bytes "001E0F"))
    ∷ step (tag_in Ready 0x00) "11404142434445464738D48A" (tag_of Inventoried true 0x00 Clear (Some 0x38))
    (Some (bytes "FE10DE"))
    ∷ step (tag_of Ready false 0x00 Fresh None) "114041424344454647FF7D21"
    (tag_of Inventoried true 0x00 Fading (Some 0xff)) (Some (bytes "FF00FF"))
    ∷ step (only_locked 0x37 (tag_in Singulation 0x01)) "114041424344454647372565"
    (only_locked 0x37 (tag_of Inventoried true 0x01 Clear (Some 0x37))) (Some (bytes "FE10DE"))
    ∷ step (only_locked 0x36 (flagged_in Inventoried 0xff)) "114041424344454647372565"
    (record (only_locked 0x36 (busy Inventoried)) { mark = Clear }) (Some (bytes "001E0F"))
    ∷ step (tag_of Inventoried false 0x00 Fading (Some 0x38)) "114041424344454647341506"
    (tag_of Inventoried true 0x00 Clear (Some 0x34)) (Some (bytes "001E0F"))
    ∷ step (tag_of Inventoried false 0x00 Fading (Some 0x38)) "114041424344454648340538" (tag_in Inventoried 0x00) None
    ∷ step (tag_of Inventoried false 0x00 Fading (Some 0x38)) "11FF4142434445464734C6E2" (tag_in Inventoried 0x00) None
    ∷ [])

-- Stubs, a wrong check value, an unknown code and wrong lengths.
unfoldable pub NoFrames : Type 0
NoFrames =
    AllByRecursion {X = Tag × String × Bool × Tag × Option (List ℕ)}
    (λ (before, frame, coin, after, reply). Holds before frame coin after reply)
    ((tag_of Singulation true 0xff Fresh (Some 0x08), "", false, tag_of Ready true 0xff Fading None, None)
    ∷ (tag_of Inventoried true 0xff Fresh (Some 0x08), "", false, tag_of Ready true 0xff Fading None, None)
    ∷ (tag_of Singulation true 0xff Fresh (Some 0x08), "089F", false, tag_of Ready true 0xff Fading None, None)
    ∷ (tag_of Inventoried true 0xff Fresh (Some 0x08), "089F", false, tag_of Ready true 0xff Fading None, None)
    ∷ (tag_of Singulation true 0xff Fresh (Some 0x08), "089F06", false, tag_of Ready true 0xff Fading None, None)
    ∷ (tag_of Inventoried true 0xff Fresh (Some 0x08), "089F06", false, tag_of Ready true 0xff Fading None, None)
    ∷ (tag_of Singulation true 0xff Fresh (Some 0x08), "010E2E", false, tag_of Singulation true 0xff Fading None, None)
    ∷ (tag_of Inventoried true 0xff Fresh (Some 0x08), "010E2E", false, tag_of Inventoried true 0xff Fading None, None)
    ∷ (tag_of Singulation true 0xff Fresh (Some 0x08), "001E0F", false, tag_of Singulation true 0xff Fading None, None)
    ∷ (tag_of Inventoried true 0xff Fresh (Some 0x08), "001E0F", false, tag_of Inventoried true 0xff Fading None, None)
    ∷ (
      tag_of Singulation true 0xff Fresh (Some 0x08),
      "08006B59",
      false,
      tag_of Singulation true 0xff Fading None,
      None,
    )
    ∷ (
      tag_of Inventoried true 0xff Fresh (Some 0x08),
      "08006B59",
      false,
      tag_of Inventoried true 0xff Fading None,
      None,
    )
    ∷ (tag_of Ready false 0x00 Fading None, "", true, tag_in Ready 0x00, None) ∷ [])

-- Tables at the limits, by the second implementation, which wrote this file. Assumes nothing.
use Prim.Native.String.{String}
use Rattle.std.specs.Prelude.{◌≡◌, ℕ, List, [], ◌∷◌, Some, None, Option}
use Rattle.std.specs.List.{AllByRecursion}
use Rattle.record.specs.declared.State.TheVariants.{Ready, Singulation, Inventoried}
use Rattle.record.specs.declared.Tag.{Tag}
use Rattle.field.specs.Sends.{after_gap_all}
use Rattle.bench.specs.Tables.{place_of}
use Rattle.worked_cases.specs.Words.{bytes, flagged, numbered, numbered_from}

-- Tables of none to 64 tags, a serial number, and the first place that has it.
unfoldable pub Finds : Type 0
Finds =
    AllByRecursion {X = List Tag × String × Option ℕ} (λ (table, serial, place). place_of table (bytes serial) ≡ place)
    (([], "0000000000000000", None) ∷ (numbered 0x01 Singulation 0x00 ∷ [], "0000000000000001", Some 0)
    ∷ (numbered 0x01 Singulation 0x00 ∷ [], "0000000000000002", None)
    ∷ (numbered_from 0x01 2 Singulation 0x00, "0000000000000002", Some 1)
    ∷ (numbered_from 0x01 2 Singulation 0x00, "0100000000000002", None)
    ∷ (
      numbered 0x02 Ready 0x00 ∷ numbered 0x01 Singulation 0xff ∷ numbered 0x01 Inventoried 0x00 ∷ [],
      "0000000000000001",
      Some 1,
    )
    ∷ (
      numbered 0x02 Ready 0x00 ∷ numbered 0x01 Singulation 0xff ∷ numbered 0x01 Inventoried 0x00 ∷ [],
      "0000000000000002",
      Some 0,
    )
    ∷ (numbered_from 0x00 64 Singulation 0x00, "0000000000000000", Some 0)
    ∷ (numbered_from 0x00 64 Singulation 0x00, "000000000000003F", Some 63)
    ∷ (numbered_from 0x00 64 Singulation 0x00, "0000000000000040", None) ∷ [])

-- Tags, a gap in microseconds, and the tags after it.
unfoldable pub GapsForAll : Type 0
GapsForAll =
    AllByRecursion {X = List Tag × ℕ × List Tag}
    (λ (before, microseconds, after). after_gap_all microseconds before ≡ after)
    (([], 249, []) ∷ ([], 250, []) ∷ ([], 3999999, []) ∷ ([], 4000000, [])
    ∷ (flagged (numbered 0x01 Inventoried 0xff) ∷ [], 249, flagged (numbered 0x01 Inventoried 0xff) ∷ [])
    ∷ (flagged (numbered 0x01 Inventoried 0xff) ∷ [], 250, flagged (numbered 0x01 Ready 0x00) ∷ [])
    ∷ (flagged (numbered 0x01 Inventoried 0xff) ∷ [], 3999999, flagged (numbered 0x01 Ready 0x00) ∷ [])
    ∷ (flagged (numbered 0x01 Inventoried 0xff) ∷ [], 4000000, numbered 0x01 Ready 0x00 ∷ [])
    ∷ (
      flagged (numbered 0x01 Inventoried 0xff) ∷ numbered 0x02 Singulation 0x01 ∷ [],
      249,
      flagged (numbered 0x01 Inventoried 0xff) ∷ numbered 0x02 Singulation 0x01 ∷ [],
    )
    ∷ (
      flagged (numbered 0x01 Inventoried 0xff) ∷ numbered 0x02 Singulation 0x01 ∷ [],
      250,
      flagged (numbered 0x01 Ready 0x00) ∷ numbered 0x02 Ready 0x00 ∷ [],
    )
    ∷ (
      flagged (numbered 0x01 Inventoried 0xff) ∷ numbered 0x02 Singulation 0x01 ∷ [],
      3999999,
      flagged (numbered 0x01 Ready 0x00) ∷ numbered 0x02 Ready 0x00 ∷ [],
    )
    ∷ (
      flagged (numbered 0x01 Inventoried 0xff) ∷ numbered 0x02 Singulation 0x01 ∷ [],
      4000000,
      numbered_from 0x01 2 Ready 0x00,
    )
    ∷ [])

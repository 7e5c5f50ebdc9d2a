-- Fingerprints: what is left of bytes and of records in a number of 64 bits (FNV-1a). Assumes nothing.
use Rattle.std.specs.Prelude.{ℕ, ◌*◌, ◌%◌, ◌^◌, List, [], ◌∷◌, ◌++◌, map, fold, bit_xor, is_some, unwrap_or}
use Rattle.std.specs.Int.{from_bool}
use Rattle.record.specs.declared.Tag.{Tag}
use Rattle.record.specs.Records.{mark_number}
use Rattle.record.specs.Alike.{state_number}

-- The fingerprint of no bytes.
abbrev pub blank : ℕ
blank = 0xcbf29ce484222325

-- One byte more.
unfoldable pub byte_mixed : ℕ → ℕ → ℕ
byte_mixed value byte = bit_xor value byte * 0x100000001b3 % 2 ^ 64

-- The fingerprint of some bytes.
abbrev pub fingerprint : List ℕ → ℕ
fingerprint bytes = fold byte_mixed blank bytes

-- Every part of a record, as bytes.
abbrev pub tag_bytes : Tag → List ℕ
tag_bytes t =
    t.memory ++ map from_bool t.locks
    ++ (state_number t.state ∷ from_bool t.identified ∷ t.counter ∷ mark_number t.mark ∷ from_bool (is_some t.permission) ∷ unwrap_or t.permission 0 ∷ [])

-- One record more.
unfoldable pub tag_mixed : ℕ → Tag → ℕ
tag_mixed value t = fold byte_mixed value (tag_bytes t)

-- The fingerprint of some records, one after the other.
abbrev pub tags_fingerprint : List Tag → ℕ
tags_fingerprint tags = fold tag_mixed blank tags

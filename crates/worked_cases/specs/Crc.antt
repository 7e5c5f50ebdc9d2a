-- The check value at the limits, by the second implementation, which wrote this file. Assumes nothing.
use Prim.Native.String.{String}
use Rattle.std.specs.Prelude.{◌≡◌, ℕ, [], ◌∷◌}
use Rattle.std.specs.List.{AllByRecursion}
use Rattle.crc.specs.Check.{bit_taken, byte_taken, check_value, sealed}
use Rattle.worked_cases.specs.Words.{bytes}

-- A register, a bit, and the register after it.
unfoldable pub BitsTaken : Type 0
BitsTaken =
    AllByRecursion {X = ℕ × ℕ × ℕ} (λ (before, bit, after). bit_taken before bit ≡ after)
    ((0x0000, 0, 0x0000) ∷ (0x0000, 1, 0x1021) ∷ (0x0001, 0, 0x0002) ∷ (0x0001, 1, 0x1023) ∷ (0x7fff, 0, 0xfffe)
    ∷ (0x7fff, 1, 0xefdf) ∷ (0x8000, 0, 0x1021) ∷ (0x8000, 1, 0x0000) ∷ (0x8001, 0, 0x1023) ∷ (0x8001, 1, 0x0002)
    ∷ (0xffff, 0, 0xefdf) ∷ (0xffff, 1, 0xfffe) ∷ [])

-- A register, a byte, and the register after it.
unfoldable pub BytesTaken : Type 0
BytesTaken =
    AllByRecursion {X = ℕ × ℕ × ℕ} (λ (before, byte, after). byte_taken before byte ≡ after)
    ((0x0000, 0x00, 0x0000) ∷ (0x0000, 0x01, 0x1021) ∷ (0x0000, 0x80, 0x9188) ∷ (0x0000, 0xff, 0x1ef0)
    ∷ (0x8000, 0x00, 0x9188) ∷ (0x8000, 0x01, 0x81a9) ∷ (0x8000, 0x80, 0x0000) ∷ (0x8000, 0xff, 0x8f78)
    ∷ (0xffff, 0x00, 0xe1f0) ∷ (0xffff, 0x01, 0xf1d1) ∷ (0xffff, 0x80, 0x7078) ∷ (0xffff, 0xff, 0xff00) ∷ [])

-- Messages from none to the longest in a frame, their check values, and the two as they are sent.
unfoldable pub SealedMessages : Type 0
SealedMessages =
    AllByRecursion {X = String × ℕ × String}
    (λ (message, value, whole). (check_value (bytes message) ≡ value) × (sealed (bytes message) ≡ bytes whole))
    (("", 0x0000, "0000") ∷ ("00", 0x1e0f, "001E0F") ∷ ("01", 0x0e2e, "010E2E") ∷ ("08", 0x9f07, "089F07")
    ∷ ("7F", 0x9177, "7F9177") ∷ ("80", 0x8f87, "808F87") ∷ ("FE", 0x10de, "FE10DE") ∷ ("FF", 0x00ff, "FF00FF")
    ∷ ("0000", 0xe2f0, "0000E2F0") ∷ ("FFFF", 0xffff, "FFFFFFFF") ∷ ("0970D9", 0xffff, "0970D9FFFF")
    ∷ ("098F26", 0xe2f0, "098F26E2F0") ∷ ("0102030405060708091011", 0x86b9, "010203040506070809101186B9")
    ∷ ("FFFFFFFFFFFFFFFFFFFFFFFFFFFFFF", 0x2920, "FFFFFFFFFFFFFFFFFFFFFFFFFFFFFF2920") ∷ [])

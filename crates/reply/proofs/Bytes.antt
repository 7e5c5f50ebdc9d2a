-- Bytes of a memory, and how long a reply is. Assumes nothing.
use Rattle.std.proofs.Common.{◌≡◌, ℕ, ◌+◌, List, [], ◌∷◌, ◌++◌, length, get_or, refl}
use Rattle.std.proofs.lemmas.List.FromFn.{length-map-range_with_len, map-range_with_len_more}
use Rattle.std.proofs.lemmas.List.{length-append}
use Rattle.crc.specs.Check.{check_value, high_byte_first, sealed}
use Rattle.record.specs.Records.{bytes_from}

pub bytes_from_none : (memory : List ℕ) (a : ℕ) → bytes_from memory a 0 ≡ []
unfolding bytes_from
bytes_from_none memory a = refl

pub bytes_from_more : (memory : List ℕ) (a n : ℕ) → bytes_from memory a (n + 1) ≡ bytes_from memory a n ++ get_or memory (a + n) 0 ∷ []
unfolding bytes_from
bytes_from_more memory a n = map-range_with_len_more (λ i. get_or memory i 0) a n (a + n) refl

pub length-bytes_from : (memory : List ℕ) (a n : ℕ) → length (bytes_from memory a n) ≡ n
unfolding bytes_from
length-bytes_from memory a n = length-map-range_with_len (λ i. get_or memory i 0) a n

pub length-sealed : (bytes : List ℕ) → length (sealed bytes) ≡ length bytes + 2
unfolding sealed
length-sealed bytes = length-append bytes (high_byte_first (check_value bytes))

-- The listings, computed. What a text spells is what it decodes to. Assumes nothing.
use Rattle.std.proofs.Common.{◌≡◌, ℕ, false, List, [], Ok, inl, inr, arith}
use Rattle.std.specs.Int.{w64, from_be_bytes}
use Rattle.std.specs.Result.{result_unwrap_or}
use Rattle.hex.specs.Hex.{decode_of, decode_pairs, decode_sized}
use Rattle.notation.specs.Hexadecimal.{has_small}
use Rattle.notation.proofs.Capitals.{spells_decoded, spells_sized}
use Rattle.field_cases.specs.Fingerprints.{byte_mixed, tag_mixed}
use Rattle.field_cases.specs.Listings.{BytesTaken, TagsTaken, SplitWords, SingleWords, SpeltRows, SpeltSendings, PartsTaken, NodesNested}
use Rattle.field_cases.specs.Questions.{SpellsRow}

abbrev decoded : List ℕ → List ℕ
decoded text = result_unwrap_or (decode_of text) []

row_decoded : (text : List ℕ) (row : ℕ) → has_small text ≡ false → decode_sized text 8 ≡ Ok (decoded text) → row ≡ from_be_bytes w64 (decoded text) → SpellsRow text row
row_decoded text row small h same = (decoded text, spells_sized text 8 (decoded text) small h, same)

pub bytes_taken : BytesTaken
unfolding BytesTaken byte_mixed
bytes_taken = search

pub tags_taken : TagsTaken
unfolding TagsTaken byte_mixed tag_mixed
tags_taken = search

pub split_words : SplitWords
unfolding SplitWords
split_words = search

pub single_words : SingleWords
unfolding SingleWords
single_words = search

pub spelt_rows : SpeltRows
unfolding SpeltRows decode_pairs
spelt_rows = search (row_decoded)

pub spelt_sendings : SpeltSendings
unfolding SpeltSendings decode_pairs
spelt_sendings = search (row_decoded, spells_decoded, inl, inr, arith)

pub parts_taken : PartsTaken
unfolding PartsTaken
parts_taken = search

pub nodes_nested : NodesNested
unfolding NodesNested
nodes_nested = search

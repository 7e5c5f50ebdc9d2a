-- Bytes put at the front of a buffer. Assumes nothing.
use Rattle.std.proofs.Common.{◌≡◌, ℕ, ◌+◌, ◌-◌, ◌≤◌, ◌<◌, Bool, true, false, cond, nat_le, List, ◌++◌, length, is_ok, Some, None, Ok, Err, Result, sym, ap, ◌∙◌, subst, append_assoc, arith, le-ltb, lt-ltb}
use borrow.Author.Tests.{true-leb, false-leb}
use Rattle.std.proofs.lemmas.List.{length-append}
use Rattle.std.specs.Result.{result_or}
use Rattle.protocol.specs.declared.refusal.Refusal.{Refusal}
use Rattle.protocol.specs.declared.refusal.Refusal.TheVariants.{Buffer}
use Rattle.slice_vec.specs.declared.vec.Full.{Full}
use Rattle.slice_vec.specs.declared.vec.SliceVec.{SliceVec}
use Rattle.slice_vec.specs.Filling.{items_of, capacity_of, Behind}
use Rattle.slice_vec.proofs.Fillings.{behind_more, rows_fit}
use Rattle.sheet.specs.Fronts.{Filled}
use Rattle.sheet.specs.Papers.{Printed}

-- How many more bytes there is room for.
abbrev pub room_left : SliceVec ℕ → ℕ
room_left front = capacity_of front - length (items_of front)

module _ (a b : SliceVec ℕ) (bytes : List ℕ) (behind : Behind a b) where
  all_put : true ≡ nat_le (length (items_of a) + length bytes) (capacity_of a) → items_of b ≡ items_of a ++ bytes → Printed room_left Filled bytes a b (Ok tt)
  all_put fits rows =
      let few : length (items_of a) + length bytes ≤ capacity_of a = true-leb _ _ fits in
      let size : length (items_of b) ≡ length (items_of a) + length bytes = ap length rows ∙ length-append (items_of a) bytes in
      record {
        answer = sym (ap (λ (t : Bool). cond t (Some 5) None) (le-ltb (room_left a) (length bytes) (omega arith)));
        left = λ ok. omega (arith, behind.room);
        shows = λ ok start text h.
            record {
              bytes = rows ∙ ap (λ (xs : List ℕ). xs ++ bytes) h.bytes ∙ append_assoc (items_of start) text bytes;
              behind = behind_more start a b h.behind behind (omega arith);
            };
      }

  none_put : false ≡ nat_le (length (items_of a) + length bytes) (capacity_of a) → Printed room_left Filled bytes a b (Err Buffer)
  none_put fits =
      let many : capacity_of a < length (items_of a) + length bytes = false-leb _ _ fits in
      let inside : length (items_of a) ≤ capacity_of a = rows_fit a in
      record {
        answer = sym (ap (λ (t : Bool). cond t (Some 5) None) (lt-ltb (room_left a) (length bytes) (omega arith)));
        left = λ ok. cc;
        shows = λ ok. cc;
      }

  pub put : (r : Result (Unit {0}) Full) (told : Result (Unit {0}) Refusal) → is_ok r ≡ nat_le (length (items_of a) + length bytes) (capacity_of a)
      → items_of b ≡ cond (is_ok r) (items_of a ++ bytes) (items_of a) → told ≡ result_or r (Err Buffer) → Printed room_left Filled bytes a b told
  put (Ok x) told fits rows e = subst (Printed room_left Filled bytes a b) (sym e) (all_put fits rows)
  put (Err x) told fits rows e = subst (Printed room_left Filled bytes a b) (sym e) (none_put fits)

-- Lines read back as the numbers that they were printed from. Assumes nothing.
use Rattle.std.proofs.Common.{◌≡◌, ℕ, zero, suc, ◌+◌, ◌-◌, ◌*◌, ◌/◌, ◌%◌, ◌^◌, ◌<◌, ◌≤◌, List, [], ◌∷◌, ◌++◌, length, take, drop, decimal, fold, sym, refl, ap, ap₂, ◌∙◌, append_assoc, arith}
use Rattle.std.specs.List.{AllByRecursion}
use Rattle.std.proofs.Math.Seq.{take-append_seam, drop-append_seam}
use Rattle.std.proofs.lemmas.Bool.Decides.{nat_tests}
use Rattle.std.proofs.lemmas.Fmt.{decimal_by_steps, length-decimal-le}
use Rattle.std.proofs.lemmas.List.{length-append, length-replicate}
use Rattle.std.proofs.lemmas.List.Sums.{fold-append}
use Rattle.sheet.specs.Sheets.{blanks, column, columns}
use Rattle.sheet.specs.Readings.{read_byte, read_column, read_columns, LinesReadBack}

-- A digit behind a number.
read_digit : (m d : ℕ) → d < 10 → read_byte m (48 + d) ≡ m * 10 + d
read_digit m d h = grind (arith, nat_tests)

read_decimal : (n : ℕ) → n < 2 ^ 64 → read_column (decimal n) ≡ n
unfolding read_column
read_decimal =
    decimal_by_steps (λ m ds. fold read_byte 0 ds ≡ m) (λ m h. read_digit 0 m h ∙ omega arith)
    (λ m ds h e. fold-append read_byte 0 ds ((48 + m % 10) ∷ []) ∙ ap (λ (k : ℕ). read_byte k (48 + m % 10)) e
    ∙ read_digit (m / 10) (m % 10) (omega arith) ∙ omega arith)

read_blanks : (count : ℕ) (bytes : List ℕ) → read_column (blanks count ++ bytes) ≡ read_column bytes
unfolding read_column
read_blanks zero bytes = refl
read_blanks (suc count) bytes = read_blanks count bytes

read_back : (width n : ℕ) → n < 2 ^ 64 → read_column (column width n) ≡ n
read_back width n h = read_blanks (width - length (decimal n)) (decimal n) ∙ read_decimal n h

length-column : (width n : ℕ) → 0 < width → n < 10 ^ width → n < 2 ^ 64 → length (column width n) ≡ width
length-column width n some fits small =
    let short : length (decimal n) ≤ width = length-decimal-le width n some fits small in
    length-append (blanks (width - length (decimal n))) (decimal n)
    ∙ ap (λ (k : ℕ). k + length (decimal n)) (length-replicate (width - length (decimal n)) 32) ∙ omega arith

take_column : (width : ℕ) (a b : List ℕ) → length a ≡ width → take width (a ++ b) ≡ a
take_column width a b e = ap (λ (k : ℕ). take k (a ++ b)) (sym e) ∙ take-append_seam a b

drop_column : (width : ℕ) (a b : List ℕ) → length a ≡ width → drop width (a ++ b) ≡ b
drop_column width a b e = ap (λ (k : ℕ). drop k (a ++ b)) (sym e) ∙ drop-append_seam a b

read_columns_back : (width : ℕ) (numbers rest : List ℕ) → 0 < width → AllByRecursion (λ n. (n < 10 ^ width) × (n < 2 ^ 64)) numbers
    → read_columns width (length numbers) (columns width numbers ++ rest) ≡ numbers
unfolding columns read_columns
read_columns_back width [] rest some fits = refl
read_columns_back width (n ∷ ns) rest some (here, more) =
    let size : length (column width n) ≡ width = length-column width n some here.0 here.1 in
    let behind : List ℕ = columns width ns ++ rest in
    let split : columns width (n ∷ ns) ++ rest ≡ column width n ++ behind = append_assoc (column width n) (columns width ns) rest in
    ap₂ (λ (x : ℕ) (xs : List ℕ). x ∷ xs)
    (ap (λ (bytes : List ℕ). read_column (take width bytes)) split ∙ ap read_column (take_column width (column width n) behind size)
    ∙ read_back width n here.1)
    (ap (λ (bytes : List ℕ). read_columns width (length ns) (drop width bytes)) split
    ∙ ap (read_columns width (length ns)) (drop_column width (column width n) behind size) ∙ read_columns_back width ns rest some more)

length-columns : (width : ℕ) (numbers : List ℕ) → 0 < width → AllByRecursion (λ n. (n < 10 ^ width) × (n < 2 ^ 64)) numbers
    → length (columns width numbers) ≡ width * length numbers
unfolding columns
length-columns width [] some fits = omega arith
length-columns width (n ∷ ns) some (here, more) =
    let size : length (column width n) ≡ width = length-column width n some here.0 here.1 in
    length-append (column width n) (columns width ns) ∙ ap₂ (λ (a b : ℕ). a + b) size (length-columns width ns some more) ∙ omega arith

pub lines_read_back : LinesReadBack
unfolding LinesReadBack
lines_read_back width numbers some fits =
    record {
      same = read_columns_back width numbers (10 ∷ []) some fits;
      size = length-append (columns width numbers) (10 ∷ []) ∙ ap (λ (k : ℕ). k + 1) (length-columns width numbers some fits);
    }

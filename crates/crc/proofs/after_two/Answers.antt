use Rattle.std.proofs.Common.{◌≡◌, ℕ, ◌+◌, ◌*◌, ◌/◌, ◌%◌, get_or, sym, ap, ◌∙◌, ap₂, arith}
use lib.Bits.{bit_xor}
use Rattle.crc.specs.Check.{byte_taken}
use Rattle.crc.proofs.Moves.{two_taken_lem}
use Rattle.crc.proofs.after_two.Goals as goal

pub returns : goal.returns
returns c =
    let r : ℕ = c.args.register in
    let h : ℕ = r / 256 % 256 in
    let l : ℕ = r % 256 in
    let x : ℕ = c.args.first in
    let y : ℕ = c.args.second in
    let whole : h * 256 + l ≡ r = omega arith in
    let high : get_or c.to_be_bytes.result 0 0 ≡ h = ap (λ b. get_or b 0 0) c.to_be_bytes.ensures in
    let low : get_or c.to_be_bytes.result 1 0 ≡ l = ap (λ b. get_or b 1 0) c.to_be_bytes.ensures in
    ap₂ bit_xor
    (c.from_two.ensures ∙ ap (λ (q : ℕ). byte_taken (byte_taken 0 (bit_xor q x)) 0) high)
    (c.from_empty.ensures ∙ ap (λ (q : ℕ). byte_taken 0 (bit_xor q y)) low)
    ∙ sym (two_taken_lem h l x y (omega arith) (omega arith) (omega arith) (omega arith))
    ∙ ap (λ (q : ℕ). byte_taken (byte_taken q x) y) whole

use Rattle.std.proofs.Common.{◌≡◌, ℕ, ◌+◌, ◌*◌, ◌/◌, ◌%◌, get_or, sym, ap, ◌∙◌, ap₂, arith}
use lib.Bits.{bit_xor}
use Rattle.crc.specs.Check.{byte_taken}
use Rattle.crc.proofs.Moves.{byte_taken_lem}
use Rattle.crc.proofs.after_byte.Goals as goal

pub returns : goal.returns
returns c =
    let r : ℕ = c.args.register in
    let h : ℕ = r / 256 % 256 in
    let l : ℕ = r % 256 in
    let x : ℕ = c.args.byte in
    let whole : h * 256 + l ≡ r = omega arith in
    let high : get_or c.to_be_bytes.result 0 0 ≡ h = ap (λ b. get_or b 0 0) c.to_be_bytes.ensures in
    let low : get_or c.to_be_bytes.result 1 0 ≡ l = ap (λ b. get_or b 1 0) c.to_be_bytes.ensures in
    ap₂ bit_xor (ap (λ (y : ℕ). y * 256) (c.from.ensures ∙ low)) (c.from_empty.ensures ∙ ap (λ (y : ℕ). byte_taken 0 (bit_xor y x)) high)
    ∙ sym (byte_taken_lem h l x (omega arith) (omega arith) (omega arith)) ∙ ap (λ (y : ℕ). byte_taken y x) whole

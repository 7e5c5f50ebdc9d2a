use Rattle.std.proofs.Common.{◌≡◌, ℕ, ◌*◌, Bool, true, false, cond, sym, refl, ap, ◌∙◌}
use mir.Val.{bool_byte}
use lib.Bits.{bit_xor}
use Rattle.crc.specs.Check.{bit_taken, moved_up}
use Rattle.crc.proofs.Moves.{moved_low, moved_high}
use Rattle.crc.proofs.after_bit.Goals as goal

number : (b : Bool) → bool_byte b ≡ cond b 1 0
number true = refl
number false = refl

-- The bit that met the register, as a number.
known : (r n : ℕ) (b : Bool) → n ≡ bool_byte b → moved_up (bit_xor r (n * 0x8000)) ≡ bit_taken r (cond b 1 0)
unfolding bit_taken
known r n b e = ap (λ (y : ℕ). moved_up (bit_xor r (y * 0x8000))) (e ∙ number b)

pub returns-then-met-lt-TOP : goal.returns-then-met-lt-TOP
returns-then-met-lt-TOP c =
    sym (moved_low _ c.if-met-lt-TOP.true) ∙ known c.args.register c.from.result c.args.bit c.from.ensures

pub returns-else-met-lt-TOP : goal.returns-else-met-lt-TOP
returns-else-met-lt-TOP c =
    sym (moved_high _ c.if-met-lt-TOP.false) ∙ known c.args.register c.from.result c.args.bit c.from.ensures

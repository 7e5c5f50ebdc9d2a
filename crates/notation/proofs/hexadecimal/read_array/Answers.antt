-- What the crate `hex` reads is what a text without small letters spells.
use Rattle.std.proofs.Common.{◌≡◌, refl, sym, ◌∙◌, false}
use Rattle.notation.specs.Hexadecimal.{has_small}
use Rattle.notation.proofs.Capitals.{spelt_is_large, read_sized}
use Rattle.notation.proofs.hexadecimal.read_array.Goals as goal

pub returns-then-has_small : goal.returns-then-has_small
returns-then-has_small g c = record { array = (refl, λ bytes s. cc (spelt_is_large c.args.text.now bytes s.0)) }

pub returns : goal.returns
returns g c =
    let small : has_small c.args.text.now ≡ false = sym c.has_small.ensures.small ∙ c.if-has_small.false in
    record { array = rw c.or.ensures (read_sized c.args.text.now g.row.N c.from_hex.result small c.from_hex.ensures) }

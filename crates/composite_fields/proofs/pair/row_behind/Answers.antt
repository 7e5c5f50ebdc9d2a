use Rattle.std.proofs.Common.{◌^◌, ◌<◌, ◌≤◌, sym, arith, lit<}
use native.Mathlib.Nat.{div-eq_of_lt, pow-le-pow_right}
use Rattle.composite_fields.proofs.pair.row_behind.Goals as goal

pub returns-else-places-lt64 : goal.returns-else-places-lt64
returns-else-places-lt64 c =
    let far : 2 ^ 64 ≤ 2 ^ c.args.places = pow-le-pow_right (lit< tt) c.if-places-lt64.false in
    let low : c.args.row < 2 ^ c.args.places = omega arith in
    sym (div-eq_of_lt low)

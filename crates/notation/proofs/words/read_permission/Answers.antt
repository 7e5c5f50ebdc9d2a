-- What is no dash and no byte, is no permission.
use Rattle.std.proofs.Common.{sym, ◌∙◌}
use Rattle.std.proofs.lemmas.Result.{err_from_is_err_and}
use Rattle.notation.proofs.Capitals.{refused_permission}
use Rattle.notation.proofs.words.read_permission.Goals as goal

pub returns-in_err-read_byte : goal.returns-in_err-read_byte
returns-in_err-read_byte c =
    let plain = sym c.eq.ensures ∙ c.if-eq.false in
    let p = err_from_is_err_and c.from_residual.result c.from_residual.ensures.1 in
    record { permission = rw p.1 (p.2 ∙ c.in_err-read_byte.ensures.byte.0, refused_permission c.args.text.now plain c.in_err-read_byte.ensures.byte.1) }

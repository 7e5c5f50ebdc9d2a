-- Each word that is wrong, behind those that are right.
use Rattle.std.proofs.Common.{sym, subst}
use Rattle.std.proofs.lemmas.Result.{err_from_is_err_and}
use Rattle.notation.specs.Words.{IsNoParts}
use Rattle.notation.proofs.Parts.{no_flag, no_counter, no_mark, no_permission}
use Rattle.notation.proofs.words.read_parts.Goals as goal

pub returns-in_err-next_bit-clause-err : goal.returns-in_err-next_bit-clause-err
returns-in_err-next_bit-clause-err c =
    let p = err_from_is_err_and c.from_residual-in_err-next_bit.result c.from_residual-in_err-next_bit.ensures.1 in
    rw p.1 (subst (IsNoParts c.args.words.now c.next_bit.new.words) (sym p.2)
    (no_flag _ _ _ c.in_ok-next_state.ensures _ _ c.in_err-next_bit.ensures))

pub returns-in_err-next_byte-clause-err : goal.returns-in_err-next_byte-clause-err
returns-in_err-next_byte-clause-err c =
    let p = err_from_is_err_and c.from_residual-in_err-next_byte.result c.from_residual-in_err-next_byte.ensures.1 in
    rw p.1 (subst (IsNoParts c.args.words.now c.next_byte.new.words) (sym p.2)
    (no_counter _ _ _ c.in_ok-next_state.ensures _ _ c.in_ok-next_bit.ensures _ _ c.in_err-next_byte.ensures))

pub returns-in_err-next_mark-clause-err : goal.returns-in_err-next_mark-clause-err
returns-in_err-next_mark-clause-err c =
    let p = err_from_is_err_and c.from_residual-in_err-next_mark.result c.from_residual-in_err-next_mark.ensures.1 in
    rw p.1 (subst (IsNoParts c.args.words.now c.next_mark.new.words) (sym p.2)
    (no_mark _ _ _ c.in_ok-next_state.ensures _ _ c.in_ok-next_bit.ensures _ _ c.in_ok-next_byte.ensures
    _ _ c.in_err-next_mark.ensures))

pub returns-in_err-next_permission-clause-err : goal.returns-in_err-next_permission-clause-err
returns-in_err-next_permission-clause-err c =
    let p = err_from_is_err_and c.from_residual-in_err-next_permission.result c.from_residual-in_err-next_permission.ensures.1 in
    rw p.1 (subst (IsNoParts c.args.words.now c.next_permission.new.words) (sym p.2)
    (no_permission _ _ _ c.in_ok-next_state.ensures _ _ c.in_ok-next_bit.ensures _ _ c.in_ok-next_byte.ensures
    _ _ _ _ c.in_ok-next_mark.ensures c.in_err-next_permission.ensures))

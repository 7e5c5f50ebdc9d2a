-- An error that `?` hands on as it is. Assumes nothing.
use Rattle.std.proofs.Common.{◌≡◌, Err, Result, sym, ap, ◌∙◌}
use Rattle.std.specs.Prelude.{IsErrAnd}
use Rattle.std.proofs.lemmas.Result.{err_from_is_err_and}

-- Whatever is read off the answer is what is read off that error.
pub handed : {T E X : Type 0} (read : Result T E → X) (r : Result T E) (e : E) → IsErrAnd r (λ x. x ≡ e) → read (Err e) ≡ read r
handed read r e told =
    let p = err_from_is_err_and r told in
    sym (ap read (p.1 ∙ ap Err p.2))

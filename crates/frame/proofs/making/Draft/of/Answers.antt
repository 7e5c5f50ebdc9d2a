use Rattle.std.proofs.Common.{◌≡◌, ap, arith}
use Rattle.std.proofs.lemmas.Result.{err_from_is_err_and}
use Rattle.protocol.specs.declared.command.Entry.{Entry}
use Rattle.protocol.specs.Commands.{length_of}
use Rattle.protocol.proofs.Lookups.{named_code}
use Rattle.frame.proofs.Makes.{no_code, bad-length}
use Rattle.frame.proofs.making.Draft.of.Goals as goal

pub returns-in_err-entry-clause-refusal : goal.returns-in_err-entry-clause-refusal
returns-in_err-entry-clause-refusal c =
    let p = err_from_is_err_and c.from_residual.result c.from_residual.ensures.1 in
    rw (p.1, p.2, c.in_err-entry.ensures.0) (λ room. no_code c.args.code c.args.parameters.now room c.in_err-entry.ensures.1)

pub returns-then-parameters-entry-clause-refusal : goal.returns-then-parameters-entry-clause-refusal
returns-then-parameters-entry-clause-refusal c =
    let found = c.in_ok-entry.ensures in
    let l : c.in_ok-entry.entry.length ≡ length_of c.in_ok-entry.entry.command = ap (λ (e : Entry). e.length) found.1 in
    λ room. bad-length c.args.code c.args.parameters.now room c.in_ok-entry.entry.command found.0 (λ h. c.if-parameters-entry.true (omega arith))

pub returns-clause-code : goal.returns-clause-code
returns-clause-code c = named_code c.args.code c.in_ok-entry.entry.command c.in_ok-entry.ensures.0

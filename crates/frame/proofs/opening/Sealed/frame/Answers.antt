use Rattle.std.proofs.Common.{◌≡◌, ℕ, List, length, get_or, Some, sym, ap, ◌∙◌, subst, ap₂, arith, rules}
use Rattle.std.proofs.lemmas.Result.{err_from_is_err_and}
use Rattle.protocol.specs.declared.command.Command.{Command}
use Rattle.protocol.specs.declared.command.Entry.{Entry}
use Rattle.protocol.specs.Commands.{code_of, command_with_code, layout, length_of}
use Rattle.frame.specs.Openings.{opened, parameters_of}
use Rattle.frame.specs.Makings.{making}
use Rattle.frame.specs.Parts.{Part, placed, bytes_in, Within}
use Rattle.frame.proofs.Trips.{within, remade}
use Rattle.protocol.proofs.Lookups.{longest}
use Rattle.frame.specs.Requests.{command_of, parts_of}
use Rattle.frame.proofs.Seals.{length_parameters}
use Rattle.frame.proofs.Opens.{no_code, bad-length, opens}
use Rattle.frame.proofs.opening.Sealed.frame.Goals as goal

pub returns-in_err-entry-clause-seen : goal.returns-in_err-entry-clause-seen
returns-in_err-entry-clause-seen c =
    let s = c.args.self.now in
    let p = err_from_is_err_and c.from_residual.result c.from_residual.ensures.1 in
    rw (p.1, p.2, c.in_err-entry.ensures.0) (sym (no_code s.bytes.now s.long s.right (ap command_with_code (sym s.first) ∙ c.in_err-entry.ensures.1)))

pub returns-then-self-entry-clause-seen : goal.returns-then-self-entry-clause-seen
returns-then-self-entry-clause-seen c =
    let s = c.args.self.now in
    let found = c.in_ok-entry.ensures in
    sym (bad-length s.bytes.now s.long s.right c.in_ok-entry.entry.command (ap command_with_code (sym s.first) ∙ found.0)
    (λ l. c.if-self-entry.true (l ∙ sym (ap (λ (e : Entry). e.length) found.1))))

pub of-requires : goal.of-requires
of-requires c =
    let s = c.args.self.now in
    let l : length s.bytes.now ≡ length_of c.in_ok-entry.entry.command = c.if-self-entry.false ∙ ap (λ (e : Entry). e.length) c.in_ok-entry.ensures.1 in
    let p : length s.parameters.now ≡ length (parameters_of s.bytes.now) = ap length s.between in
    omega (arith, length_parameters s.bytes.now s.long)

pub returns : goal.returns
returns c =
    let s = c.args.self.now in
    let found = c.in_ok-entry.ensures in
    let k : Command = c.in_ok-entry.entry.command in
    let frame : List ℕ = s.bytes.now in
    let l : length frame ≡ length_of k = c.if-self-entry.false ∙ ap (λ (e : Entry). e.length) found.1 in
    let name : command_with_code (get_or frame 0 0) ≡ Some k = ap command_with_code (sym s.first) ∙ found.0 in
    let code : c.in_ok-entry.entry.code ≡ code_of k = ap (λ (e : Entry). e.code) found.1 in
    let parts : parts_of c.of.result ≡ placed 1 (layout k) (parameters_of frame) = c.of.ensures.parts ∙ ap (placed 1 (layout k)) s.between in
    record {
      seen =
          ap (λ (n : ℕ). opened n (command_of c.of.result) (parts_of c.of.result)) code
          ∙ ap (λ (d : Command). opened (code_of k) d (parts_of c.of.result)) c.of.ensures.command
          ∙ ap (opened (code_of k) k) parts ∙ sym (opens frame s.long s.right k name l);
      bytes = search rules;
      within = subst (Within frame) (sym parts) (within frame s.long s.right k name l);
      remade = ap₂ (λ (n : ℕ) (ps : List Part). making n (bytes_in ps) (length frame)) code parts ∙ remade frame s.long s.right k name l;
      longest = omega (arith, longest k);
    }

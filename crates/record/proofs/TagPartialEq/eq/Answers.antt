-- The body is the test part by part, which tells whether the records are equal.
use Rattle.std.proofs.Common.{◌≡◌, rules}
use Rattle.record.specs.Alike.{alike}
use Rattle.record.proofs.Likeness.{alike_Decides}
use Rattle.record.proofs.TagPartialEq.eq.Goals as goal

pub returns-then-eq-4-clause-alike : goal.returns-then-eq-4-clause-alike
returns-then-eq-4-clause-alike c =
    let value : c.eq-then-eq-4.result ≡ alike c.args.self.now c.args.other.now = search rules in
    rw value (alike_Decides c.args.self.now c.args.other.now)

pub returns-else-eq-4-clause-alike : goal.returns-else-eq-4-clause-alike
returns-else-eq-4-clause-alike c =
    let value : c.if-self-other-2.value ≡ alike c.args.self.now c.args.other.now = search rules in
    rw value (alike_Decides c.args.self.now c.args.other.now)

-- What is taken away is 00 alone, and each byte taken away leaves one less.
use Rattle.std.proofs.Common.{◌≡◌, ℕ, ◌++◌, length}
use Rattle.std.specs.Prelude.{replicate}
use Rattle.field_cases.proofs.showing.without_end.Given as goal

abbrev pub invariant-loop-front : goal.invariant-loop-front
invariant-loop-front l = (n : ℕ) × (l.fn.bytes ≡ l.bytes ++ replicate n 0)

abbrev pub decreases-loop-front : goal.decreases-loop-front
decreases-loop-front l = length l.bytes

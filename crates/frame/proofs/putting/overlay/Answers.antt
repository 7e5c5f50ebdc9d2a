use Rattle.std.proofs.Common.{◌≡◌, ℕ, ◌+◌, ◌-◌, List, ◌++◌, length, take, drop, ap, ◌∙◌, ap₂, arith}
use Rattle.std.proofs.lemmas.List.{drop-drop}
use Rattle.frame.specs.Writing.{overlaid}
use Rattle.frame.proofs.putting.overlay.Goals as goal

pub returns : goal.returns
unfolding overlaid
returns c =
    let xs : List ℕ = c.args.buffer.now in
    let n : ℕ = length c.args.bytes.now in
    let place : ℕ = c.args.start in
    let same : place + n - place ≡ n = omega arith in
    ap₂ (λ (p q : List ℕ). take place xs ++ (p ++ q)) c.copy_from_slice.ensures.after (ap (λ (k : ℕ). drop k (drop place xs)) same ∙ drop-drop n place xs)

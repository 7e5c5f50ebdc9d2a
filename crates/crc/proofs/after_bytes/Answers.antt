use Rattle.std.proofs.Common.{◌≡◌, ℕ, ◌-◌, ◌<◌, List, [], ◌∷◌, ◌++◌, fold, length, get_or, refl, ap, ◌∙◌, arith}
use Rattle.crc.specs.Check.{byte_taken, high_byte_first}
use Rattle.crc.proofs.Moves.{residue}
use Rattle.crc.proofs.after_bytes.Goals as goal

none_left : (r : ℕ) (xs : List ℕ) → length xs < 1 → r ≡ fold byte_taken r xs
none_left r [] h = refl
none_left r (x ∷ xs) h = absurd (let e : ⊥ = omega arith in e)

one_left : (r : ℕ) (xs : List ℕ) → length xs ≡ 1 → byte_taken r (get_or xs 0 0) ≡ fold byte_taken r xs
one_left r [] h = absurd (let e : ⊥ = omega arith in e)
one_left r (x ∷ []) h = refl
one_left r (x ∷ y ∷ xs) h = absurd (let e : ⊥ = omega arith in e)

-- The residue follows from the value.
led : (r n : ℕ) (message : List ℕ) → r < 0x10000 → n ≡ fold byte_taken r message → fold byte_taken r (message ++ high_byte_first (0xffff - n)) ≡ 0x1d0f
led r n message h value = ap (λ (x : ℕ). fold byte_taken r (message ++ high_byte_first (0xffff - x))) value ∙ residue r message h

pub returns-in-len1-clause-residue : goal.returns-in-len1-clause-residue
returns-in-len1-clause-residue c =
    led c.args.register c.after_byte.result c.args.bytes.now (omega arith)
    (c.after_byte.ensures ∙ one_left c.loop-left.value c.loop-left.left.now (omega arith) ∙ c.loop-left.invariant)

pub returns-in_default-left-clause-residue : goal.returns-in_default-left-clause-residue
returns-in_default-left-clause-residue c =
    led c.args.register c.loop-left.value c.args.bytes.now (omega arith)
    (none_left c.loop-left.value c.loop-left.left.now (omega arith) ∙ c.loop-left.invariant)

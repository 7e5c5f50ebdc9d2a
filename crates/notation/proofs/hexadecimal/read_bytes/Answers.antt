-- What the crate `hex` reads is what a text without small letters spells, and no other text spells bytes.
use Rattle.std.proofs.Common.{◌≡◌, refl, sym, ◌∙◌, inl, inr, false, eqb, codes}
use Rattle.std.specs.Cmp.Lexicographic.{pointwise}
use Rattle.std.proofs.lemmas.Result.{err_from_is_err_and}
use Rattle.notation.specs.Hexadecimal.{has_small}
use Rattle.notation.proofs.Capitals.{no_dash, refused_bytes, spelt_is_large, spells_decoded}
use Rattle.notation.proofs.hexadecimal.read_bytes.Goals as goal

pub returns-then-has_small-clause-err : goal.returns-then-has_small-clause-err
returns-then-has_small-clause-err c =
    let plain = sym c.eq.ensures ∙ c.if-eq.false in
    inr (refl, λ bytes s. cc (spelt_is_large c.args.text.now bytes (no_dash c.args.text.now bytes plain s)))

pub returns-in_err-decode-clause-err : goal.returns-in_err-decode-clause-err
returns-in_err-decode-clause-err c =
    let plain : pointwise eqb c.args.text.now (codes "-") ≡ false = sym c.eq.ensures ∙ c.if-eq.false in
    let p = err_from_is_err_and c.from_residual.result c.from_residual.ensures.1 in
    rw p.1 (refused_bytes c.args.text.now c.in_err-decode.field-0.0 p.0 p.2 plain c.in_err-decode.ensures.err)

pub returns-clause-ok : goal.returns-clause-ok
returns-clause-ok c =
    let small : has_small c.args.text.now ≡ false = sym c.has_small.ensures.small ∙ c.if-has_small.false in
    inl (spells_decoded c.args.text.now c.in_ok-decode.field-0.items small c.in_ok-decode.ensures.ok)

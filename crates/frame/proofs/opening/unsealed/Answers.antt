use Rattle.std.proofs.Common.{◌≡◌, ℕ, ◌-◌, ◌<◌, List, length, get_or, take, drop, sym, refl, ap, ◌∙◌}
use Rattle.crc.specs.Check.{check_value}
use Rattle.frame.specs.Openings.{without_check_value}
use Rattle.frame.proofs.Opens.{stub, bad_check}
use Rattle.frame.proofs.Seals.{right, wrong, front-is, parameters_are, comes_to}
use Rattle.frame.proofs.opening.unsealed.Goals as goal

pub returns-in_default-clause-refusal : goal.returns-in_default-clause-refusal
returns-in_default-clause-refusal c = stub c.args.bytes.now c.in_default.len_below

pub returns-then-check_value-from_be_bytes-clause-refusal : goal.returns-then-check_value-from_be_bytes-clause-refusal
returns-then-check_value-from_be_bytes-clause-refusal c =
    let bytes : List ℕ = c.args.bytes.now in
    let long = c.in-len3-up.len_at_least in
    let value : c.check_value.result ≡ check_value (without_check_value bytes) =
    comes_to (get_or bytes 0 0) (take (length bytes - 2 - 1) (drop 1 bytes)) c.preset-register.ensures c.take_byte.ensures c.take.ensures c.check_value.ensures
    ∙ ap check_value (sym (front-is bytes long)) in
    bad_check bytes long (wrong bytes long (λ e. c.if-check_value-from_be_bytes.true (value ∙ e ∙ sym c.from_be_bytes.ensures)))

pub returns : goal.returns
returns c =
    let bytes : List ℕ = c.args.bytes.now in
    let long = c.in-len3-up.len_at_least in
    let value : c.check_value.result ≡ check_value (without_check_value bytes) =
    comes_to (get_or bytes 0 0) (take (length bytes - 2 - 1) (drop 1 bytes)) c.preset-register.ensures c.take_byte.ensures c.take.ensures c.check_value.ensures
    ∙ ap check_value (sym (front-is bytes long)) in
    let byte : (i : ℕ) → get_or bytes i 0 < 256 = λ i. (c.type_inv.bytes i).fits in
    record {
      long = long;
      right = right bytes long (sym value ∙ c.if-check_value-from_be_bytes.false ∙ c.from_be_bytes.ensures) (byte (length bytes - 2)) (byte (length bytes - 1));
      first = refl;
      between = sym (parameters_are bytes long);
      refusal = tt;
    }

-- The air is a monoid, and hearings go along with it. Assumes nothing.
use Rattle.std.proofs.Common.{◌≡◌, refl, inl}
use Rattle.field.specs.Airs.{Air, silent, one, many, mixed, MayHear, plain_hearing, heard_bytes, only_reply, together}

pub mixed_assoc : (a b c : Air) → mixed (mixed a b) c ≡ mixed a (mixed b c)
mixed_assoc silent b c = refl
mixed_assoc (one x) silent c = refl
mixed_assoc (one x) (one y) silent = refl
mixed_assoc (one x) (one y) (one z) = refl
mixed_assoc (one x) (one y) many = refl
mixed_assoc (one x) many c = refl
mixed_assoc many b c = refl

pub mixed_silent : (a : Air) → mixed a silent ≡ a
mixed_silent silent = refl
mixed_silent (one x) = refl
mixed_silent many = refl

-- What two groups are heard as at once, where each hears every lone reply as lone.
pub plainly_both : (a b : Air) → together (plain_hearing a) (plain_hearing b) ≡ plain_hearing (mixed a b)
plainly_both silent b = refl
plainly_both (one x) silent = refl
plainly_both (one x) (one y) = refl
plainly_both (one x) many = refl
plainly_both many b = refl

-- What is heard where every lone reply is heard as lone may be heard.
pub may_hear_plainly : (a : Air) → MayHear a (plain_hearing a)
may_hear_plainly silent = refl
may_hear_plainly (one x) = inl refl
may_hear_plainly many = refl

pub caught_plainly : (a : Air) → heard_bytes (plain_hearing a) a ≡ only_reply a
caught_plainly silent = refl
caught_plainly (one x) = refl
caught_plainly many = refl

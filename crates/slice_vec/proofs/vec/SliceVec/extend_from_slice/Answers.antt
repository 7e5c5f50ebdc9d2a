use Rattle.std.proofs.Common.{rules, refl}
use Rattle.std.proofs.lemmas.Slice.{overwrites}
use Rattle.slice_vec.proofs.vec.SliceVec.extend_from_slice.Goals as goal

pub returns-clause-behind : goal.returns-clause-behind
returns-clause-behind g c =
    record { storage = search (rules, overwrites); room = search (rules, overwrites); lender = refl }

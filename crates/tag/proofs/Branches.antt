-- What holds of both records that an order may leave. Assumes nothing.
use Rattle.std.proofs.Common.{Bool, true, false, cond}
use Rattle.record.specs.declared.State.{State}
use Rattle.record.specs.declared.State.TheVariants.{Ready, Singulation, Inventoried}
use Rattle.record.specs.declared.Tag.{Tag}
use Rattle.tag.specs.Steps.{if_singulated, if_inventoried}

pub either : (P : Tag → Type 0) (b : Bool) (x y : Tag) → P x → P y → P (cond b x y)
either P true x y p q = p
either P false x y p q = q

pub singulated : (P : Tag → Type 0) (s : State) (x y : Tag) → P x → P y → P (if_singulated s x y)
singulated P Ready x y p q = q
singulated P Singulation x y p q = p
singulated P Inventoried x y p q = q

pub inventoried : (P : Tag → Type 0) (s : State) (x y : Tag) → P x → P y → P (if_inventoried s x y)
inventoried P Ready x y p q = q
inventoried P Singulation x y p q = q
inventoried P Inventoried x y p q = p

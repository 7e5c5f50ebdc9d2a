-- Tags are alike just if they are equal. Assumes nothing.
use Rattle.std.proofs.Common.{◌≡◌, ℕ, ◌==◌, Some, None, Option, refl, ap, arith}
use Rattle.std.specs.Bool.{Decides}
use Rattle.std.specs.Option.{option_eq}
use Rattle.std.specs.Cmp.{booleans_Decides, unsigned_Decides}
use Rattle.std.proofs.lemmas.Bool.Decides.{Decides-and}
use Rattle.std.proofs.lemmas.Slice.Eq.{slice_eq-Decides}
use Rattle.record.specs.declared.State.{State}
use Rattle.record.specs.declared.State.TheVariants.{Ready, Singulation, Inventoried}
use Rattle.record.specs.declared.WriteMark.{WriteMark}
use Rattle.record.specs.declared.WriteMark.TheVariants.{Clear, Fading, Fresh}
use Rattle.record.specs.declared.Tag.{Tag}
use Rattle.record.specs.Alike.{state_number, alike}
use Rattle.record.specs.Records.{mark_number}

state_of_number : (s t : State) → state_number s ≡ state_number t → s ≡ t
state_of_number Ready Ready e = refl
state_of_number Ready Singulation e = absurd (omega arith)
state_of_number Ready Inventoried e = absurd (omega arith)
state_of_number Singulation Ready e = absurd (omega arith)
state_of_number Singulation Singulation e = refl
state_of_number Singulation Inventoried e = absurd (omega arith)
state_of_number Inventoried Ready e = absurd (omega arith)
state_of_number Inventoried Singulation e = absurd (omega arith)
state_of_number Inventoried Inventoried e = refl

mark_of_number : (s t : WriteMark) → mark_number s ≡ mark_number t → s ≡ t
mark_of_number Clear Clear e = refl
mark_of_number Clear Fading e = absurd (omega arith)
mark_of_number Clear Fresh e = absurd (omega arith)
mark_of_number Fading Clear e = absurd (omega arith)
mark_of_number Fading Fading e = refl
mark_of_number Fading Fresh e = absurd (omega arith)
mark_of_number Fresh Clear e = absurd (omega arith)
mark_of_number Fresh Fading e = absurd (omega arith)
mark_of_number Fresh Fresh e = refl

-- What has a number of its own is compared by it.
numbered : {X : Type 0} (number : X → ℕ) (own : (x y : X) → number x ≡ number y → x ≡ y) (x y : X) → Decides (number x == number y) (x ≡ y)
numbered number own x y =
    (λ e. own x y ((unsigned_Decides (number x) (number y)).0 e), λ e. (unsigned_Decides (number x) (number y)).1 (ap number e))

permissions : (p q : Option ℕ) → Decides (option_eq ◌==◌ p q) (p ≡ q)
permissions None None = (λ e. refl, λ e. refl)
permissions None (Some n) = (λ e. cc, λ e. cc)
permissions (Some m) None = (λ e. cc, λ e. cc)
permissions (Some m) (Some n) = (λ e. ap Some ((unsigned_Decides m n).0 e), λ e. (unsigned_Decides m n).1 (search e))

pub alike_Decides : (t u : Tag) → Decides (alike t u) (t ≡ u)
alike_Decides t u =
    let parts =
    Decides-and _ _ (slice_eq-Decides unsigned_Decides t.memory u.memory _ refl)
    (Decides-and _ _ (slice_eq-Decides booleans_Decides t.locks u.locks _ refl)
    (Decides-and _ _ (numbered state_number state_of_number t.state u.state)
    (Decides-and _ _ (booleans_Decides t.identified u.identified)
    (Decides-and _ _ (unsigned_Decides t.counter u.counter)
    (Decides-and _ _ (numbered mark_number mark_of_number t.mark u.mark) (permissions t.permission u.permission)))))) in (
      λ e. let p = parts.0 e in
          λ i. record {
            memory = p.0 i;
            locks = p.1.0 i;
            state = p.1.1.0 i;
            identified = p.1.1.1.0 i;
            counter = p.1.1.1.1.0 i;
            mark = p.1.1.1.1.1.0 i;
            permission = p.1.1.1.1.1.1 i;
          },
      λ e. parts.1 (ap (λ t. t.memory) e, (ap (λ t. t.locks) e, (ap (λ t. t.state) e, (ap (λ t. t.identified) e, (ap (λ t. t.counter) e, (ap (λ t. t.mark) e, ap (λ t. t.permission) e)))))),
    )

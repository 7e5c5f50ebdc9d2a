use Rattle.std.proofs.Common.{◌≡◌, ℕ, Bool, List, length, sym, refl, ap, ◌∙◌, subst, arith, rules}
use Rattle.std.specs.Bool.{Decides}
use Rattle.std.specs.List.{list_all, range_with_len}
use Rattle.std.proofs.lemmas.Iterator.{YieldsList-from_range}
use Rattle.std.proofs.lemmas.Iterator.Search.{all_from_yields_List}
use Rattle.record.specs.declared.Tag.{Tag}
use Rattle.two_fields.specs.Places.{alike_at}
use Rattle.two_fields.proofs.Places.{all_alike}
use Rattle.two_fields.proofs.agreement.agree.Goals as goal

pub returns-then-places : goal.returns-then-places
returns-then-places g c =
    let left : List Tag = g.L.Field.tags c.args.left.now in
    let right : List Tag = g.R.Field.tags c.args.right.now in
    let size : length left ≡ length right = omega (arith, c.places.ensures, c.places-2.ensures, c.if-places.true) in
    let tested : c.all.result ≡ list_all (alike_at left right) (range_with_len 0 c.places-then-places.result) =
    all_from_yields_List (alike_at left right) _ _ c.all.result c.all.ensures.ran
    (YieldsList-from_range 0 c.places-then-places.result c.places-then-places.result refl (omega arith)) (λ x b q k. search rules) in
    let every : c.all.result ≡ list_all (alike_at left right) (range_with_len 0 (length left)) =
    tested ∙ ap (λ (n : ℕ). list_all (alike_at left right) (range_with_len 0 n)) c.places-then-places.ensures in
    subst (λ (b : Bool). Decides b (left ≡ right)) (sym every) (all_alike left right size)

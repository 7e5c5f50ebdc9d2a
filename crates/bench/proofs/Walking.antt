-- Walking a table: what is done so far and what is left give the whole. Assumes nothing.
use Rattle.std.proofs.Common.{◌≡◌, ℕ, zero, suc, ◌+◌, ◌/◌, ◌<◌, false, List, [], ◌∷◌, ◌++◌, length, get_or, take, drop, set, Some, None, Option, sym, refl, ap, ◌∙◌, ap₂, arith}
use Rattle.std.proofs.lemmas.List.{append_assoc, append-nil, length-set, take_more_set, drop_more, drop-set-lt, drop_all, take_all, get_or-set_same}
use Rattle.std.proofs.lemmas.Option.{slice_get-get_or}
use Rattle.std.specs.List.{slice_get}
use Rattle.frame.specs.Openings.{Opening}
use Rattle.record.specs.declared.State.TheVariants.{Ready}
use Rattle.record.specs.declared.WriteMark.TheVariants.{Clear}
use Rattle.record.specs.declared.Tag.{Tag}
use Rattle.reply.specs.declared.Reply.{Reply}
use Rattle.reply.specs.Replies.{sealed_reply, data_in}
use Rattle.tag.specs.Steps.{stepped, replied}
use Rattle.field.specs.declared.hearing.Hearing.{Hearing}
use Rattle.field.specs.declared.hearing.Hearing.TheVariants.{Silence, Lone, Clash}
use Rattle.field.specs.Airs.{Air, one, mixed, air_of_one, plain_hearing}
use Rattle.field.specs.Sends.{first_coin, stepped_all, on_air}
use Rattle.field.proofs.Airs.{mixed_assoc, mixed_silent}
use Rattle.bench.specs.Heard.{hearing_with, replier_with, replied_bytes, air_so_far}

-- What a proof reads where a table has no tag.
abbrev pub blank : Tag
blank = record { memory = []; locks = []; state = Ready; identified = false; counter = 0; mark = Clear; permission = None }

-- Where a lone reply was heard, its tag is known and stands before a place.
abbrev pub Before : ℕ → Hearing → Option (ℕ × Reply) → Type 0
Before i Silence replier = Unit {0}
Before i Lone None = ⊥
Before i Lone (Some (place, reply)) = place < i
Before i Clash replier = Unit {0}

-- A walk that has come to a place: the table and the coins that are left, and what is heard so far.
pub record Walked (frame : Opening) (row : ℕ) (start table : List Tag) (place coins : ℕ) (h : Hearing) (replier : Option (ℕ × Reply)) : Type 0 where
  pub tags : take place table ++ stepped_all frame coins (drop place table) ≡ stepped_all frame row start
  pub air : mixed (air_so_far h replier table) (on_air frame coins (drop place table)) ≡ on_air frame row start
  pub before : Before place h replier

nth-set_before : {X : Type 0} (xs : List X) (i k : ℕ) (x : X) → k < i → slice_get (set xs i x) k ≡ slice_get xs k
nth-set_before [] i k x h = refl
nth-set_before (y ∷ ys) zero k x h = absurd (omega arith)
nth-set_before (y ∷ ys) (suc i) zero x h = refl
nth-set_before (y ∷ ys) (suc i) (suc k) x h = nth-set_before ys i k x (omega arith)

said_before : (h : Hearing) (s : Option (ℕ × Reply)) (table : List Tag) (i : ℕ) (t : Tag) → Before i h s → air_so_far h s (set table i t) ≡ air_so_far h s table
said_before Silence s table i t b = refl
said_before Lone None table i t b = refl
said_before Lone (Some (place, reply)) table i t b = ap (λ o. one (replied_bytes o reply)) (nth-set_before table i place t b)
said_before Clash s table i t b = refl

-- The reply of a tag.
voice_of : (i : ℕ) (reply : Option Reply) (tags : List Tag) (t : Tag) → slice_get tags i ≡ Some t
    → air_so_far (hearing_with Silence reply) (replier_with None i reply) tags ≡ air_of_one (sealed_reply (data_in t reply))
voice_of i None tags t e = refl
voice_of i (Some x) tags t e = ap (λ o. one (replied_bytes o x)) e

-- What is heard with one tag more.
said_more : (h : Hearing) (s : Option (ℕ × Reply)) (i k : ℕ) (reply : Option Reply) (tags : List Tag) → Before k h s
    → air_so_far (hearing_with h reply) (replier_with s i reply) tags ≡ mixed (air_so_far h s tags) (air_so_far (hearing_with Silence reply) (replier_with None i reply) tags)
said_more Silence s i k None tags b = refl
said_more Silence s i k (Some x) tags b = refl
said_more Lone None i k reply tags b = absurd b
said_more Lone (Some (place, r)) i k None tags b = refl
said_more Lone (Some (place, r)) i k (Some x) tags b = refl
said_more Clash s i k None tags b = refl
said_more Clash s i k (Some x) tags b = refl

before_more : (h : Hearing) (s : Option (ℕ × Reply)) (i : ℕ) (reply : Option Reply) → Before i h s → Before (i + 1) (hearing_with h reply) (replier_with s i reply)
before_more Silence s i None b = tt
before_more Silence s i (Some x) b = omega arith
before_more Lone None i reply b = absurd b
before_more Lone (Some (place, r)) i None b = omega arith
before_more Lone (Some (place, r)) i (Some x) b = tt
before_more Clash s i None b = tt
before_more Clash s i (Some x) b = tt

-- A walk at one tag more, which stands at the place, steps and replies.
module _ (frame : Opening) (row : ℕ) (start table : List Tag) (i coins : ℕ) (h : Hearing) (s : Option (ℕ × Reply)) (d t : Tag) (reply : Option Reply)
    (inside : i < length table) (w : Walked frame row start table i coins h s) (e : t ≡ stepped frame (first_coin coins) (get_or table i d))
    (told : sealed_reply (data_in t reply) ≡ replied frame (first_coin coins) (get_or table i d)) where
  here : slice_get (set table i t) i ≡ Some t
  here =
      let long : i < length (set table i t) = omega (arith, length-set table i t) in
      slice_get-get_or (set table i t) i d long ∙ ap (λ (x : Tag). Some x) (get_or-set_same table i t d inside)

  rest : drop (i + 1) (set table i t) ≡ drop (i + 1) table
  rest = drop-set-lt (i + 1) table i t (omega arith)

  walked_tags : take (i + 1) (set table i t) ++ stepped_all frame (coins / 2) (drop (i + 1) (set table i t)) ≡ stepped_all frame row start
  unfolding stepped_all
  walked_tags =
      ap₂ (λ (x : List Tag) (y : List Tag). x ++ stepped_all frame (coins / 2) y) (take_more_set table i t inside) rest
      ∙ append_assoc (take i table) (t ∷ []) (stepped_all frame (coins / 2) (drop (i + 1) table))
      ∙ ap (λ (x : Tag). take i table ++ (x ∷ stepped_all frame (coins / 2) (drop (i + 1) table))) e
      ∙ sym (ap (λ (x : List Tag). take i table ++ stepped_all frame coins x) (drop_more table i d inside))
      ∙ w.tags

  walked_air : mixed (air_so_far (hearing_with h reply) (replier_with s i reply) (set table i t)) (on_air frame (coins / 2) (drop (i + 1) (set table i t))) ≡ on_air frame row start
  unfolding on_air
  walked_air =
      let left : Air = on_air frame (coins / 2) (drop (i + 1) table) in
      ap (λ (x : List Tag). mixed (air_so_far (hearing_with h reply) (replier_with s i reply) (set table i t)) (on_air frame (coins / 2) x)) rest
      ∙ ap (λ (x : Air). mixed x left)
      (said_more h s i i reply (set table i t) w.before
      ∙ ap₂ mixed (said_before h s table i t w.before) (voice_of i reply (set table i t) t here ∙ ap air_of_one told))
      ∙ mixed_assoc (air_so_far h s table) (air_of_one (replied frame (first_coin coins) (get_or table i d))) left
      ∙ sym (ap (λ (x : List Tag). mixed (air_so_far h s table) (on_air frame coins x)) (drop_more table i d inside))
      ∙ w.air

  pub walked_more : Walked frame row start (set table i t) (i + 1) (coins / 2) (hearing_with h reply) (replier_with s i reply)
  walked_more = record { tags = walked_tags; air = walked_air; before = before_more h s i reply w.before }

said_plainly : (i : ℕ) (h : Hearing) (s : Option (ℕ × Reply)) (tags : List Tag) → Before i h s → h ≡ plain_hearing (air_so_far h s tags)
said_plainly i Silence s tags b = refl
said_plainly i Lone None tags b = absurd b
said_plainly i Lone (Some (place, reply)) tags b = refl
said_plainly i Clash s tags b = refl

-- A whole walk.
pub record Whole (frame : Opening) (row : ℕ) (start table : List Tag) (h : Hearing) (replier : Option (ℕ × Reply)) : Type 0 where
  pub tags : table ≡ stepped_all frame row start
  pub air : air_so_far h replier table ≡ on_air frame row start
  pub plain : h ≡ plain_hearing (on_air frame row start)

pub walked_all : (frame : Opening) (row : ℕ) (start table : List Tag) (i coins : ℕ) (h : Hearing) (s : Option (ℕ × Reply)) → i ≡ length table
    → Walked frame row start table i coins h s → Whole frame row start table h s
unfolding stepped_all on_air
walked_all frame row start table i coins h s end w =
    let none = drop_all i table (omega arith) in
    let air : air_so_far h s table ≡ on_air frame row start =
    sym (mixed_silent (air_so_far h s table)) ∙ sym (ap (λ (x : List Tag). mixed (air_so_far h s table) (on_air frame coins x)) none) ∙ w.air in
    record {
      tags = sym (append-nil table) ∙ sym (ap₂ (λ (x : List Tag) (y : List Tag). x ++ stepped_all frame coins y) (take_all i table (omega arith)) none) ∙ w.tags;
      air = air;
      plain = said_plainly i h s table w.before ∙ ap plain_hearing air;
    }

-- Two lists of tags as one: what a send does to both together is what it does to each. Assumes nothing.
use Rattle.std.proofs.Common.{◌≡◌, inl, inr, ℕ, zero, suc, ◌+◌, ◌/◌, ◌<◌, ◌≤◌, Bool, true, false, cond, List, [], ◌∷◌, ◌++◌, length, drop, MatchBool, Ok, sym, refl, ap, ◌∙◌, subst, ap₂, div-one, arith, le-leb, le-ltb}
use borrow.Author.Tests.{lt-leb}
use Rattle.std.proofs.lemmas.List.{map-append}
use Rattle.std.specs.List.{slice_get}
use Rattle.frame.specs.Openings.{Opening, opening}
use Rattle.record.specs.declared.Tag.{Tag}
use Rattle.record.specs.Gaps.{after_gap}
use Rattle.tag.specs.Steps.{stepped, replied}
use Rattle.field.specs.declared.hearing.Hearing.{Hearing}
use Rattle.field.specs.declared.hearing.Hearing.TheVariants.{Silence, Lone, Clash}
use Rattle.field.specs.Airs.{Air, silent, one, many, mixed, air_of_one, MayHear, plain_hearing, heard_bytes, only_reply, together}
use Rattle.field.specs.Sends.{first_coin, coin_at, row_behind, stepped_all, on_air, is_short, tags_after_send, padded, buffer_after_send, InPlace}
use Rattle.field.proofs.Airs.{mixed_assoc, mixed_silent, plainly_both}
use Rattle.field.proofs.Buffers.{drop_left, cleared_left}
use Rattle.field.proofs.Walks.{halved, length-stepped, stepped_in_place}
use Rattle.composite_fields.specs.Pairs.{fits, paired, beside, ActsOnParts}

stepped-join : (frame : Opening) (row : ℕ) (left right : List Tag)
    → stepped_all frame row (left ++ right) ≡ stepped_all frame row left ++ stepped_all frame (row_behind (length left) row) right
unfolding stepped_all
stepped-join frame row [] right = ap (λ (k : ℕ). stepped_all frame k right) (sym (div-one row))
stepped-join frame row (t ∷ left) right =
    ap (λ (ts : List Tag). stepped frame (first_coin row) t ∷ ts)
    (stepped-join frame (row / 2) left right ∙ ap (λ (k : ℕ). stepped_all frame (row / 2) left ++ stepped_all frame k right) (halved row (length left)))

air-join : (frame : Opening) (row : ℕ) (left right : List Tag)
    → on_air frame row (left ++ right) ≡ mixed (on_air frame row left) (on_air frame (row_behind (length left) row) right)
unfolding on_air
air-join frame row [] right = ap (λ (k : ℕ). on_air frame k right) (sym (div-one row))
air-join frame row (t ∷ left) right =
    ap (mixed (air_of_one (replied frame (first_coin row) t)))
    (air-join frame (row / 2) left right ∙ ap (λ (k : ℕ). mixed (on_air frame (row / 2) left) (on_air frame k right)) (halved row (length left)))
    ∙ sym (mixed_assoc (air_of_one (replied frame (first_coin row) t)) (on_air frame (row / 2) left) (on_air frame (row_behind (suc (length left)) row) right))

sent_when : (short : Bool) (bytes : List ℕ) (row : ℕ) (left right : List Tag)
    → cond short (left ++ right) (stepped_all (opening bytes) row (left ++ right))
    ≡ cond short left (stepped_all (opening bytes) row left) ++ cond short right (stepped_all (opening bytes) (row_behind (length left) row) right)
sent_when true bytes row left right = refl
sent_when false bytes row left right = stepped-join (opening bytes) row left right

pub splits : (left right : List Tag) → ActsOnParts left right
splits left right =
    record {
      send = λ room bytes row. sent_when (is_short room) bytes row left right;
      air = λ frame row. air-join frame row left right;
      gap = λ us. map-append (after_gap us) left right;
    }

-- Which tags a pair means.
pub paired_both : (left right : List Tag) → length left + length right ≤ 64 → paired left right ≡ left ++ right
paired_both left right h = rw (le-leb (length left + length right) 64 h) refl

pub paired_left : (left right : List Tag) → 64 < length left + length right → paired left right ≡ left
paired_left left right h = rw (lt-leb (length left + length right) 64 h) refl

pub nth_left : {X : Type 0} (left right : List X) (i : ℕ) → i < length left → slice_get (left ++ right) i ≡ slice_get left i
nth_left [] right i h = absurd (omega arith)
nth_left (x ∷ left) right zero h = refl
nth_left (x ∷ left) right (suc i) h = nth_left left right i (omega arith)

pub nth_right : {X : Type 0} (left right : List X) (i : ℕ) → slice_get (left ++ right) (length left + i) ≡ slice_get right i
nth_right [] right i =
    let e : 0 + i ≡ i = omega arith in
    ap (slice_get right) e
nth_right (x ∷ left) right i =
    let e : suc (length left) + i ≡ suc (length left + i) = omega arith in
    ap (slice_get (x ∷ (left ++ right))) e ∙ nth_right left right i

-- What may be heard of two sides at once.
pub may_hear_both : (a b : Air) (x y : Hearing) → MayHear a x → MayHear b y → MayHear (mixed a b) (together x y)
may_hear_both silent b x y e f = subst (λ (h : Hearing). MayHear b (together h y)) (sym e) f
may_hear_both (one r) silent x y e f = subst (λ (h : Hearing). MayHear (one r) (together x h)) (sym f) (beside x e)
  where
    beside : (h : Hearing) → MayHear (one r) h → MayHear (one r) (together h Silence)
    beside Silence k = k
    beside Lone k = k
    beside Clash k = k
may_hear_both (one r) (one s) x y e f = sounding x y e f
  where
    sounding : (h k : Hearing) → MayHear (one r) h → MayHear (one s) k → together h k ≡ Clash
    sounding h k (inl p) (inl q) = ap₂ together p q
    sounding h k (inl p) (inr q) = ap₂ together p q
    sounding h k (inr p) q = ap (λ (z : Hearing). together z k) p
may_hear_both (one r) many x y e f = sounding x e
  where
    sounding : (h : Hearing) → MayHear (one r) h → together h y ≡ Clash
    sounding h (inl p) = ap₂ together p f
    sounding h (inr p) = ap (λ (z : Hearing). together z y) p
may_hear_both many b x y e f = ap (λ (z : Hearing). together z y) e

-- Of silence nothing is on the air.
unheard : (a : Air) → MayHear a Silence → a ≡ silent
unheard silent h = refl
unheard (one r) (inl h) = cc
unheard (one r) (inr h) = cc
unheard many h = cc

-- The buffer of two sides.
module _ (a b : Air) (buffer mine : List ℕ) (room : 258 ≤ length buffer) (keeps : length mine ≡ length buffer) where
  over : (y : Hearing) → MayHear a Silence → mine ≡ padded 258 [] ++ drop 258 buffer
      → padded 258 (heard_bytes y b) ++ drop 258 mine ≡ padded 258 (heard_bytes y (mixed a b)) ++ drop 258 buffer
  over y e p =
      ap (λ (x : List ℕ). padded 258 (heard_bytes y b) ++ x) (drop_left (padded 258 []) buffer mine room keeps p)
      ∙ ap (λ (z : Air). padded 258 (heard_bytes y (mixed z b)) ++ drop 258 buffer) (sym (unheard a e))

  pub beside_left : (x y : Hearing) → MayHear a x → MayHear b y → mine ≡ padded 258 (heard_bytes x a) ++ drop 258 buffer
      → beside x y b mine ≡ padded 258 (heard_bytes (together x y) (mixed a b)) ++ drop 258 buffer
  beside_left Silence y e f p = over y e p
  beside_left Lone Silence e f p =
      p ∙ ap (λ (z : Air). padded 258 (only_reply z) ++ drop 258 buffer) (sym (ap (mixed a) (unheard b f) ∙ mixed_silent a))
  beside_left Lone Lone e f p = cleared_left (padded 258 (only_reply a)) buffer mine room keeps p
  beside_left Lone Clash e f p = cleared_left (padded 258 (only_reply a)) buffer mine room keeps p
  beside_left Clash Silence e f p = p
  beside_left Clash Lone e f p = cleared_left (padded 258 []) buffer mine room keeps p
  beside_left Clash Clash e f p = cleared_left (padded 258 []) buffer mine room keeps p

-- The tag at a place of a pair.
front_when : (b : Bool) (left right : List Tag) (i : ℕ) → i < length left → slice_get (cond b (left ++ right) left) i ≡ slice_get left i
front_when true left right i h = nth_left left right i h
front_when false left right i h = refl

pub nth-front : (left right : List Tag) (i : ℕ) → i < length left → slice_get left i ≡ slice_get (paired left right) i
nth-front left right i h = sym (front_when (fits left right) left right i h)

-- A pair's own promise, in the two cases of whether it is one.
pub when-fits : (b : Bool) (P Q : Type 0) → b ≡ true → P → MatchBool b P Q
when-fits b P Q e p = subst (λ (x : Bool). MatchBool x P Q) (sym e) p

pub when_crowded : (b : Bool) (P Q : Type 0) → b ≡ false → Q → MatchBool b P Q
when_crowded b P Q e q = subst (λ (x : Bool). MatchBool x P Q) (sym e) q

sent-stepped : (room : ℕ) (bytes : List ℕ) (row : ℕ) (tags : List Tag) → 258 ≤ room → tags_after_send room bytes row tags ≡ stepped_all (opening bytes) row tags
sent-stepped room bytes row tags taken = rw (le-ltb room 258 taken) refl

-- A send to both sides of a pair, with room in both buffers.
module _ (room : ℕ) (bytes : List ℕ) (row row_after places : ℕ) (left right left_new right_new : List Tag) (taken : 258 ≤ room)
    (few : length left + length right ≤ 64) (here : places ≡ length left) (shifted : row_after ≡ row_behind places row)
    (on_left : left_new ≡ tags_after_send room bytes row left) (on_right : right_new ≡ stepped_all (opening bytes) row_after right) where
  abbrev frame : Opening
  frame = opening bytes

  left_after : left_new ≡ stepped_all frame row left
  left_after = on_left ∙ sent-stepped room bytes row left taken

  behind_left : row_after ≡ row_behind (length left) row
  behind_left = shifted ∙ ap (λ (n : ℕ). row_behind n row) here

  right_after : right_new ≡ stepped_all frame (row_behind (length left) row) right
  right_after = on_right ∙ ap (λ (k : ℕ). stepped_all frame k right) behind_left

  both_stepped : paired left_new right_new ≡ stepped_all frame row (paired left right)
  both_stepped =
      paired_both left_new right_new
      (omega (arith, ap length left_after, length-stepped frame row left, ap length right_after, length-stepped frame (row_behind (length left) row) right))
      ∙ ap₂ (λ (x : List Tag) (y : List Tag). x ++ y) left_after right_after ∙ sym (stepped-join frame row left right)
      ∙ ap (stepped_all frame row) (sym (paired_both left right few))

  both_air : mixed (on_air frame row left) (on_air frame row_after right) ≡ on_air frame row (paired left right)
  both_air =
      ap (λ (k : ℕ). mixed (on_air frame row left) (on_air frame k right)) behind_left ∙ sym (air-join frame row left right)
      ∙ ap (on_air frame row) (sym (paired_both left right few))

  pub both_sent : paired left_new right_new ≡ tags_after_send room bytes row (paired left right)
  both_sent = both_stepped ∙ sym (sent-stepped room bytes row (paired left right) taken)

  pub both_in_place : InPlace (λ place. stepped (opening bytes) (coin_at row place)) (paired left right) (paired left_new right_new)
  both_in_place = subst (InPlace (λ place. stepped frame (coin_at row place)) (paired left right)) (sym both_stepped) (stepped_in_place frame row (paired left right))

  -- What is heard of both.
  module _ (h x y : Hearing) (heard : h ≡ together x y) where
    pub both_may_be : MayHear (on_air (opening bytes) row left) x → MayHear (on_air (opening bytes) row_after right) y
        → MayHear (on_air (opening bytes) row (paired left right)) h
    both_may_be e f =
        subst (λ (a : Air). MayHear a h) both_air
        (subst (λ (k : Hearing). MayHear (mixed (on_air frame row left) (on_air frame row_after right)) k) (sym heard)
        (may_hear_both (on_air frame row left) (on_air frame row_after right) x y e f))

    pub both_plain : x ≡ plain_hearing (on_air (opening bytes) row left) → y ≡ plain_hearing (on_air (opening bytes) row_after right)
        → h ≡ plain_hearing (on_air (opening bytes) row (paired left right))
    both_plain p q = heard ∙ ap₂ together p q ∙ plainly_both (on_air frame row left) (on_air frame row_after right) ∙ ap plain_hearing both_air

    pub both_left : (buffer mine final : List ℕ) → 258 ≤ length buffer → length mine ≡ length buffer
        → MayHear (on_air (opening bytes) row left) x → MayHear (on_air (opening bytes) row_after right) y
        → mine ≡ buffer_after_send (Ok x) (on_air (opening bytes) row left) buffer → final ≡ beside x y (on_air (opening bytes) row_after right) mine
        → final ≡ buffer_after_send (Ok h) (on_air (opening bytes) row (paired left right)) buffer
    both_left buffer mine final big keeps e f p now =
        now ∙ beside_left (on_air frame row left) (on_air frame row_after right) buffer mine big keeps x y e f p
        ∙ ap₂ (λ (k : Hearing) (a : Air). padded 258 (heard_bytes k a) ++ drop 258 buffer) (sym heard) both_air

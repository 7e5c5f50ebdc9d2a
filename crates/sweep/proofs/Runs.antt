-- A sweep, action by action, and what a whole one leaves and reports. Assumes nothing.
use Rattle.std.proofs.Common.{◌≡◌, ℕ, ◌+◌, ◌-◌, ◌≤◌, Bool, false, cond, leb, eqb, List, [], ◌∷◌, map, length, sym, refl, ap, ◌∙◌, ap₂, subst, ⊎_elim, arith}
use Rattle.std.specs.List.{AllByRecursion}
use Rattle.std.proofs.lemmas.Bool.{cond_both, eqb-true}
use Rattle.std.proofs.lemmas.List.{length-take-le}
use Rattle.std.proofs.lemmas.List.Elements.{recursion_from_All}
use Rattle.protocol.specs.declared.command.Command.{Command}
use Rattle.protocol.specs.declared.command.Command.TheVariants.{Select, Query, Scroll}
use Rattle.frame.specs.Openings.{opening}
use Rattle.record.specs.declared.Tag.{Tag}
use Rattle.record.specs.Records.{serial_of}
use Rattle.tag.specs.Orders.{order_in}
use Rattle.field.specs.declared.hearing.Hearing.{Hearing}
use Rattle.field.specs.declared.hearing.Hearing.TheVariants.{Silence, Lone, Clash}
use Rattle.field.specs.Airs.{Air, MayHear}
use Rattle.field.specs.Sends.{stepped_all, on_air, Sized}
use Rattle.slot.specs.Commands.{select, query, scroll, read}
use Rattle.slot.specs.Rules.{Setting, Phase, fresh, in_silence, in_lone, in_clash, in_reading, ended, SweepState, beginning, Action, stops, opens, lists, reads, closes, budget_checked, room_checked, coins_at, place_behind, action_in, air_of, opened_by, read_by, after_action, advanced, MayHearNext, run_by, MayHearAll}
use Rattle.sweep.specs.Effects.{is_due, tag_after_sweep, times, due_serials, Distinct, SweepEffects}
use Rattle.sweep.proofs.Frames.{serial_heard}
use Rattle.sweep.proofs.Tags.{is_active, is_left_by, has_turn, outcome, Fit, Readable, Unheard, Takes, Opens, select_each, query_each, scroll_each, read_each, select_heard, query_heard, scroll_heard}
use Rattle.sweep.proofs.Crowds.{tally, turns, voices, tally-le, outcomes_after, all_after, active_after, air_after, all_of, tally_same, no_turn, no_turns, closed, none_active, lone, all_readable, apart, same_serials, AreSized, turns_sized, times_push}

-- A sweep that goes on: what becomes of the tags is settled, each turn comes within the groups that wait, and what is
-- due is listed or still active.
pub record Between (before : List Tag) (waiting : ℕ) (serials : List (List ℕ)) (tags : List Tag) : Type 0 where
  pub outcomes : map outcome tags ≡ map tag_after_sweep before
  pub fits : AllByRecursion (Fit waiting) tags
  pub counts : (serial : List ℕ) → times serial serials + tally is_active serial tags ≡ times serial (due_serials before)

-- The same while a READ is not heard yet: its tag is listed, and counts no more.
pub record Reading (before : List Tag) (waiting : ℕ) (serials : List (List ℕ)) (lone_one : List ℕ) (tags : List Tag) : Type 0 where
  pub size : length lone_one ≡ 8
  pub outcomes : map outcome tags ≡ map tag_after_sweep before
  pub ready : AllByRecursion (Readable lone_one waiting) tags
  pub counts : (serial : List ℕ) → times serial serials + tally (is_left_by lone_one) serial tags ≡ times serial (due_serials before)

-- What a whole sweep has done.
pub record Over (before : List Tag) (p : SweepState) : Type 0 where
  pub tags : p.tags ≡ map tag_after_sweep before
  pub serials : (serial : List ℕ) → times serial p.serials ≡ times serial (due_serials before)

-- What holds in each phase. A lone slot asks that no serial number is there twice.
abbrev pub Stands : List Tag → SweepState → Phase → Type 0
Stands before p fresh = (p.tags ≡ before) × (p.serials ≡ [])
Stands before p in_silence = Between before p.waiting p.serials p.tags × (turns p.tags ≡ [])
Stands before p (in_lone serial) = Between before p.waiting p.serials p.tags × (turns p.tags ≡ serial ∷ []) × Distinct before
Stands before p in_clash = Between before p.waiting p.serials p.tags
Stands before p (in_reading serial) = Reading before p.waiting p.serials serial p.tags
Stands before p (ended n) = n ≡ 0 → Over before p

-- Where something is heard as lone, no serial number is there twice.
abbrev pub Clears : List Tag → Hearing → Type 0
Clears before h = h ≡ Lone → Distinct before

-- It holds after an action, whatever may be heard.
abbrev StandsAfter : List Tag → Hearing → SweepState → Action → Type 0
StandsAfter before h p d = MayHear (air_of d p.tags) h → Stands before (after_action d h p) (after_action d h p).phase

stopped : (before : List Tag) (h : Hearing) (p : SweepState) (n : ℕ) → (n ≡ 0 → ⊥) → StandsAfter before h p (stops n)
stopped before h p n k m = λ e. absurd (k e)

within_budget : (before : List Tag) (set : Setting) (h : Hearing) (p : SweepState) (d : Action) → StandsAfter before h p d → StandsAfter before h p (budget_checked set p d)
within_budget before set h p d k =
    cond_both (leb set.budget p.commands) (stops 8) d (StandsAfter before h p) (λ e. stopped before h p 8 (λ z. omega arith)) (λ e. k)

within_room : (before : List Tag) (set : Setting) (h : Hearing) (p : SweepState) (d : Action) → StandsAfter before h p d → StandsAfter before h p (room_checked set p d)
within_room before set h p d k =
    within_budget before set h p (cond (leb set.slot_room (length p.slots)) (stops 9) d)
    (cond_both (leb set.slot_room (length p.slots)) (stops 9) d (StandsAfter before h p) (λ e. stopped before h p 9 (λ z. omega arith)) (λ e. k))

units : (tags : List Tag) → AllByRecursion (λ t. Unit {0}) tags
units [] = tt
units (t ∷ ts) = (tt, units ts)

-- A slot, by the serial numbers that are replied.
opened : (before : List Tag) (l : List (List ℕ)) (h : Hearing) (p : SweepState) → Clears before h → turns p.tags ≡ l → MayHear (voices l) h → AreSized l
    → Between before p.waiting p.serials p.tags → Stands before p (opened_by h (voices l))
opened before [] Silence p clear e m z b = (b, e)
opened before [] Lone p clear e m z b = cc
opened before [] Clash p clear e m z b = b
opened before (s ∷ []) Silence p clear e m z b = ⊎_elim (λ x. cc) (λ x. cc) m
opened before (s ∷ []) Lone p clear e m z b = subst (λ (x : List ℕ). Stands before p (in_lone x)) (sym (serial_heard s z.0)) (b, e, clear refl)
opened before (s ∷ []) Clash p clear e m z b = b
opened before (s ∷ r ∷ rest) Silence p clear e m z b = cc
opened before (s ∷ r ∷ rest) Lone p clear e m z b = cc
opened before (s ∷ r ∷ rest) Clash p clear e m z b = b

module _ (before : List Tag) (sized : AreSized (map serial_of before)) where
  sized_still : (tags : List Tag) → map outcome tags ≡ map tag_after_sweep before → AreSized (map serial_of tags)
  sized_still tags e = subst AreSized (sym (same_serials tags before e)) sized

  distinct_still : (tags : List Tag) → map outcome tags ≡ map tag_after_sweep before → Distinct before → Distinct tags
  distinct_still tags e distinct serial =
      subst (λ (l : List (List ℕ)). times serial l ≤ 1) (sym (same_serials tags before e)) (distinct serial)

  slot : (c : Command) (frame : List ℕ) (row g next : ℕ) (h : Hearing) (p : SweepState) (Before : Tag → Type 0) (goal : Tag → Tag) (chosen : Tag → Bool)
      → Clears before h → Takes (order_in (opening frame)) Before (Fit g) goal chosen → Opens (order_in (opening frame)) → AllByRecursion Before p.tags → map goal p.tags ≡ map tag_after_sweep before
      → ((serial : List ℕ) → times serial p.serials + tally chosen serial p.tags ≡ times serial (due_serials before))
      → StandsAfter before h p (opens c frame row g next)
  slot c frame row g next h p Before goal chosen clear each heard all goals counts m =
      let after : List Tag = stepped_all (opening frame) row p.tags in
      let air : on_air (opening frame) row p.tags ≡ voices (turns after) = air_after (opening frame) heard row p.tags in
      let outcomes : map outcome after ≡ map tag_after_sweep before = outcomes_after (opening frame) Before (Fit g) goal chosen each row p.tags all ∙ goals in
      let b : Between before g p.serials after =
      record {
        outcomes = outcomes;
        fits = all_after (opening frame) Before (Fit g) goal chosen each row p.tags all;
        counts = λ serial.
            ap (λ (n : ℕ). times serial p.serials + n) (active_after (opening frame) Before (Fit g) goal chosen each serial row p.tags all) ∙ counts serial;
      } in
      subst (λ (a : Air). Stands before (after_action (opens c frame row g next) h p) (opened_by h a)) (sym air)
      (opened before (turns after) h (after_action (opens c frame row g next) h p) clear refl (subst (λ (a : Air). MayHear a h) air m)
      (turns_sized after (sized_still after outcomes)) b)

  -- A serial number that is listed.
  listed : (serial : List ℕ) (h : Hearing) (p : SweepState) → Stands before p (in_lone serial) → StandsAfter before h p (lists serial)
  listed serial h p (b, e, distinct) m =
      let alone = lone serial p.tags e (distinct_still p.tags b.outcomes distinct serial) in
      record {
        size = (subst AreSized e (turns_sized p.tags (sized_still p.tags b.outcomes))).0;
        outcomes = b.outcomes;
        ready = all_readable serial p.waiting p.tags b.fits alone;
        counts = λ s.
            let push = times_push s serial p.serials in
            let parts = apart serial s p.tags alone in
            let here : times s (turns p.tags) ≡ times s (serial ∷ []) = ap (times s) e in
            let all = b.counts s in
            omega arith;
      }

  -- A READ, by how it is heard.
  module _ (serial : List ℕ) (p : SweepState) (r : Reading before p.waiting p.serials serial p.tags) where
    abbrev after_read : List Tag
    after_read = stepped_all (opening (read serial)) 0 p.tags

    unheard : AllByRecursion (Unheard serial p.waiting) after_read
    unheard =
        all_after (opening (read serial)) (Readable serial p.waiting) (Unheard serial p.waiting) outcome (is_left_by serial) (read_each serial p.waiting r.size) 0 p.tags r.ready

    read_outcomes : map outcome after_read ≡ map tag_after_sweep before
    read_outcomes =
        outcomes_after (opening (read serial)) (Readable serial p.waiting) (Unheard serial p.waiting) outcome (is_left_by serial) (read_each serial p.waiting r.size) 0 p.tags r.ready
        ∙ r.outcomes

    read_counts : (s : List ℕ) → times s p.serials + tally is_active s after_read ≡ times s (due_serials before)
    read_counts s =
        ap (λ (n : ℕ). times s p.serials + n)
        (active_after (opening (read serial)) (Readable serial p.waiting) (Unheard serial p.waiting) outcome (is_left_by serial) (read_each serial p.waiting r.size) s 0 p.tags r.ready)
        ∙ r.counts s

    reading_on : Reading before p.waiting p.serials serial after_read
    reading_on =
        record {
          size = r.size;
          outcomes = read_outcomes;
          ready = all_of (Unheard serial p.waiting) (Readable serial p.waiting) (λ t u. u.readable) after_read unheard;
          counts = λ s.
              ap (λ (n : ℕ). times s p.serials + n)
              (tally_same (is_left_by serial) is_active s after_read
              (all_of (Unheard serial p.waiting) (λ t. is_left_by serial t ≡ is_active t) (λ t u. u.left) after_read unheard))
              ∙ read_counts s;
        }

    read_through : Between before p.waiting p.serials after_read × (turns after_read ≡ [])
    read_through = (
      record {
        outcomes = read_outcomes;
        fits = all_of (Unheard serial p.waiting) (Fit p.waiting) (λ t u. u.readable.fit) after_read unheard;
        counts = read_counts;
      },
      no_turns after_read (all_of (Unheard serial p.waiting) (λ t. has_turn t ≡ false) (λ t u. u.silent) after_read unheard),
    )

    was_read : (h : Hearing) → Stands before (after_action (reads serial) h p) (read_by h serial)
    was_read Silence = reading_on
    was_read Lone = read_through
    was_read Clash = reading_on

  -- The closing REPEAT.
  closing : (h : Hearing) (p : SweepState) → Stands before p in_silence → p.waiting ≡ 0 → Over before (after_action closes h p)
  closing h p (b, e) z =
      let fits : AllByRecursion (Fit 0) p.tags = subst (λ (n : ℕ). AllByRecursion (Fit n) p.tags) z b.fits in
      let none = no_turn p.tags e in
      record {
        tags = closed 0 p.tags fits none ∙ b.outcomes;
        serials = λ serial. omega (arith, b.counts serial, none_active serial p.tags fits none);
      }

  -- Each action, by the phase.
  action : (set : Setting) (h : Hearing) (p : SweepState) (phase : Phase) → Clears before h → p.phase ≡ phase → Stands before p phase
      → StandsAfter before h p (action_in set p phase)
  action set h p fresh clear e k =
      within_room before set h p (opens Select select 0 0 0)
      (slot Select select 0 0 0 h p (λ t. Unit {0}) tag_after_sweep is_due clear select_each select_heard (units p.tags) (ap (map tag_after_sweep) k.0)
      (λ serial. ap₂ (λ (l : List (List ℕ)) (ts : List Tag). times serial l + tally is_due serial ts) k.1 k.0 ∙ omega arith))
  action set h p in_silence clear e k =
      cond_both (eqb p.waiting 0) (budget_checked set p closes) (room_checked set p (opens Scroll scroll 0 (p.waiting - 1) p.next)) (StandsAfter before h p)
      (λ z. within_budget before set h p closes (λ m. λ zero. closing h p k (eqb-true p.waiting 0 z)))
      (λ z. within_room before set h p (opens Scroll scroll 0 (p.waiting - 1) p.next)
      (slot Scroll scroll 0 (p.waiting - 1) p.next h p (Fit p.waiting) outcome is_active clear (scroll_each p.waiting) scroll_heard k.0.fits k.0.outcomes k.0.counts))
  action set h p (in_lone serial) clear e k =
      cond_both (leb set.serial_room (length p.serials)) (stops 9) (lists serial) (StandsAfter before h p) (λ z. stopped before h p 9 (λ x. omega arith))
      (λ z. listed serial h p k)
  action set h p in_clash clear e k =
      cond_both (eqb p.waiting 255) (stops 7)
      (room_checked set p (opens Query query (coins_at set.coins p.next) (p.waiting + 1) (place_behind set.coins p.next))) (StandsAfter before h p)
      (λ z. stopped before h p 7 (λ x. omega arith))
      (λ z. within_room before set h p (opens Query query (coins_at set.coins p.next) (p.waiting + 1) (place_behind set.coins p.next))
      (slot Query query (coins_at set.coins p.next) (p.waiting + 1) (place_behind set.coins p.next) h p (Fit p.waiting) outcome is_active clear
      (query_each p.waiting) query_heard k.fits k.outcomes k.counts))
  action set h p (in_reading serial) clear e k = within_budget before set h p (reads serial) (λ m. was_read serial p k h)
  action set h p (ended n) clear e k = λ m. subst (λ (phase : Phase). Stands before p phase) (sym e) k

  pub actions : (set : Setting) (hs : List Hearing) (p : SweepState) → AllByRecursion (Clears before) hs → Stands before p p.phase → MayHearAll set hs p
      → Stands before (run_by set hs p) (run_by set hs p).phase
  unfolding run_by MayHearAll advanced MayHearNext
  actions set [] p clear k heard = k
  actions set (h ∷ hs) p clear k heard = actions set hs (advanced set h p) clear.1 (action set h p p.phase clear.0 refl k heard.0) heard.1

-- Serial numbers have eight bytes, as memories have 56.
serials_each : (tags : List Tag) → AllByRecursion (λ t. length t.memory ≡ 56) tags → AreSized (map serial_of tags)
serials_each [] h = tt
serials_each (t ∷ ts) h =
    let eight : length (serial_of t) ≡ 8 = length-take-le 8 t.memory (omega (arith, h.0)) in
    (eight, serials_each ts h.1)

pub sized_serials : (tags : List Tag) → Sized tags → AreSized (map serial_of tags)
sized_serials tags sized = serials_each tags (recursion_from_All (λ t. length t.memory ≡ 56) tags sized)

pub over : (set : Setting) (hs : List Hearing) (tags : List Tag) → Sized tags → AllByRecursion (Clears tags) hs → MayHearAll set hs (beginning tags)
    → (run_by set hs (beginning tags)).phase ≡ ended 0 → Over tags (run_by set hs (beginning tags))
over set hs tags sized clear heard e =
    subst (λ (phase : Phase). Stands tags (run_by set hs (beginning tags)) phase) e
    (actions tags (sized_serials tags sized) set hs (beginning tags) clear (refl, refl) heard) refl

all_clear : (tags : List Tag) → Distinct tags → (hs : List Hearing) → AllByRecursion (Clears tags) hs
all_clear tags distinct [] = tt
all_clear tags distinct (h ∷ hs) = ((λ lone. distinct), all_clear tags distinct hs)

pub sweep_effects : SweepEffects
sweep_effects set hs tags sized distinct heard e =
    let o = over set hs tags sized (all_clear tags distinct hs) heard e in
    record {
      tags = o.tags;
      serials = record {
        same = o.serials;
        once = λ serial. omega (arith, o.serials serial, tally-le is_due serial tags, distinct serial);
      };
    }

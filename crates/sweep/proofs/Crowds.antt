-- A list of tags in a sweep, command by command. Assumes nothing.
use Rattle.std.proofs.Common.{◌≡◌, ℕ, ◌+◌, ◌/◌, ◌≤◌, Bool, true, false, cond, not, ◌&&◌, eqb, List, [], ◌∷◌, ◌++◌, map, length, Some, None, Option, sym, refl, ap, ◌∙◌, ap₂, arith}
use Rattle.std.specs.List.{filter, AllByRecursion}
use Rattle.std.specs.Str.{bytes_eq}
use Rattle.std.proofs.lemmas.Slice.Eq.{bytes_eq-Decides}
use Rattle.std.proofs.lemmas.List.Sums.{sum_by-cons, sum_by-append}
use Rattle.crc.specs.Check.{sealed}
use Rattle.frame.specs.Openings.{Opening, opening}
use Rattle.record.specs.declared.Tag.{Tag}
use Rattle.record.specs.Records.{serial_of}
use Rattle.tag.specs.Orders.{order_in}
use Rattle.tag.specs.Steps.{has_serial, stepped}
use Rattle.reply.specs.Replies.{sealed_reply}
use Rattle.field.specs.Airs.{Air, silent, one, many, mixed, air_of_one}
use Rattle.field.specs.Sends.{first_coin, stepped_all, on_air}
use Rattle.slot.specs.Commands.{repeat}
use Rattle.sweep.specs.Effects.{times, tag_after_sweep}
use Rattle.sweep.proofs.Tags.{is_active, has_turn, is_left_by, outcome, Fit, Readable, Takes, Opens, not_active, readable, serial_of_outcome, serial_after_sweep, again_each}

-- How many of the tags that some test picks have a serial number.
abbrev pub tally : (Tag → Bool) → List ℕ → List Tag → ℕ
tally test serial tags = times serial (map serial_of (filter test tags))

-- The serial numbers of the tags whose turn it is.
abbrev pub turns : List Tag → List (List ℕ)
turns tags = map serial_of (filter has_turn tags)

-- What is on the air when some serial numbers are replied at once.
abbrev pub voices : List (List ℕ) → Air
voices [] = silent
voices (s ∷ []) = one (sealed s)
voices (s ∷ r ∷ rest) = many

abbrev hit : List ℕ → List ℕ → ℕ
hit serial s = cond (bytes_eq s serial) 1 0

abbrev point : (Tag → Bool) → List ℕ → Tag → ℕ
point test serial t = cond (test t) (hit serial (serial_of t)) 0

times-cons : (serial s : List ℕ) (rest : List (List ℕ)) → times serial (s ∷ rest) ≡ hit serial s + times serial rest
times-cons serial s rest = sum_by-cons (hit serial) s rest

counted : (b : Bool) (serial : List ℕ) (t : Tag) (rest : List Tag)
    → times serial (map serial_of (cond b (t ∷ rest) rest)) ≡ cond b (hit serial (serial_of t)) 0 + times serial (map serial_of rest)
counted true serial t rest = times-cons serial (serial_of t) (map serial_of rest)
counted false serial t rest = omega arith

tally-cons : (test : Tag → Bool) (serial : List ℕ) (t : Tag) (ts : List Tag) → tally test serial (t ∷ ts) ≡ point test serial t + tally test serial ts
tally-cons test serial t ts = counted (test t) serial t (filter test ts)

hit_self : (s : List ℕ) → hit s s ≡ 1
hit_self s = ap (λ (b : Bool). cond b 1 0) ((bytes_eq-Decides s s).1 refl)

at_most_one : (b : Bool) → cond b 1 0 ≤ 1
at_most_one true = omega arith
at_most_one false = omega arith

picked : (b : Bool) (n : ℕ) → cond b n 0 ≤ n
picked true n = omega arith
picked false n = omega arith

-- Those that are picked are no more than all.
pub tally-le : (test : Tag → Bool) (serial : List ℕ) (tags : List Tag) → tally test serial tags ≤ times serial (map serial_of tags)
tally-le test serial [] = omega arith
tally-le test serial (t ∷ ts) =
    let rest : tally test serial ts ≤ times serial (map serial_of ts) = tally-le test serial ts in
    omega (arith, tally-cons test serial t ts, times-cons serial (serial_of t) (map serial_of ts), picked (test t) (hit serial (serial_of t)))

-- A frame, whose order is known to do something to each tag.
module _ (frame : Opening) (Before After : Tag → Type 0) (goal : Tag → Tag) (chosen : Tag → Bool)
    (each : Takes (order_in frame) Before After goal chosen) where
  pub outcomes_after : (row : ℕ) (tags : List Tag) → AllByRecursion Before tags → map outcome (stepped_all frame row tags) ≡ map goal tags
  unfolding stepped_all
  outcomes_after row [] h = refl
  outcomes_after row (t ∷ ts) h =
      ap₂ (λ (u : Tag) (us : List Tag). u ∷ us) (each.outcomes (first_coin row) t h.0) (outcomes_after (row / 2) ts h.1)

  pub all_after : (row : ℕ) (tags : List Tag) → AllByRecursion Before tags → AllByRecursion After (stepped_all frame row tags)
  unfolding stepped_all
  all_after row [] h = tt
  all_after row (t ∷ ts) h = (each.after (first_coin row) t h.0, all_after (row / 2) ts h.1)

  pub active_after : (serial : List ℕ) (row : ℕ) (tags : List Tag) → AllByRecursion Before tags
      → tally is_active serial (stepped_all frame row tags) ≡ tally chosen serial tags
  unfolding stepped_all
  active_after serial row [] h = refl
  active_after serial row (t ∷ ts) h =
      let u : Tag = stepped frame (first_coin row) t in
      let here : point is_active serial u ≡ point chosen serial t =
      ap₂ (λ (b : Bool) (s : List ℕ). cond b (hit serial s) 0) (each.active (first_coin row) t h.0) (each.serial (first_coin row) t) in
      tally-cons is_active serial u (stepped_all frame (row / 2) ts)
      ∙ ap₂ (λ (x y : ℕ). x + y) here (active_after serial (row / 2) ts h.1)
      ∙ sym (tally-cons chosen serial t ts)

-- The replies to a frame that opens a slot.
sounded : (b : Bool) (t : Tag) (rest : List Tag)
    → mixed (air_of_one (sealed_reply (cond b (Some (serial_of t)) None))) (voices (map serial_of rest)) ≡ voices (map serial_of (cond b (t ∷ rest) rest))
sounded true t [] = refl
sounded true t (u ∷ []) = refl
sounded true t (u ∷ v ∷ rest) = refl
sounded false t rest = refl

pub air_after : (frame : Opening) → Opens (order_in frame) → (row : ℕ) (tags : List Tag) → on_air frame row tags ≡ voices (turns (stepped_all frame row tags))
unfolding stepped_all on_air
air_after frame opens row [] = refl
air_after frame opens row (t ∷ ts) =
    let u : Tag = stepped frame (first_coin row) t in
    ap₂ (λ (x : Option (List ℕ)) (a : Air). mixed (air_of_one (sealed_reply x)) a) (opens (first_coin row) t) (air_after frame opens (row / 2) ts)
    ∙ sounded (has_turn u) u (filter has_turn (stepped_all frame (row / 2) ts))

-- What holds of each tag.
pub all_of : (P Q : Tag → Type 0) → ((t : Tag) → P t → Q t) → (tags : List Tag) → AllByRecursion P tags → AllByRecursion Q tags
all_of P Q f [] h = tt
all_of P Q f (t ∷ ts) h = (f t h.0, all_of P Q f ts h.1)

pub tally_same : (test other : Tag → Bool) (serial : List ℕ) (tags : List Tag) → AllByRecursion (λ t. test t ≡ other t) tags
    → tally test serial tags ≡ tally other serial tags
tally_same test other serial [] h = refl
tally_same test other serial (t ∷ ts) h =
    tally-cons test serial t ts
    ∙ ap₂ (λ (b : Bool) (n : ℕ). cond b (hit serial (serial_of t)) 0 + n) h.0 (tally_same test other serial ts h.1)
    ∙ sym (tally-cons other serial t ts)

-- No tag has its turn.
none_here : (b : Bool) (t : Tag) (rest : List Tag) → map serial_of (cond b (t ∷ rest) rest) ≡ [] → (b ≡ false) × (map serial_of rest ≡ [])
none_here true t rest e = cc
none_here false t rest e = (refl, e)

pub no_turn : (tags : List Tag) → turns tags ≡ [] → AllByRecursion (λ t. has_turn t ≡ false) tags
no_turn [] e = tt
no_turn (t ∷ ts) e =
    let parts = none_here (has_turn t) t (filter has_turn ts) e in
    (parts.0, no_turn ts parts.1)

pub no_turns : (tags : List Tag) → AllByRecursion (λ t. has_turn t ≡ false) tags → turns tags ≡ []
no_turns [] h = refl
no_turns (t ∷ ts) h =
    ap (λ (b : Bool). map serial_of (cond b (t ∷ filter has_turn ts) (filter has_turn ts))) h.0 ∙ no_turns ts h.1

-- The closing REPEAT.
pub closed : (row : ℕ) (tags : List Tag) → AllByRecursion (Fit 0) tags → AllByRecursion (λ t. has_turn t ≡ false) tags
    → stepped_all (opening repeat) row tags ≡ map outcome tags
unfolding stepped_all
closed row [] fits h = refl
closed row (t ∷ ts) fits h =
    ap₂ (λ (u : Tag) (us : List Tag). u ∷ us) (again_each (first_coin row) t fits.0 h.0) (closed (row / 2) ts fits.1 h.1)

pub none_active : (serial : List ℕ) (tags : List Tag) → AllByRecursion (Fit 0) tags → AllByRecursion (λ t. has_turn t ≡ false) tags
    → tally is_active serial tags ≡ 0
none_active serial [] fits h = refl
none_active serial (t ∷ ts) fits h =
    tally-cons is_active serial t ts
    ∙ ap₂ (λ (b : Bool) (n : ℕ). cond b (hit serial (serial_of t)) 0 + n) (not_active t fits.0 h.0) (none_active serial ts fits.1 h.1)

-- One tag has its turn: the one that has its serial number, where none is there twice.
abbrev pub IsLone : List ℕ → Tag → Type 0
IsLone serial t = has_turn t ≡ has_serial t serial

missed : (b : Bool) → cond b 1 0 ≤ 0 → b ≡ false
missed true h = absurd (omega arith)
missed false h = refl

-- Where no serial number is picked, no tag is.
pub none_picked : (test : Tag → Bool) (tags : List Tag) → ((serial : List ℕ) → tally test serial tags ≡ 0) → AllByRecursion (λ t. test t ≡ false) tags
none_picked test [] h = tt
none_picked test (t ∷ ts) h =
    let s : List ℕ = serial_of t in
    let here : point test s t ≡ 0 = omega (arith, tally-cons test s t ts, h s) in
    let unpicked : cond {A = ℕ} (test t) 1 0 ≡ 0 = ap (λ (n : ℕ). cond (test t) n 0) (sym (hit_self s)) ∙ here in
    (missed (test t) (omega arith), none_picked test ts (λ serial. omega (arith, tally-cons test serial t ts, h serial)))

lone_rest : (serial : List ℕ) (tags : List Tag) → turns tags ≡ [] → times serial (map serial_of tags) ≤ 0 → AllByRecursion (IsLone serial) tags
lone_rest serial [] e h = tt
lone_rest serial (t ∷ ts) e h =
    let parts = none_here (has_turn t) t (filter has_turn ts) e in
    let count = times-cons serial (serial_of t) (map serial_of ts) in
    (parts.0 ∙ sym (missed (has_serial t serial) (omega arith)), lone_rest serial ts parts.1 (omega arith))

lone_head : (b : Bool) (serial : List ℕ) (t : Tag) (ts : List Tag) → has_turn t ≡ b
    → map serial_of (cond b (t ∷ filter has_turn ts) (filter has_turn ts)) ≡ serial ∷ [] → times serial (map serial_of (t ∷ ts)) ≤ 1
    → (turns ts ≡ serial ∷ [] → times serial (map serial_of ts) ≤ 1 → AllByRecursion (IsLone serial) ts) → AllByRecursion (IsLone serial) (t ∷ ts)
lone_head true serial t ts turn e h rest =
    let same : serial_of t ≡ serial = cc in
    let none : turns ts ≡ [] = cc in
    let meant : has_serial t serial ≡ true = (bytes_eq-Decides (serial_of t) serial).1 same in
    let one_more : hit serial (serial_of t) ≡ 1 = ap (λ (x : Bool). cond x 1 0) meant in
    let count = times-cons serial (serial_of t) (map serial_of ts) in
    (turn ∙ sym meant, lone_rest serial ts none (omega arith))
lone_head false serial t ts turn e h rest =
    let here : times serial (turns ts) ≡ hit serial serial + 0 = ap (times serial) e ∙ times-cons serial serial [] in
    let some : hit serial serial ≡ 1 = hit_self serial in
    let fewer : times serial (turns ts) ≤ times serial (map serial_of ts) = tally-le has_turn serial ts in
    let count = times-cons serial (serial_of t) (map serial_of ts) in
    (turn ∙ sym (missed (has_serial t serial) (omega arith)), rest e (omega arith))

pub lone : (serial : List ℕ) (tags : List Tag) → turns tags ≡ serial ∷ [] → times serial (map serial_of tags) ≤ 1 → AllByRecursion (IsLone serial) tags
lone serial [] e h = tt
lone serial (t ∷ ts) e h = lone_head (has_turn t) serial t ts refl e h (lone serial ts)

pub all_readable : (serial : List ℕ) (w : ℕ) (tags : List Tag) → AllByRecursion (Fit w) tags → AllByRecursion (IsLone serial) tags
    → AllByRecursion (Readable serial w) tags
all_readable serial w [] fits h = tt
all_readable serial w (t ∷ ts) fits h = (readable serial w t fits.0 h.0, all_readable serial w ts fits.1 h.1)

-- Those that are active are the one and those that will be left.
parted : (a z : Bool) (n : ℕ) → cond a n 0 ≡ cond (a && z) n 0 + cond (a && not (a && z)) n 0
parted true true n = omega arith
parted true false n = omega arith
parted false z n = omega arith

pub apart : (lone_one serial : List ℕ) (tags : List Tag) → AllByRecursion (IsLone lone_one) tags
    → tally is_active serial tags ≡ times serial (turns tags) + tally (is_left_by lone_one) serial tags
apart lone_one serial [] h = refl
apart lone_one serial (t ∷ ts) h =
    let n : ℕ = hit serial (serial_of t) in
    let here : point is_active serial t ≡ point has_turn serial t + point (is_left_by lone_one) serial t =
    parted (is_active t) (eqb t.counter 0) n ∙ ap (λ (b : Bool). point has_turn serial t + cond (is_active t && not b) n 0) h.0 in
    let rest = apart lone_one serial ts h.1 in
    let x = tally-cons is_active serial t ts in
    let y : times serial (turns (t ∷ ts)) ≡ point has_turn serial t + times serial (turns ts) = tally-cons has_turn serial t ts in
    let z = tally-cons (is_left_by lone_one) serial t ts in
    omega arith

-- Serial numbers.
serials_of_outcomes : (tags : List Tag) → map serial_of (map outcome tags) ≡ map serial_of tags
serials_of_outcomes [] = refl
serials_of_outcomes (t ∷ ts) = ap₂ (λ (s : List ℕ) (rest : List (List ℕ)). s ∷ rest) (serial_of_outcome t) (serials_of_outcomes ts)

serials_after_sweep : (tags : List Tag) → map serial_of (map tag_after_sweep tags) ≡ map serial_of tags
serials_after_sweep [] = refl
serials_after_sweep (t ∷ ts) = ap₂ (λ (s : List ℕ) (rest : List (List ℕ)). s ∷ rest) (serial_after_sweep t) (serials_after_sweep ts)

pub same_serials : (tags before : List Tag) → map outcome tags ≡ map tag_after_sweep before → map serial_of tags ≡ map serial_of before
same_serials tags before e = sym (serials_of_outcomes tags) ∙ ap (map serial_of) e ∙ serials_after_sweep before

abbrev pub AreSized : List (List ℕ) → Type 0
AreSized serials = AllByRecursion (λ s. length s ≡ 8) serials

kept_sized : (b : Bool) (t : Tag) (rest : List Tag) → length (serial_of t) ≡ 8 → AreSized (map serial_of rest) → AreSized (map serial_of (cond b (t ∷ rest) rest))
kept_sized true t rest h k = (h, k)
kept_sized false t rest h k = k

pub turns_sized : (tags : List Tag) → AreSized (map serial_of tags) → AreSized (turns tags)
turns_sized [] h = tt
turns_sized (t ∷ ts) h = kept_sized (has_turn t) t (filter has_turn ts) h.0 (turns_sized ts h.1)

pub times_push : (serial s : List ℕ) (serials : List (List ℕ)) → times serial (serials ++ s ∷ []) ≡ times serial serials + times serial (s ∷ [])
times_push serial s serials = sum_by-append (hit serial) serials (s ∷ [])

-- One tag in a sweep, command by command. Assumes nothing.
use Rattle.std.proofs.Common.{◌≡◌, ℕ, ◌+◌, ◌-◌, ◌≤◌, Bool, true, false, cond, not, ◌&&◌, ◌||◌, eqb, ltb, List, length, Some, None, Option, sym, refl, ap, ◌∙◌, subst, arith, eq-eqb}
use Rattle.std.proofs.lemmas.Bool.{true≢false, and_right, and_parts, eqb-true, cond_both}
use Rattle.std.proofs.Math.Bool.{and-true}
use Rattle.frame.specs.Openings.{opening}
use Rattle.record.specs.declared.State.{State}
use Rattle.record.specs.declared.State.TheVariants.{Ready, Singulation, Inventoried}
use Rattle.record.specs.declared.WriteMark.{WriteMark}
use Rattle.record.specs.declared.WriteMark.TheVariants.{Clear, Fading, Fresh}
use Rattle.record.specs.declared.Tag.{Tag}
use Rattle.record.specs.Masks.{matches}
use Rattle.record.specs.Records.{serial_of, fallen}
use Rattle.tag.specs.Orders as orders
use Rattle.tag.specs.Orders.{Order, order_in}
use Rattle.tag.specs.Steps.{if_singulated, is_selected, selected, counter_raised, counter_after_query, dealt_with, prepared, has_serial, obeyed, answered, stepped}
use Rattle.slot.specs.Commands.{word, select, query, scroll, repeat, read}
use Rattle.sweep.specs.Effects.{is_due, tag_after_sweep}
use Rattle.sweep.proofs.Frames.{order-select, order-query, order-scroll, order-again, order-read}

-- It is selected and not read yet.
abbrev pub is_active : Tag → Bool
is_active t = if_singulated t.state true false

abbrev pub has_turn : Tag → Bool
has_turn t = is_active t && eqb t.counter 0

-- It will be active once a READ has been obeyed.
abbrev pub is_left_by : List ℕ → Tag → Bool
is_left_by serial t = is_active t && not (has_serial t serial)

-- What becomes of a tag by the end of a sweep.
abbrev pub outcome : Tag → Tag
outcome t = record (cond (is_active t) (dealt_with (record t { counter = 0 })) t) { mark = Clear; permission = None }

-- The serial number of a tag whose turn it is.
abbrev pub voiced : Tag → Option (List ℕ)
voiced t = cond (has_turn t) (Some (serial_of t)) None

-- A tag after SELECT: its mark is clear by the next command, and its turn comes within so many groups.
pub record Fit (waiting : ℕ) (t : Tag) : Type 0 where
  pub mark : fallen t.mark ≡ Clear
  pub within : is_active t ≡ true → t.counter ≤ waiting

-- A tag as a READ finds it: it changes nothing that counts at the end, and none else has its turn.
pub record Readable (serial : List ℕ) (waiting : ℕ) (t : Tag) : Type 0 where
  pub fit : Fit waiting t
  pub settled : has_serial t serial ≡ true → outcome (dealt_with t) ≡ outcome t
  pub alone : has_serial t serial ≡ false → has_turn t ≡ false

-- And as READ leaves it.
pub record Unheard (serial : List ℕ) (waiting : ℕ) (t : Tag) : Type 0 where
  pub readable : Readable serial waiting t
  pub silent : has_turn t ≡ false
  pub left : is_left_by serial t ≡ is_active t

-- What an order does to each tag.
pub record Takes (o : Order) (Before After : Tag → Type 0) (goal : Tag → Tag) (chosen : Tag → Bool) : Type 0 where
  pub serial : (coin : Bool) (t : Tag) → serial_of (obeyed o coin t.permission (prepared t)) ≡ serial_of t
  pub outcomes : (coin : Bool) (t : Tag) → Before t → outcome (obeyed o coin t.permission (prepared t)) ≡ goal t
  pub active : (coin : Bool) (t : Tag) → Before t → is_active (obeyed o coin t.permission (prepared t)) ≡ chosen t
  pub after : (coin : Bool) (t : Tag) → Before t → After (obeyed o coin t.permission (prepared t))

-- An order to which each tag replies its serial number, if it is then its turn.
abbrev pub Opens : Order → Type 0
Opens o = (coin : Bool) (t : Tag) → answered o coin (prepared t) ≡ voiced (obeyed o coin t.permission (prepared t))

-- A tag by its parts.
abbrev tag : List ℕ → List Bool → State → Bool → ℕ → WriteMark → Option ℕ → Tag
tag memory locks state identified counter mark permission =
    record {
      memory = memory;
      locks = locks;
      state = state;
      identified = identified;
      counter = counter;
      mark = mark;
      permission = permission;
    }

fallen_twice : (m : WriteMark) → fallen (fallen m) ≡ Clear
fallen_twice Clear = refl
fallen_twice Fading = refl
fallen_twice Fresh = refl

either : (P : Tag → Type 0) (b : Bool) (x y : Tag) → P x → P y → P (cond b x y)
either P b x y h k = cond_both b x y P (λ e. h) (λ e. k)

inactive : {X : Type 0} → false ≡ true → X
inactive e = absurd (true≢false (sym e))

-- A tag whose turn it is not is not active, if no group waits.
pub not_active : (t : Tag) → Fit 0 t → has_turn t ≡ false → is_active t ≡ false
not_active t fit h = go (is_active t) refl
  where
    go : (b : Bool) → is_active t ≡ b → b ≡ false
    go false e = refl
    go true e =
        let zeroth : t.counter ≡ 0 = omega (arith, fit.within e) in
        sym (ap (λ (a : Bool). a && eqb t.counter 0) e ∙ eq-eqb t.counter 0 zeroth) ∙ h

-- A tag by its parts, in each of its states.
module _ (m : List ℕ) (l : List Bool) (i : Bool) (c : ℕ) (k : WriteMark) (p : Option ℕ) where
  abbrev of_state : State → Tag
  of_state s = tag m l s i c k p

  outcome-met : (s : State) → outcome (prepared (of_state s)) ≡ outcome (of_state s)
  outcome-met Ready = refl
  outcome-met Singulation = refl
  outcome-met Inventoried = refl

  -- SELECT, by whether the tag matches.
  abbrev after_select : State → Bool → Tag
  after_select s b = cond (is_selected s b) (selected (prepared (of_state s))) (prepared (of_state s))

  selected_outcome : (s : State) (b : Bool)
      → outcome (after_select s b) ≡ record (cond (is_selected s b) (dealt_with (record (of_state s) { counter = 0 })) (of_state s)) { mark = Clear; permission = None }
  selected_outcome Ready true = refl
  selected_outcome Ready false = refl
  selected_outcome Singulation b = refl
  selected_outcome Inventoried b = refl

  selected_active : (s : State) (b : Bool) → is_active (after_select s b) ≡ is_selected s b
  selected_active Ready true = refl
  selected_active Ready false = refl
  selected_active Singulation b = refl
  selected_active Inventoried b = refl

  selected_fit : (s : State) (b : Bool) → Fit 0 (after_select s b)
  selected_fit Ready true = record { mark = fallen_twice k; within = λ e. omega arith }
  selected_fit Ready false = record { mark = fallen_twice k; within = inactive }
  selected_fit Singulation b = record { mark = fallen_twice k; within = λ e. omega arith }
  selected_fit Inventoried b = record { mark = fallen_twice k; within = inactive }

  selected_voiced : (s : State) (b : Bool) → cond (is_selected s b) (Some (serial_of (of_state s))) None ≡ voiced (after_select s b)
  selected_voiced Ready true = refl
  selected_voiced Ready false = refl
  selected_voiced Singulation b = refl
  selected_voiced Inventoried b = refl

  -- QUERY and SCROLL, by what they make of the counter.
  abbrev counted : State → ℕ → Tag
  counted s n = if_singulated s (record (prepared (of_state s)) { counter = n }) (prepared (of_state s))

  counted_serial : (s : State) (n : ℕ) → serial_of (counted s n) ≡ serial_of (of_state s)
  counted_serial Ready n = refl
  counted_serial Singulation n = refl
  counted_serial Inventoried n = refl

  counted_outcome : (s : State) (n : ℕ) → outcome (counted s n) ≡ outcome (of_state s)
  counted_outcome Ready n = refl
  counted_outcome Singulation n = refl
  counted_outcome Inventoried n = refl

  counted_active : (s : State) (n : ℕ) → is_active (counted s n) ≡ is_active (of_state s)
  counted_active Ready n = refl
  counted_active Singulation n = refl
  counted_active Inventoried n = refl

  counted_fit : (s : State) (n w v : ℕ) → (c ≤ w → n ≤ v) → Fit w (of_state s) → Fit v (counted s n)
  counted_fit Ready n w v h fit = record { mark = ap fallen fit.mark; within = inactive }
  counted_fit Singulation n w v h fit = record { mark = ap fallen fit.mark; within = λ e. h (fit.within refl) }
  counted_fit Inventoried n w v h fit = record { mark = ap fallen fit.mark; within = inactive }

  counted_voiced : (s : State) (n : ℕ) → if_singulated s (cond (eqb n 0) (Some (serial_of (of_state s))) None) None ≡ voiced (counted s n)
  counted_voiced Ready n = refl
  counted_voiced Singulation n = refl
  counted_voiced Inventoried n = refl

select_takes : Takes (orders.select 0x00 0xc0 word) (λ t. Unit {0}) (Fit 0) tag_after_sweep is_due
select_takes =
    record {
      serial = λ coin t. either (λ (u : Tag). serial_of u ≡ serial_of t) (is_selected t.state (matches t.memory 0x00 0xc0 word)) (selected (prepared t)) (prepared t) refl refl;
      outcomes = λ coin t h. selected_outcome t.memory t.locks t.identified t.counter t.mark t.permission t.state (matches t.memory 0x00 0xc0 word);
      active = λ coin t h. selected_active t.memory t.locks t.identified t.counter t.mark t.permission t.state (matches t.memory 0x00 0xc0 word);
      after = λ coin t h. selected_fit t.memory t.locks t.identified t.counter t.mark t.permission t.state (matches t.memory 0x00 0xc0 word);
    }

select_opens : Opens (orders.select 0x00 0xc0 word)
select_opens coin t = selected_voiced t.memory t.locks t.identified t.counter t.mark t.permission t.state (matches t.memory 0x00 0xc0 word)

at_most : (b : Bool) (x y n : ℕ) → x ≤ n → y ≤ n → cond b x y ≤ n
at_most b x y n h k = cond_both b x y (λ z. z ≤ n) (λ e. h) (λ e. k)

drawn-le : (coin : Bool) (n : ℕ) → counter_after_query coin n ≤ n + 1
drawn-le coin n =
    at_most (ltb 0 n || coin) (counter_raised n) n (n + 1) (at_most (eqb n 0xff) n (n + 1) (n + 1) (omega arith) (omega arith)) (omega arith)

query_takes : (w : ℕ) → Takes orders.query (Fit w) (Fit (w + 1)) outcome is_active
query_takes w =
    record {
      serial = λ coin t. counted_serial t.memory t.locks t.identified t.counter t.mark t.permission t.state (counter_after_query coin t.counter);
      outcomes = λ coin t h. counted_outcome t.memory t.locks t.identified t.counter t.mark t.permission t.state (counter_after_query coin t.counter);
      active = λ coin t h. counted_active t.memory t.locks t.identified t.counter t.mark t.permission t.state (counter_after_query coin t.counter);
      after = λ coin t h. counted_fit t.memory t.locks t.identified t.counter t.mark t.permission t.state (counter_after_query coin t.counter) w (w + 1)
          (λ low. omega (arith, drawn-le coin t.counter)) h;
    }

query_opens : Opens orders.query
query_opens coin t = counted_voiced t.memory t.locks t.identified t.counter t.mark t.permission t.state (counter_after_query coin t.counter)

scroll_takes : (w : ℕ) → Takes orders.scroll (Fit w) (Fit (w - 1)) outcome is_active
scroll_takes w =
    record {
      serial = λ coin t. counted_serial t.memory t.locks t.identified t.counter t.mark t.permission t.state (t.counter - 1);
      outcomes = λ coin t h. counted_outcome t.memory t.locks t.identified t.counter t.mark t.permission t.state (t.counter - 1);
      active = λ coin t h. counted_active t.memory t.locks t.identified t.counter t.mark t.permission t.state (t.counter - 1);
      after = λ coin t h. counted_fit t.memory t.locks t.identified t.counter t.mark t.permission t.state (t.counter - 1) w (w - 1)
          (λ low. omega arith) h;
    }

scroll_opens : Opens orders.scroll
scroll_opens coin t = counted_voiced t.memory t.locks t.identified t.counter t.mark t.permission t.state (t.counter - 1)

-- READ, by whether the tag is meant.
module _ (serial : List ℕ) (w : ℕ) (t : Tag) (h : Readable serial w t) where
  abbrev read_when : Bool → Tag
  read_when b = cond b (record (dealt_with (prepared t)) { permission = Some 0x00 }) (prepared t)

  read_outcome : (b : Bool) → has_serial t serial ≡ b → outcome (read_when b) ≡ outcome t
  read_outcome true e = h.settled e
  read_outcome false e = outcome-met t.memory t.locks t.identified t.counter t.mark t.permission t.state

  read_active : (b : Bool) → has_serial t serial ≡ b → is_active (read_when b) ≡ is_left_by serial t
  read_active true e = sym (and_right (is_active t) (not (has_serial t serial)) (ap not e))
  read_active false e = sym (ap (λ (b : Bool). is_active t && not b) e ∙ and-true (is_active t))

  read_unheard : (b : Bool) → has_serial t serial ≡ b → Unheard serial w (read_when b)
  read_unheard true e =
      record {
        readable = record {
          fit = record { mark = ap fallen h.fit.mark; within = inactive };
          settled = λ meant. refl;
          alone = λ other. refl;
        };
        silent = refl;
        left = refl;
      }
  read_unheard false e =
      record {
        readable = record {
          fit = record { mark = ap fallen h.fit.mark; within = h.fit.within };
          settled = λ meant. inactive (sym e ∙ meant);
          alone = h.alone;
        };
        silent = h.alone e;
        left = ap (λ (b : Bool). is_active t && not b) e ∙ and-true (is_active t);
      }

read_takes : (serial : List ℕ) (w : ℕ) → Takes (orders.read serial 0x00 8) (Readable serial w) (Unheard serial w) outcome (is_left_by serial)
read_takes serial w =
    record {
      serial = λ coin t. either (λ (u : Tag). serial_of u ≡ serial_of t) (has_serial t serial) (record (dealt_with (prepared t)) { permission = Some 0x00 }) (prepared t) refl refl;
      outcomes = λ coin t h. read_outcome serial w t h (has_serial t serial) refl;
      active = λ coin t h. read_active serial w t h (has_serial t serial) refl;
      after = λ coin t h. read_unheard serial w t h (has_serial t serial) refl;
    }

-- A READ may meet a tag whose turn it is.
settled : (t : Tag) → has_turn t ≡ true → outcome (dealt_with t) ≡ outcome t
settled t h =
    let parts = and_parts (is_active t) (eqb t.counter 0) h in
    ap (λ (n : ℕ). record (dealt_with (record t { counter = n })) { mark = Clear; permission = None }) (eqb-true t.counter 0 parts.1)
    ∙ ap (λ (b : Bool). record (cond b (dealt_with (record t { counter = 0 })) t) { mark = Clear; permission = None }) (sym parts.0)

pub readable : (serial : List ℕ) (w : ℕ) (t : Tag) → Fit w t → has_turn t ≡ has_serial t serial → Readable serial w t
readable serial w t fit h =
    record {
      fit = fit;
      settled = λ meant. settled t (h ∙ meant);
      alone = λ other. h ∙ other;
    }

pub serial_of_outcome : (t : Tag) → serial_of (outcome t) ≡ serial_of t
serial_of_outcome t = either (λ (u : Tag). serial_of u ≡ serial_of t) (is_active t) (dealt_with (record t { counter = 0 })) t refl refl

pub serial_after_sweep : (t : Tag) → serial_of (tag_after_sweep t) ≡ serial_of t
serial_after_sweep t = either (λ (u : Tag). serial_of u ≡ serial_of t) (is_due t) (dealt_with (record t { counter = 0 })) t refl refl

-- What a sweep's commands do to each tag.
pub select_each : Takes (order_in (opening select)) (λ t. Unit {0}) (Fit 0) tag_after_sweep is_due
select_each = subst (λ (o : Order). Takes o (λ t. Unit {0}) (Fit 0) tag_after_sweep is_due) (sym order-select) select_takes

pub query_each : (w : ℕ) → Takes (order_in (opening query)) (Fit w) (Fit (w + 1)) outcome is_active
query_each w = subst (λ (o : Order). Takes o (Fit w) (Fit (w + 1)) outcome is_active) (sym order-query) (query_takes w)

pub scroll_each : (w : ℕ) → Takes (order_in (opening scroll)) (Fit w) (Fit (w - 1)) outcome is_active
scroll_each w = subst (λ (o : Order). Takes o (Fit w) (Fit (w - 1)) outcome is_active) (sym order-scroll) (scroll_takes w)

pub read_each : (serial : List ℕ) (w : ℕ) → length serial ≡ 8
    → Takes (order_in (opening (read serial))) (Readable serial w) (Unheard serial w) outcome (is_left_by serial)
read_each serial w h =
    subst (λ (o : Order). Takes o (Readable serial w) (Unheard serial w) outcome (is_left_by serial)) (sym (order-read serial h)) (read_takes serial w)

pub again_each : (coin : Bool) (t : Tag) → Fit 0 t → has_turn t ≡ false → stepped (opening repeat) coin t ≡ outcome t
again_each coin t fit h =
    ap (λ (o : Order). obeyed o coin t.permission (prepared t)) order-again
    ∙ ap (λ (k : WriteMark). record t { mark = k; permission = None }) fit.mark
    ∙ ap (λ (b : Bool). record (cond b (dealt_with (record t { counter = 0 })) t) { mark = Clear; permission = None }) (sym (not_active t fit h))

-- Who replies to those that open a slot.
pub select_heard : Opens (order_in (opening select))
select_heard = subst Opens (sym order-select) select_opens

pub query_heard : Opens (order_in (opening query))
query_heard = subst Opens (sym order-query) query_opens

pub scroll_heard : Opens (order_in (opening scroll))
scroll_heard = subst Opens (sym order-scroll) scroll_opens

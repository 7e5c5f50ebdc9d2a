-- A frame changes no byte and no lock but those that it stores or locks. Assumes nothing.
use Rattle.std.proofs.Common.{◌≡◌, ℕ, zero, suc, ◌+◌, ◌-◌, ◌%◌, ◌<◌, ◌≤◌, Bool, true, false, cond, ◌&&◌, ◌||◌, eqb, ltb, leb, List, length, get_or, set, Some, None, Option, sym, refl, ap, ◌∙◌, subst, ap₂, inl, inr, arith, ltb-true, le-ltb, lt-ltb, le-leb}
use native.Mathlib.Nat.{add-sub_cancel_left}
use borrow.Author.Tests.{not-true, both_ways}
use Rattle.std.proofs.lemmas.List.{get_or_past, get_or-set_same, get_or-set_other}
use Rattle.std.proofs.lemmas.Bool.{true≢false, cases_lt, and_left, and_right, and_parts, or_right, or_parts}
use Rattle.std.proofs.lemmas.Bool.Decides.{nat_tests, leb_tells, eqb_tells}
use Rattle.protocol.specs.declared.command.Command.TheVariants.{Select, UnselectNe, UnselectIdFlag, UnselectNoidFlag, Query, Scroll, Repeat, Reset, Read, Verify, Lock, Qlock, ReadFlexible, Write}
use Rattle.protocol.specs.declared.command.Parameter.TheVariants.{Serial, Address, Mask, Data}
use Rattle.frame.specs.Openings.{Opening, refused, opened}
use Rattle.frame.specs.Parts.{Part, bytes_of}
use Rattle.record.specs.declared.State.{State}
use Rattle.record.specs.declared.State.TheVariants.{Ready, Singulation, Inventoried}
use Rattle.record.specs.declared.WriteMark.TheVariants.{Clear, Fresh}
use Rattle.record.specs.declared.Tag.{Tag}
use Rattle.record.specs.Masks.{selects, stored_at, stored}
use Rattle.record.proofs.Sizes.{length-stored}
use Rattle.tag.specs.MemoryLaws.{is_covered, stores_at, locks_at, MemoryLaw}
use Rattle.tag.specs.Orders.{damaged, unknown, byte_of}
use Rattle.record.specs.Records.{locked_at, is_write_ok}
use Rattle.tag.proofs.Branches.{either, singulated}
use Rattle.tag.specs.Steps.{prepared, dealt_with, obeyed, stepped, if_inventoried, has_serial, is_writable, is_lockable}

-- Two records with the same memory and the same locks.
record Same (t u : Tag) : Type 0 where
  bytes : u.memory ≡ t.memory
  locks : u.locks ≡ t.locks

still : (t : Tag) → (u : Tag) → u.memory ≡ t.memory → u.locks ≡ t.locks → Same t u
still t u e f = record { bytes = e; locks = f }

only_met : (t : Tag) → Same t (prepared t)
only_met t = still t (prepared t) refl refl

not_opened : (coin : Bool) (t : Tag) (b : Bool) → Same t (obeyed (cond b damaged unknown) coin t.permission (prepared t))
not_opened coin t true = still t (record (prepared t) { state = Ready }) refl refl
not_opened coin t false = only_met t

or_nothing : (b : Bool) → b ≡ (b || false)
or_nothing true = refl
or_nothing false = refl

untouched : (o : Opening) (t u : Tag) → ((i : ℕ) → stores_at o t i ≡ false) → ((i : ℕ) → locks_at o t i ≡ false) → Same t u → MemoryLaw o t u
untouched o t u no_byte no-lock same =
    record {
      bytes = λ i. rw (no_byte i) (ap (λ (m : List ℕ). get_or m i 0) same.bytes);
      locks = λ i. rw (no-lock i) (ap (λ (l : List Bool). get_or l i true) same.locks ∙ or_nothing (locked_at t i));
    }

-- Whether one of the first n places from an address on is another address, and selected.
abbrev is_within : ℕ → ℕ → ℕ → ℕ → Bool
is_within a mask n i = leb a i && (ltb i (a + n) && selects mask (i - a))

within_last : (a mask n : ℕ) → is_within a mask (suc n) (a + n) ≡ selects mask n
within_last a mask n =
    rw (le-leb a (a + n) (omega arith), lt-ltb (a + n) (a + suc n) (omega arith), add-sub_cancel_left a n) refl

within_other : (a mask n i : ℕ) → (i ≡ a + n → ⊥) → is_within a mask (suc n) i ≡ is_within a mask n i
within_other a mask n i h =
    let same : ltb i (a + suc n) ≡ ltb i (a + n) = grind (arith, nat_tests) in
    ap (λ (b : Bool). leb a i && (b && selects mask (i - a))) same

beyond : (a mask n i : ℕ) → a + n ≤ i → is_within a mask n i ≡ false
beyond a mask n i h = rw (le-ltb i (a + n) h) (and_right (leb a i) false refl)

nowhere : (a mask i : ℕ) → is_within a mask 0 i ≡ false
nowhere a mask i =
    elim (leb_tells a i) [ inl at ↦ beyond a mask 0 i (omega arith) | inr below ↦ and_left (leb a i) (ltb i (a + 0) && selects mask (i - a)) below.0 ]

set_here : (b : Bool) (row : List ℕ) (k x y : ℕ) → k < length row → get_or row k 0 ≡ y → get_or (cond b (set row k x) row) k 0 ≡ cond b x y
set_here true row k x y h e = get_or-set_same row k x 0 h
set_here false row k x y h e = e

set_there : (b : Bool) (row : List ℕ) (k i x : ℕ) → (i ≡ k → ⊥) → get_or (cond b (set row k x) row) i 0 ≡ get_or row i 0
set_there true row k i x h = get_or-set_other row k i x 0 h
set_there false row k i x h = refl

stored_at_lem : (a mask : ℕ) (bytes memory : List ℕ) (n i : ℕ) → a + n ≤ length memory
    → get_or (stored a mask bytes memory n) i 0 ≡ cond (is_within a mask n i) (get_or bytes (i - a) 0) (get_or memory i 0)
unfolding stored
stored_at_lem a mask bytes memory zero i h = rw (nowhere a mask i) refl
stored_at_lem a mask bytes memory (suc n) i h =
    let row : List ℕ = stored a mask bytes memory n in
    let before : get_or row (a + n) 0 ≡ get_or memory (a + n) 0 =
    stored_at_lem a mask bytes memory n (a + n) (omega arith)
    ∙ ap (λ (b : Bool). cond b (get_or bytes (a + n - a) 0) (get_or memory (a + n) 0)) (beyond a mask n (a + n) (omega arith)) in
    let here : get_or (stored_at a mask bytes row n) (a + n) 0
    ≡ cond (is_within a mask (suc n) (a + n)) (get_or bytes (a + n - a) 0) (get_or memory (a + n) 0) =
    set_here (selects mask n) row (a + n) (get_or bytes n 0) (get_or memory (a + n) 0) (omega (arith, length-stored a mask bytes memory n)) before
    ∙ ap₂ (λ (b : Bool) (k : ℕ). cond b (get_or bytes k 0) (get_or memory (a + n) 0)) (sym (within_last a mask n)) (sym (add-sub_cancel_left a n)) in
    elim (eqb_tells i (a + n)) [
      | inl at ↦ subst
          (λ (x : ℕ). get_or (stored_at a mask bytes row n) x 0 ≡ cond (is_within a mask (suc n) x) (get_or bytes (x - a) 0) (get_or memory x 0))
          (sym at.1) here
      | inr off ↦ set_there (selects mask n) row (a + n) i (get_or bytes n 0) off.1 ∙ stored_at_lem a mask bytes memory n i (omega arith)
          ∙ ap (λ (b : Bool). cond b (get_or bytes (i - a) 0) (get_or memory i 0)) (sym (within_other a mask n i off.1))
    ]

-- A byte that is not locked is there.
unlocked_inside : (locks : List Bool) (i : ℕ) → get_or locks i true ≡ false → i < length locks
unlocked_inside locks i h =
    elim (cases_lt i (length locks)) [ inl inside ↦ inside | inr past ↦ absurd (both_ways (get_or locks i true) h (get_or_past locks i true past)) ]

writable_inside : (t : Tag) (a : ℕ) → length t.locks ≡ 56 → is_writable t a ≡ true → a + 4 ≤ 56
writable_inside t a ll h =
    let free = not-true (locked_at t a || locked_at t (a + 1) || locked_at t (a + 2) || locked_at t (a + 3)) (and_parts (eqb (a % 4) 0) _ h).1 in
    let last = or_parts (locked_at t a || locked_at t (a + 1) || locked_at t (a + 2)) (locked_at t (a + 3)) free in
    let inside = unlocked_inside t.locks (a + 3) last.1 in
    omega arith

wrote : (code : ℕ) (parts : List Part) (t : Tag) → length t.memory ≡ 56 → length t.locks ≡ 56 → (meant writable : Bool) → has_serial t (bytes_of Serial parts) ≡ meant
    → is_writable t (byte_of Address parts) ≡ writable
    → MemoryLaw (opened code Write parts) t
    (cond meant
    (cond writable
    (record (dealt_with (prepared t)) {
      memory = stored (byte_of Address parts) (byte_of Mask parts) (bytes_of Data parts) t.memory 4;
      mark = Fresh;
      permission = Some (byte_of Address parts);
    }) (record (dealt_with (prepared t)) { mark = Clear })) (prepared t))
wrote code parts t lm ll false writable em ew =
    untouched (opened code Write parts) t (prepared t) (λ i. and_left _ _ (and_left (has_serial t (bytes_of Serial parts)) _ em)) (λ i. refl) (only_met t)
wrote code parts t lm ll true false em ew =
    untouched (opened code Write parts) t (record (dealt_with (prepared t)) { mark = Clear }) (λ i. and_left _ _ (and_right (has_serial t (bytes_of Serial parts)) _ ew)) (λ i. refl)
    (still t (record (dealt_with (prepared t)) { mark = Clear }) refl refl)
wrote code parts t lm ll true true em ew =
    let a : ℕ = byte_of Address parts in
    let mask : ℕ = byte_of Mask parts in
    let inside = writable_inside t a ll ew in
    let asked : (i : ℕ) → stores_at (opened code Write parts) t i ≡ is_covered a mask i =
    λ i. ap₂ (λ (x y : Bool). (x && y) && is_covered a mask i) em ew in
    record {
      bytes = λ i. stored_at_lem a mask (bytes_of Data parts) t.memory 4 i (omega arith)
          ∙ ap (λ (b : Bool). cond b (get_or (bytes_of Data parts) (i - a) 0) (get_or t.memory i 0)) (sym (asked i));
      locks = λ i. or_nothing (locked_at t i);
    }

lockable_inside : (p : Option ℕ) (a : ℕ) → is_lockable p a ≡ true → a < 56
lockable_inside None a h = absurd (true≢false (sym h))
lockable_inside (Some p) a h = ltb-true a 56 (and_parts (eqb p a) (ltb a 56) h).1

locks_at_lem : (row : List Bool) (a i : ℕ) → a < length row → get_or (set row a true) i true ≡ (get_or row i true || eqb i a)
locks_at_lem row a i h =
    elim (eqb_tells i a) [
      | inl at ↦ ap (λ (k : ℕ). get_or (set row a true) k true) at.1 ∙ get_or-set_same row a true true h ∙ sym (or_right (get_or row i true) (eqb i a) at.0)
      | inr off ↦ get_or-set_other row a i true true off.1 ∙ or_nothing (get_or row i true) ∙ ap (λ (b : Bool). get_or row i true || b) (sym off.0)
    ]

locked_at_lem : (code : ℕ) (parts : List Part) (t : Tag) → length t.locks ≡ 56 → (meant lockable : Bool) (s : State) → has_serial t (bytes_of Serial parts) ≡ meant
    → t.state ≡ s → is_lockable t.permission (byte_of Address parts) ≡ lockable
    → MemoryLaw (opened code Lock parts) t
    (cond meant
    (if_inventoried s (cond lockable (record (prepared t) { locks = set t.locks (byte_of Address parts) true; mark = Fresh }) (record (prepared t) { mark = Clear })) (prepared t))
    (prepared t))
locked_at_lem code parts t ll false lockable s em es ek =
    untouched (opened code Lock parts) t (prepared t) (λ i. refl) (λ i. and_left _ _ (and_left _ _ (and_left (has_serial t (bytes_of Serial parts)) _ em))) (only_met t)
locked_at_lem code parts t ll true lockable Ready em es ek =
    untouched (opened code Lock parts) t (prepared t) (λ i. refl) (λ i. and_left _ _ (and_left _ _ (and_right (has_serial t (bytes_of Serial parts)) _ (ap (λ (x : State). if_inventoried x true false) es))))
    (only_met t)
locked_at_lem code parts t ll true lockable Singulation em es ek =
    untouched (opened code Lock parts) t (prepared t) (λ i. refl) (λ i. and_left _ _ (and_left _ _ (and_right (has_serial t (bytes_of Serial parts)) _ (ap (λ (x : State). if_inventoried x true false) es))))
    (only_met t)
locked_at_lem code parts t ll true false Inventoried em es ek =
    untouched (opened code Lock parts) t (record (prepared t) { mark = Clear }) (λ i. refl)
    (λ i. and_left _ _ (and_right (has_serial t (bytes_of Serial parts) && if_inventoried t.state true false) _ ek))
    (still t (record (prepared t) { mark = Clear }) refl refl)
locked_at_lem code parts t ll true true Inventoried em es ek =
    let a : ℕ = byte_of Address parts in
    let inside = lockable_inside t.permission a ek in
    let asked : (i : ℕ) → locks_at (opened code Lock parts) t i ≡ eqb i a =
    λ i. ap₂ (λ (x : Bool) (s : State). ((x && if_inventoried s true false) && is_lockable t.permission a) && eqb i a) em es
    ∙ ap (λ (b : Bool). b && eqb i a) ek in
    record {
      bytes = λ i. refl;
      locks = λ i. locks_at_lem t.locks a i (omega arith) ∙ ap (λ (b : Bool). locked_at t i || b) (sym (asked i));
    }

-- The law, command by command.
pub accounted : (o : Opening) (coin : Bool) (t : Tag) → length t.memory ≡ 56 → length t.locks ≡ 56 → MemoryLaw o t (stepped o coin t)
accounted (refused n) coin t lm ll =
    untouched (refused n) t (stepped (refused n) coin t) (λ i. refl) (λ i. refl) (not_opened coin t (ltb n 3))
accounted (opened code Select parts) coin t lm ll = untouched (opened code Select parts) t _ (λ i. refl) (λ i. refl) (either (Same t) _ _ _ (still t _ refl refl) (still t _ refl refl))
accounted (opened code UnselectNe parts) coin t lm ll = untouched (opened code UnselectNe parts) t _ (λ i. refl) (λ i. refl) (singulated (Same t) t.state _ _ (either (Same t) _ _ _ (still t _ refl refl) (still t _ refl refl)) (only_met t))
accounted (opened code UnselectIdFlag parts) coin t lm ll = untouched (opened code UnselectIdFlag parts) t _ (λ i. refl) (λ i. refl) (singulated (Same t) t.state _ _ (either (Same t) _ _ _ (still t _ refl refl) (still t _ refl refl)) (only_met t))
accounted (opened code UnselectNoidFlag parts) coin t lm ll = untouched (opened code UnselectNoidFlag parts) t _ (λ i. refl) (λ i. refl) (singulated (Same t) t.state _ _ (either (Same t) _ _ _ (still t _ refl refl) (still t _ refl refl)) (only_met t))
accounted (opened code Query parts) coin t lm ll = untouched (opened code Query parts) t _ (λ i. refl) (λ i. refl) (singulated (Same t) t.state _ _ (still t _ refl refl) (only_met t))
accounted (opened code Scroll parts) coin t lm ll = untouched (opened code Scroll parts) t _ (λ i. refl) (λ i. refl) (singulated (Same t) t.state _ _ (still t _ refl refl) (only_met t))
accounted (opened code Repeat parts) coin t lm ll = untouched (opened code Repeat parts) t _ (λ i. refl) (λ i. refl) (still t _ refl refl)
accounted (opened code Reset parts) coin t lm ll = untouched (opened code Reset parts) t _ (λ i. refl) (λ i. refl) (still t _ refl refl)
accounted (opened code Read parts) coin t lm ll = untouched (opened code Read parts) t _ (λ i. refl) (λ i. refl) (either (Same t) _ _ _ (still t _ refl refl) (still t _ refl refl))
accounted (opened code ReadFlexible parts) coin t lm ll = untouched (opened code ReadFlexible parts) t _ (λ i. refl) (λ i. refl) (either (Same t) _ _ _ (still t _ refl refl) (still t _ refl refl))
accounted (opened code Verify parts) coin t lm ll =
    untouched (opened code Verify parts) t _ (λ i. refl) (λ i. refl)
    (either (Same t) (has_serial t (bytes_of Serial parts)) _ _ (either (Same t) (is_write_ok (prepared t).mark) _ _ (still t (dealt_with (prepared t)) refl refl) (only_met t)) (only_met t))
accounted (opened code Qlock parts) coin t lm ll = untouched (opened code Qlock parts) t _ (λ i. refl) (λ i. refl) (either (Same t) _ _ _ (still t _ refl refl) (still t _ refl refl))
accounted (opened code Write parts) coin t lm ll = wrote code parts t lm ll (has_serial t (bytes_of Serial parts)) (is_writable t (byte_of Address parts)) refl refl
accounted (opened code Lock parts) coin t lm ll =
    locked_at_lem code parts t ll (has_serial t (bytes_of Serial parts)) (is_lockable t.permission (byte_of Address parts)) t.state refl refl refl

-- What a frame does to a tag, and what the tag replies. Assumes nothing.
use Rattle.std.specs.Prelude.{ℕ, ◌+◌, ◌-◌, ◌%◌, Bool, true, false, if◌then◌else◌, not, ◌&&◌, ◌||◌, ◌∷◌, ◌==◌}
use Rattle.std.specs.Prelude.{List, [], Some, None, Option, nat_lt, slice_set}
use Rattle.std.specs.Str.{bytes_eq}
use Rattle.frame.specs.Openings.{Opening}
use Rattle.record.specs.declared.State.{State}
use Rattle.record.specs.declared.State.TheVariants.{Ready, Singulation, Inventoried}
use Rattle.record.specs.declared.WriteMark.TheVariants.{Clear, Fresh}
use Rattle.record.specs.declared.Tag.{Tag}
use Rattle.record.specs.Masks.{matches, stored}
use Rattle.tag.specs.Orders.{Order, select, unselect_ne, unselect_id_flag, unselect_noid_flag, query, scroll, repeat, reset, read, verify, write, lock, qlock, damaged, unknown, order_in}
use Rattle.record.specs.Records.{fallen, is_write_ok, locked_at, bytes_from, serial_of}
use Rattle.reply.specs.Replies.{sealed_reply}

-- What every frame does first to a tag. The old permission serves this frame only.
abbrev pub prepared : Tag → Tag
prepared t = record t { mark = fallen t.mark; permission = None }

-- The first for a tag in SINGULATION, the second for any other.
abbrev pub if_singulated : {X : Type 0} → State → X → X → X
if_singulated Ready x y = y
if_singulated Singulation x y = x
if_singulated Inventoried x y = y

-- The first for an INVENTORIED tag, the second for any other.
abbrev pub if_inventoried : {X : Type 0} → State → X → X → X
if_inventoried Ready x y = y
if_inventoried Singulation x y = y
if_inventoried Inventoried x y = x

-- Whether SELECT concerns a tag: a READY one that matches, and every one in SINGULATION.
abbrev pub is_selected : State → Bool → Bool
is_selected Ready matching = matching
is_selected Singulation matching = true
is_selected Inventoried matching = false

-- A tag that is selected, from the first turn on.
abbrev pub selected : Tag → Tag
selected t = record t { state = Singulation; counter = 0 }

-- The three UNSELECTs: a tag leaves silently, or stays and replies its serial number.
abbrev pub unselected : Bool → Tag → Tag
unselected leaves t = if leaves then record t { state = Ready } else selected t

abbrev pub unselect_reply : Bool → Tag → Option (List ℕ)
unselect_reply leaves t = if leaves then None else Some (serial_of t)

-- The counter rises by one, unless it is FF, where it stays.
abbrev pub counter_raised : ℕ → ℕ
counter_raised n = if n == 0xff then n else n + 1

-- The counter after QUERY.
abbrev pub counter_after_query : Bool → ℕ → ℕ
counter_after_query coin n = if nat_lt 0 n || coin then counter_raised n else n

-- A tag at which a reader has read or written: INVENTORIED, with its ID flag set.
abbrev pub dealt_with : Tag → Tag
dealt_with t = record t { state = Inventoried; identified = true }

-- VERIFY: only under WRITE_OK does a tag move.
abbrev pub verified : Tag → Tag
verified t = if is_write_ok t.mark then dealt_with t else t

-- Whether WRITE may store at an address: a multiple of 4, and none of the four bytes is locked.
abbrev pub is_writable : Tag → ℕ → Bool
is_writable t a = a % 4 == 0 && not (locked_at t a || locked_at t (a + 1) || locked_at t (a + 2) || locked_at t (a + 3))

abbrev pub written : ℕ → ℕ → List ℕ → Tag → Tag
written a mask bytes t =
    if is_writable t a
    then record (dealt_with t) { memory = stored a mask bytes t.memory 4; mark = Fresh; permission = Some a }
    else record (dealt_with t) { mark = Clear }

-- Whether LOCK may lock an address: it was permitted, and is at most 37.
abbrev pub is_lockable : Option ℕ → ℕ → Bool
is_lockable None a = false
is_lockable (Some p) a = p == a && nat_lt a 56

abbrev pub locked : Option ℕ → ℕ → Tag → Tag
locked permitted a t =
    if is_lockable permitted a then record t { locks = slice_set t.locks a true; mark = Fresh }
    else record t { mark = Clear }

-- What QLOCK tells of a byte.
abbrev pub lock_status : Bool → Bool → ℕ
lock_status locked_byte ok = if locked_byte then (if ok then 0xff else 0xfe) else (if ok then 0x01 else 0x00)

-- Whether a tag has a serial number.
abbrev pub has_serial : Tag → List ℕ → Bool
has_serial t serial = bytes_eq (serial_of t) serial

-- What an order does to a tag that is prepared, given what was permitted before.
abbrev pub obeyed : Order → Bool → Option ℕ → Tag → Tag
obeyed (select a mask word) coin permitted t = if is_selected t.state (matches t.memory a mask word) then selected t else t
obeyed (unselect_ne a mask word) coin permitted t = if_singulated t.state (unselected (not (matches t.memory a mask word)) t) t
obeyed unselect_id_flag coin permitted t = if_singulated t.state (unselected t.identified t) t
obeyed unselect_noid_flag coin permitted t = if_singulated t.state (unselected (not t.identified) t) t
obeyed query coin permitted t = if_singulated t.state (record t { counter = counter_after_query coin t.counter }) t
obeyed scroll coin permitted t = if_singulated t.state (record t { counter = t.counter - 1 }) t
obeyed repeat coin permitted t = t
obeyed reset coin permitted t = record t { state = Ready; identified = false }
obeyed (read serial a n) coin permitted t = if has_serial t serial then record (dealt_with t) { permission = Some a } else t
obeyed (verify serial a) coin permitted t = if has_serial t serial then verified t else t
obeyed (write serial a mask bytes) coin permitted t = if has_serial t serial then written a mask bytes t else t
obeyed (lock serial a) coin permitted t =
    if has_serial t serial then if_inventoried t.state (locked permitted a t) t else t
obeyed (qlock serial a) coin permitted t = if has_serial t serial then record (dealt_with t) { permission = Some a } else t
obeyed damaged coin permitted t = record t { state = Ready }
obeyed unknown coin permitted t = t

-- The serial number, if it is a tag's turn: its counter is 0.
abbrev pub reply_in_turn : ℕ → Tag → Option (List ℕ)
reply_in_turn counter t = if counter == 0 then Some (serial_of t) else None

-- The data that a tag that is prepared replies to an order, if it does.
abbrev pub answered : Order → Bool → Tag → Option (List ℕ)
answered (select a mask word) coin t =
    if is_selected t.state (matches t.memory a mask word) then Some (serial_of t) else None
answered (unselect_ne a mask word) coin t = if_singulated t.state (unselect_reply (not (matches t.memory a mask word)) t) None
answered unselect_id_flag coin t = if_singulated t.state (unselect_reply t.identified t) None
answered unselect_noid_flag coin t = if_singulated t.state (unselect_reply (not t.identified) t) None
answered query coin t = if_singulated t.state (reply_in_turn (counter_after_query coin t.counter) t) None
answered scroll coin t = if_singulated t.state (reply_in_turn (t.counter - 1) t) None
answered repeat coin t = if_singulated t.state (reply_in_turn t.counter t) None
answered reset coin t = None
answered (read serial a n) coin t = if has_serial t serial then Some (bytes_from t.memory a n) else None
answered (verify serial a) coin t =
    if has_serial t serial then (if is_write_ok t.mark then Some (bytes_from t.memory a 4) else None) else None
answered (write serial a mask bytes) coin t =
    if has_serial t serial then Some ((if is_writable t a then 0x00 else 0xff) ∷ []) else None
answered (lock serial a) coin t = if has_serial t serial then if_inventoried t.state (Some (0x00 ∷ [])) None else None
answered (qlock serial a) coin t =
    if has_serial t serial then Some (lock_status (locked_at t a) (is_write_ok t.mark) ∷ []) else None
answered damaged coin t = None
answered unknown coin t = None

-- A tag after a frame, by what opening gave.
abbrev pub stepped : Opening → Bool → Tag → Tag
stepped frame coin t = obeyed (order_in frame) coin t.permission (prepared t)

-- Its reply with the check value, or none.
abbrev pub replied : Opening → Bool → Tag → Option (List ℕ)
replied frame coin t = sealed_reply (answered (order_in frame) coin (prepared t))

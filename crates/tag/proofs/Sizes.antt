-- No frame changes how long a memory is. Assumes nothing.
use Rattle.std.proofs.Common.{◌≡◌, ℕ, Bool, not, length, Option, refl}
use Rattle.frame.specs.Openings.{Opening}
use Rattle.record.specs.declared.State.TheVariants.{Ready}
use Rattle.record.specs.declared.WriteMark.TheVariants.{Clear, Fresh}
use Rattle.record.specs.declared.Tag.{Tag}
use Rattle.record.specs.Masks.{stored, matches}
use Rattle.record.specs.Records.{is_write_ok}
use Rattle.record.proofs.Sizes.{length-stored}
use Rattle.tag.specs.Orders.{Order, select, unselect_ne, unselect_id_flag, unselect_noid_flag, query, scroll, repeat, reset, read, verify, write, lock, qlock, damaged, unknown, order_in}
use Rattle.tag.proofs.Branches.{either, singulated, inventoried}
use Rattle.tag.specs.Steps.{prepared, is_selected, selected, dealt_with, verified, is_writable, is_lockable, has_serial, written, locked, obeyed, stepped}

-- A memory of some length.
abbrev Has : ℕ → Tag → Type 0
Has n t = length t.memory ≡ n

-- No order changes how long a memory is.
pub length-obeyed : (o : Order) (coin : Bool) (p : Option ℕ) (t : Tag) → Has (length t.memory) (obeyed o coin p t)
length-obeyed (select a mask word) coin p t = either (Has _) (is_selected t.state (matches t.memory a mask word)) (selected t) t refl refl
length-obeyed (unselect_ne a mask word) coin p t =
    singulated (Has _) t.state _ t (either (Has _) (not (matches t.memory a mask word)) (record t { state = Ready }) (selected t) refl refl) refl
length-obeyed unselect_id_flag coin p t = singulated (Has _) t.state _ t (either (Has _) t.identified (record t { state = Ready }) (selected t) refl refl) refl
length-obeyed unselect_noid_flag coin p t = singulated (Has _) t.state _ t (either (Has _) (not t.identified) (record t { state = Ready }) (selected t) refl refl) refl
length-obeyed query coin p t = singulated (Has _) t.state _ t refl refl
length-obeyed scroll coin p t = singulated (Has _) t.state _ t refl refl
length-obeyed repeat coin p t = refl
length-obeyed reset coin p t = refl
length-obeyed (read serial a n) coin p t = either (Has _) (has_serial t serial) _ t refl refl
length-obeyed (verify serial a) coin p t =
    either (Has _) (has_serial t serial) (verified t) t (either (Has _) (is_write_ok t.mark) (dealt_with t) t refl refl) refl
length-obeyed (write serial a mask bytes) coin p t =
    either (Has _) (has_serial t serial) (written a mask bytes t) t
    (either (Has _) (is_writable t a) (record (dealt_with t) { memory = stored a mask bytes t.memory 4; mark = Fresh; permission = _ }) (record (dealt_with t) { mark = Clear })
    (length-stored a mask bytes t.memory 4) refl) refl
length-obeyed (lock serial a) coin p t =
    either (Has _) (has_serial t serial) _ t
    (inventoried (Has _) t.state (locked p a t) t (either (Has _) (is_lockable p a) (record t { locks = _; mark = Fresh }) (record t { mark = Clear }) refl refl) refl) refl
length-obeyed (qlock serial a) coin p t = either (Has _) (has_serial t serial) _ t refl refl
length-obeyed damaged coin p t = refl
length-obeyed unknown coin p t = refl

-- Nor does a frame.
pub length-stepped : (frame : Opening) (coin : Bool) (t : Tag) → length (stepped frame coin t).memory ≡ length t.memory
length-stepped frame coin t = length-obeyed (order_in frame) coin t.permission (prepared t)

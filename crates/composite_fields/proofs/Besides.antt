-- The right of a pair, sent to beside what the left is heard as. Assumes nothing.
use Rattle.std.proofs.Common.{◌≡◌, ℕ, ◌≤◌, Bool, true, false, cond, List, ◌++◌, drop, Some, None, Ok, Err, Result, sym, refl, ap, ◌∙◌, subst, le-ltb}
use Rattle.std.proofs.lemmas.Bool.{true≢false}
use Rattle.std.specs.Prelude.{IfOk, if◌then◌else◌}
use Rattle.std.specs.Result.{result_unwrap_or}
use Rattle.protocol.specs.declared.refusal.Refusal.{Refusal}
use Rattle.protocol.specs.Refusals.{refusal_in}
use Rattle.frame.specs.Openings.{opening}
use Rattle.field.specs.declared.field.Field.{Ghosts as Kind}
use Rattle.field.specs.declared.hearing.Hearing.{Hearing}
use Rattle.field.specs.declared.hearing.Hearing.TheVariants.{Silence}
use Rattle.field.specs.Airs.{Air, MayHear, plain_hearing, heard_bytes}
use Rattle.field.specs.Promises.{AfterSend}
use Rattle.field.specs.Sends.{stepped_all, on_air, is_short, tags_after_send, padded, buffer_after_send}

-- A send with room for a reply is not refused.
taken : (b : Bool) (r : Result Hearing Refusal) (P : Hearing → Type 0) → b ≡ false → refusal_in r ≡ (if b then Some 5 else None)
    → ((h : Hearing) → r ≡ Ok h → P h) → P (result_unwrap_or r Silence)
taken true r P room e f = absurd (true≢false room)
taken false (Ok h) P room e f = f h refl
taken false (Err x) P room e f = cc

module _ {F : Type 0} (kind : Kind F) (frame : List ℕ) (row room : ℕ) (a b : F) (enough : 258 ≤ room) where
  heard_ok : (r : Result Hearing Refusal) (h : Hearing) → r ≡ Ok h → kind.tags b ≡ tags_after_send room frame row (kind.tags a)
      → IfOk r (λ x. MayHear (on_air (opening frame) row (kind.tags a)) x)
      → IfOk r (λ x. kind.faithful a ≡ true → x ≡ plain_hearing (on_air (opening frame) row (kind.tags a)))
      → kind.faithful b ≡ kind.faithful a → kind.hears a frame row r b → AfterSend kind frame row h a b
  heard_ok r h e tags may plain still promise =
      record {
        tags = tags ∙ ap (λ (s : Bool). cond s (kind.tags a) (stepped_all (opening frame) row (kind.tags a))) (le-ltb room 258 enough);
        may_be = subst (λ (x : Result Hearing Refusal). IfOk x (λ y. MayHear (on_air (opening frame) row (kind.tags a)) y)) e may;
        plain = subst (λ (x : Result Hearing Refusal). IfOk x (λ y. kind.faithful a ≡ true → y ≡ plain_hearing (on_air (opening frame) row (kind.tags a)))) e plain;
        as_faithful = still;
        promise = subst (λ (x : Result Hearing Refusal). kind.hears a frame row x b) e promise;
      }

  pub heard_sent : (r : Result Hearing Refusal) (h : Hearing) → refusal_in r ≡ (if is_short room then Some 5 else None) → h ≡ result_unwrap_or r Silence
      → kind.tags b ≡ tags_after_send room frame row (kind.tags a) → IfOk r (λ x. MayHear (on_air (opening frame) row (kind.tags a)) x)
      → IfOk r (λ x. kind.faithful a ≡ true → x ≡ plain_hearing (on_air (opening frame) row (kind.tags a)))
      → kind.faithful b ≡ kind.faithful a → kind.hears a frame row r b → AfterSend kind frame row h a b
  heard_sent r h refusal e tags may plain still promise =
      subst (λ (x : Hearing). AfterSend kind frame row x a b) (sym e)
      (taken (is_short room) r (λ x. AfterSend kind frame row x a b) (le-ltb room 258 enough) refusal
      (λ x f. heard_ok r x f tags may plain still promise))

-- And what then stands in the buffer.
pub heard_left : (room : ℕ) (air : Air) (r : Result Hearing Refusal) (h : Hearing) (buffer after : List ℕ) → 258 ≤ room
    → refusal_in r ≡ (if is_short room then Some 5 else None) → h ≡ result_unwrap_or r Silence → after ≡ buffer_after_send r air buffer
    → after ≡ padded 258 (heard_bytes h air) ++ drop 258 buffer
heard_left room air r h buffer after enough refusal e left =
    left
    ∙ taken (is_short room) r (λ x. buffer_after_send r air buffer ≡ padded 258 (heard_bytes x air) ++ drop 258 buffer) (le-ltb room 258 enough) refusal
    (λ x f. ap (λ (y : Result Hearing Refusal). buffer_after_send y air buffer) f)
    ∙ ap (λ (x : Hearing). padded 258 (heard_bytes x air) ++ drop 258 buffer) (sym e)

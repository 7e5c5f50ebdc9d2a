use Rattle.std.proofs.Common.{◌≡◌, ℕ, ◌≤◌, ◌-◌, List, length, take, drop, replicate, None, Ok, Err, Result, true, sym, ap, ◌∙◌, subst, arith}
use Rattle.std.proofs.lemmas.List.{take-append-le, length-append, length-replicate}
use Rattle.std.specs.Prelude.{IfOk}
use Rattle.std.specs.Result.{result_unwrap_or}
use Rattle.protocol.specs.declared.refusal.Refusal.{Refusal}
use Rattle.protocol.specs.Refusals.{refusal_in}
use Rattle.field.specs.declared.hearing.Hearing.{Hearing}
use Rattle.field.specs.declared.hearing.Hearing.TheVariants.{Silence}
use Rattle.frame.specs.Openings.{opening}
use Rattle.field.specs.Airs.{Air, MayHear, plain_hearing, heard_bytes}
use Rattle.field.specs.Sends.{buffer_after_send, padded, stepped_all, on_air}
use Rattle.field.specs.declared.field.Field.{Ghosts as Kind}
use Rattle.field.specs.Promises.{AfterSend}
use Rattle.slot.specs.Commands.{serial_in}
use Rattle.slot.proofs.asking.transmit.Goals as goal

length-padded : (n : ℕ) (bytes : List ℕ) → n ≤ length (padded n bytes)
unfolding padded
length-padded n bytes = omega (arith, length-append bytes (replicate (n - length bytes) 0), length-replicate {A = ℕ} (n - length bytes) 0)

-- The first bytes of the buffer are the serial number in what is heard.
taken : (r : Result Hearing Refusal) (h : Hearing) (air : Air) (b after s : List ℕ) → refusal_in r ≡ None → h ≡ result_unwrap_or r Silence
    → after ≡ buffer_after_send r air b → s ≡ take 8 after → s ≡ serial_in h air
unfolding serial_in
taken (Ok x) h air b after s n e f t =
    let long : 8 ≤ length (padded 258 (heard_bytes x air)) = omega (arith, length-padded 258 (heard_bytes x air)) in
    t ∙ ap (take 8) f ∙ take-append-le 8 (padded 258 (heard_bytes x air)) (drop 258 b) long ∙ ap (λ (k : Hearing). take 8 (padded 258 (heard_bytes k air))) (sym e)
taken (Err x) h air b after s n e f t = absurd (let z : ◌≡◌ {A = ℕ} 0 1 = cc in omega arith)

pub returns-clause-serial : goal.returns-clause-serial
returns-clause-serial g c =
    taken c.send-heard.result c.unwrap_or.result _ _ c.send-heard.new.buffer c.copy_from_slice.new.self c.send-heard.ensures.refusal c.unwrap_or.ensures c.send-heard.ensures.buffer
    c.copy_from_slice.ensures.after

-- A send that is not refused is heard.
sent_of : {F : Type 0} (kind : Kind F) (frame : List ℕ) (row : ℕ) (a b : F) (r : Result Hearing Refusal) (h : Hearing) → refusal_in r ≡ None
    → h ≡ result_unwrap_or r Silence → kind.tags b ≡ stepped_all (opening frame) row (kind.tags a)
    → IfOk r (λ x. MayHear (on_air (opening frame) row (kind.tags a)) x)
    → IfOk r (λ x. kind.faithful a ≡ true → x ≡ plain_hearing (on_air (opening frame) row (kind.tags a)))
    → kind.faithful b ≡ kind.faithful a → kind.hears a frame row r b → AfterSend kind frame row h a b
sent_of kind frame row a b (Ok x) h n e tags may plain still promise =
    subst (λ (y : Hearing). AfterSend kind frame row y a b) (sym e)
    (record { tags = tags; may_be = may; plain = plain; as_faithful = still; promise = promise })
sent_of kind frame row a b (Err x) h n e tags may plain still promise = absurd (let z : ◌≡◌ {A = ℕ} 0 1 = cc in omega arith)

pub returns-clause-sent : goal.returns-clause-sent
returns-clause-sent g c =
    sent_of g.F.Field c.args.bytes.now c.args.row c.args.field.now c.send-heard.new.self c.send-heard.result c.unwrap_or.result c.send-heard.ensures.refusal
    c.unwrap_or.ensures c.send-heard.ensures.tags c.send-heard.ensures.hearing c.send-heard.ensures.faithful c.send-heard.ensures.as_faithful
    c.send-heard.ensures.kind

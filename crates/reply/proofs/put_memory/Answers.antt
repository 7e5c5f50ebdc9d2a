use Rattle.std.proofs.Common.{◌≡◌, ℕ, ◌+◌, true, List, [], ◌∷◌, ◌++◌, length, get_or, sym, ap, ◌∙◌, subst, arith}
use borrow.Author.Tests.{false-leb}
use Rattle.frame.specs.Writing.{Put}
use Rattle.frame.proofs.Writes.{put_none, put_more, put_room}
use Rattle.record.specs.Records.{bytes_from}
use Rattle.reply.proofs.Bytes.{bytes_from_none, bytes_from_more, length-bytes_from}
use Rattle.reply.proofs.put_memory.Goals as goal

pub loop-place-init : goal.loop-place-init
loop-place-init c =
    rw (bytes_from_none c.args.tag.now.memory c.args.address) (put_none c.args.writer.now c.args.writer.now.fits)

pub loop-place-preserved : goal.loop-place-preserved
loop-place-preserved c =
    let memory : List ℕ = c.args.tag.now.memory in
    let a : ℕ = c.args.address in
    let place : ℕ = c.loop-place.place in
    let both = put_more c.args.writer.now c.loop-place.writer c.put.new.self (bytes_from memory a place) (c.byte.result ∷ [])
    c.loop-place.invariant c.in_ok-put.ensures.put in
    let read : c.byte.result ≡ get_or memory (a + place) 0 =
    c.byte.ensures ∙ ap (λ (x : ℕ). get_or memory (x + place) 0) c.from.ensures in
    subst (λ (xs : List ℕ). Put xs c.args.writer.now c.put.new.self true)
    (ap (λ (x : ℕ). bytes_from memory a place ++ x ∷ []) read ∙ sym (bytes_from_more memory a place)) both

pub returns-in_err-put : goal.returns-in_err-put
returns-in_err-put c =
    let held = c.loop-place.invariant in
    let size = length-bytes_from c.args.tag.now.memory c.args.address c.loop-place.place in
    let room = put_room c.args.writer.now c.loop-place.writer _ held in
    let filled : c.loop-place.writer.filled ≡ c.args.writer.now.filled + length (bytes_from c.args.tag.now.memory c.args.address c.loop-place.place) =
    held.filled in
    let full = false-leb (c.loop-place.writer.filled + 1) (length c.loop-place.writer.buffer.now) c.in_err-put.ensures.put.fits in
    absurd (omega arith)

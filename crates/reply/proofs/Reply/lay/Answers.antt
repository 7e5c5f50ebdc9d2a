use Rattle.std.proofs.Common.{◌≡◌, ℕ, ◌+◌, List, [], ◌++◌, length, drop, ap, ◌∙◌, arith, rules}
use borrow.Author.Tests.{false-leb}
use Rattle.crc.specs.Check.{sealed}
use Rattle.frame.proofs.Writes.{Holds, holds_more, holds-sealed, put_room}
use Rattle.protocol.specs.Refusals.{wrote}
use Rattle.reply.specs.Replies.{data_of}
use Rattle.reply.proofs.Bytes.{length-sealed}
use Rattle.reply.proofs.Reply.lay.Goals as goal

pub put_data-requires : goal.put_data-requires
put_data-requires c =
    let size = length-sealed (data_of c.args.tag.now c.args.self) in
    let start : c.new-writer.result.filled ≡ 0 = c.new-writer.ensures.filled in
    let room : length c.new-writer.result.buffer.now ≡ length c.args.buffer.now = ap length c.new-writer.ensures.buffer in
    omega (arith, c.requires)

pub returns-in_err-put_data : goal.returns-in_err-put_data
returns-in_err-put_data c =
    let size = length-sealed (data_of c.args.tag.now c.args.self) in
    let start : c.new-writer.result.filled ≡ 0 = c.new-writer.ensures.filled in
    let room : length c.new-writer.result.buffer.now ≡ length c.args.buffer.now = ap length c.new-writer.ensures.buffer in
    let full = false-leb (c.new-writer.result.filled + length (data_of c.args.tag.now c.args.self))
    (length c.new-writer.result.buffer.now) c.in_err-put_data.ensures.fits in
    absurd (omega (arith, c.requires))

pub returns-in_err-seal : goal.returns-in_err-seal
returns-in_err-seal c =
    let bytes : List ℕ = data_of c.args.tag.now c.args.self in
    let size = length-sealed bytes in
    let start : c.new-writer.result.filled ≡ 0 = c.new-writer.ensures.filled in
    let room : length c.new-writer.result.buffer.now ≡ length c.args.buffer.now = ap length c.new-writer.ensures.buffer in
    let put = c.in_ok-put_data.ensures in
    let kept : length c.put_data.new.writer.buffer.now ≡ length c.new-writer.result.buffer.now =
    put_room c.new-writer.result c.put_data.new.writer bytes put in
    let filled : c.put_data.new.writer.filled ≡ c.new-writer.result.filled + length bytes = put.filled in
    let full = false-leb (c.put_data.new.writer.filled + 2) (length c.put_data.new.writer.buffer.now) c.in_err-seal.ensures.put.fits in
    absurd (omega (arith, c.requires))

pub returns : goal.returns
returns c =
    let b : List ℕ = c.args.buffer.now in
    let bytes : List ℕ = data_of c.args.tag.now c.args.self in
    let n = c.new-writer.ensures in
    let h0 : Holds c.new-writer.result b [] = record { bytes = n.buffer; count = n.filled; over = n.register } in
    let h1 = holds_more c.new-writer.result c.put_data.new.writer b [] bytes h0 c.in_ok-put_data.ensures in
    let h2 = holds-sealed c.put_data.new.writer c.seal.new.self b bytes h1 c.in_ok-seal.ensures.put in
    let final : c.seal.new.self.buffer.now ≡ sealed bytes ++ drop (length (sealed bytes)) b = h2.bytes in
    let count : c.filled.result ≡ length (sealed bytes) = c.filled.ensures ∙ h2.count in
    record {
      answer = ap wrote count;
      buffer = search rules;
    }

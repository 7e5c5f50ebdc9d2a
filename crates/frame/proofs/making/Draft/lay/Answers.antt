use Rattle.std.proofs.Common.{◌≡◌, ℕ, List, [], ◌∷◌, ◌++◌, length, drop, sym, ap, ◌∙◌, subst, arith, rules}
use Rattle.crc.specs.Check.{sealed}
use Rattle.protocol.specs.Commands.{code_of}
use Rattle.protocol.proofs.Lookups.{named_self}
use Rattle.protocol.specs.Refusals.{wrote}
use Rattle.frame.specs.Makings.{made, making, result_of}
use Rattle.frame.proofs.Makes.{makes}
use Rattle.frame.proofs.Trips.{opens_back, opens_at}
use Rattle.frame.proofs.Writes.{Holds, holds_more, holds-sealed}
use Rattle.frame.proofs.making.Draft.lay.Goals as goal

pub returns : goal.returns
returns c =
    let d = c.args.self.now in
    let b : List ℕ = c.args.buffer.now in
    let ps : List ℕ = d.parameters.now in
    let code : ℕ = code_of d.command in
    let n = c.new-writer.ensures in
    let h0 : Holds c.new-writer.result b [] = record { bytes = n.buffer; count = n.filled; over = n.register } in
    let h1 : Holds c.put.new.self b (code ∷ []) =
    subst (λ (x : ℕ). Holds c.put.new.self b (x ∷ [])) c.code.ensures
    (holds_more c.new-writer.result c.put.new.self b [] (c.code.result ∷ []) h0 c.in_ok-put.ensures.put) in
    let h2 = holds_more c.put.new.self c.put-2.new.self b (code ∷ []) ps h1 c.in_ok-put-2.ensures.put in
    let h3 = holds-sealed c.put-2.new.self c.seal.new.self b (code ∷ ps) h2 c.in_ok-seal.ensures.put in
    let final : c.seal.new.self.buffer.now ≡ sealed (code ∷ ps) ++ drop (length (sealed (code ∷ ps))) b = h3.bytes in
    let count : c.filled.result ≡ length (sealed (code ∷ ps)) = c.filled.ensures ∙ h3.count in
    let all : making code ps (length b) ≡ made (sealed (code ∷ ps)) = makes code ps (length b) d.command (named_self d.command) d.whole (omega arith) in
    record {
      answer = ap wrote count ∙ sym (ap result_of all);
      buffer = rw all (search rules);
      opens = opens_at code ps _ c.filled.result (drop (length (sealed (code ∷ ps))) b) (search rules) count (opens_back code ps d.command (named_self d.command) d.whole);
    }

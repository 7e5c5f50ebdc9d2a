-- Each byte adds what stands between, and its two digits.
use Rattle.std.proofs.Common.{refl}
use Rattle.notation.proofs.Shown.{one_more, all_shown}
use Rattle.notation.proofs.hexadecimal.HexDisplay.fmt.Goals as goal

pub loop-byte-preserved : goal.loop-byte-preserved
loop-byte-preserved g c p =
    let before = c.loop-byte.invariant p in
    let gap = c.in_ok-write.ensures.writes before.plain refl in
    one_more _ _ _ _ _ _ _ c.loop-byte.byte-index c.loop-byte-test.true before gap (c.in_ok-write_byte-2.ensures gap.plain refl)

pub returns : goal.returns
returns g c = record {
  writes = λ p ok.
      let first = c.in_ok-write_byte.ensures p refl in
      all_shown _ _ _ _ _ c.args.self.now.bytes.now c.loop-byte.byte-index c.in-len1-up.len_at_least c.loop-byte-test.false first (c.loop-byte.invariant first.plain);
}

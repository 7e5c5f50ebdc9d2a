use Rattle.std.proofs.Common.{arith}
use Rattle.frame.specs.Openings.{opening_of}
use Rattle.bench.proofs.Walking.{blank, walked_more, walked_all}
use Rattle.bench.proofs.table_walk.step_each.Goals as goal

pub loop-place-preserved : goal.loop-place-preserved
loop-place-preserved c =
    let w = c.loop-place in
    rw (c.with-heard.ensures.hearing, c.with-heard.ensures.replier)
    (walked_more (opening_of c.args.opened.now) c.args.row c.args.table.now w.table w.place w.coins w.heard.hearing w.heard.replier blank c.step.new.tag
    c.step.result (omega arith) w.invariant c.step.ensures.after c.step.ensures.reply)

pub returns : goal.returns
returns c =
    let w = c.loop-place in
    let all = walked_all (opening_of c.args.opened.now) c.args.row c.args.table.now w.table w.place w.coins w.heard.hearing w.heard.replier (omega arith) w.invariant in
    record { tags = all.tags; air = all.air; plain = all.plain }

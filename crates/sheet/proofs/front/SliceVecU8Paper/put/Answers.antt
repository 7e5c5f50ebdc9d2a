use Rattle.sheet.proofs.Fronts.{put}
use Rattle.sheet.proofs.front.SliceVecU8Paper.put.Goals as goal

pub returns : goal.returns
returns c =
    let h = c.extend_from_slice in
    put c.args.self.now h.new.self c.args.bytes.now h.ensures.behind h.result c.or.result h.ensures.result h.ensures.items c.or.ensures

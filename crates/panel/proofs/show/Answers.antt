use Rattle.std.proofs.Common.{◌≡◌, length, ap, arith}
use Rattle.std.proofs.lemmas.List.{length-take}
use Rattle.panel.proofs.show.Goals as goal

-- The list has its 15 bytes.
pub copy_from_slice-requires : goal.copy_from_slice-requires
copy_from_slice-requires c =
    let size : length c.bytes.result ≡ 15 = ap length c.bytes.ensures in
    simp length-take (omega arith)

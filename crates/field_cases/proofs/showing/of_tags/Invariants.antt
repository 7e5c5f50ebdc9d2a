-- What the tags before a place leave.
use Rattle.std.proofs.Common.{◌≡◌, fold, take}
use Rattle.field_cases.specs.Fingerprints.{blank, tag_mixed}
use Rattle.field_cases.proofs.showing.of_tags.Given as goal

abbrev pub invariant-loop-place : goal.invariant-loop-place
invariant-loop-place g l = l.fingerprint ≡ fold tag_mixed blank (take l.place (g.F.Field.tags l.field))

-- The standard's own case of its check value. Assumes nothing.
use Rattle.std.specs.Prelude.{◌≡◌, codes}
use Rattle.crc.specs.Check.{check_value}

-- The bytes of this text, 31 to 39, have the check value D64E.
unfoldable pub CheckVector : Type 0
CheckVector = check_value (codes "123456789") ≡ 0xd64e

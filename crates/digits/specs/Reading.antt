-- Hexadecimal digits as they are read (01, "The two texts").
use Rattle.std.specs.Prelude.{ℕ, ◌-◌, ◌^◌, min, ◌&&◌, ◌||◌, leb, eqb}
use Rattle.common.specs.Choice.{pick}
use Rattle.digits.specs.declared.reading.ByteKind.{ByteKind}
use Rattle.digits.specs.declared.reading.ByteKind.TheVariants.{Digit, Separator, End}

-- what a byte is: an end (CR, LF, zero), the value of a hexadecimal digit in either letter case, or a separator,
-- which is any other byte
unfoldable pub byte_kind : ℕ → ByteKind
byte_kind b =
    pick (eqb b 13 || eqb b 10 || eqb b 0) End
    (pick (leb 48 b && leb b 57) (Digit (b - 48))
    (pick (leb 65 b && leb b 70) (Digit (b - 55))
    (pick (leb 97 b && leb b 102) (Digit (b - 87))
    Separator)))

-- a number, or 2 ^ 32 where it is larger: what the code keeps of a number of any number of digits
abbrev pub capped : ℕ → ℕ
capped v = min v (2 ^ 32)

-- A site as it is printed: the two fields right after the time (M-106).
use Rattle.std.specs.Prelude.{ℕ, ◌+◌, ◌-◌, ◌/◌, ◌%◌, ◌^◌, Bool, List, [], ◌∷◌, ◌++◌, leb}
use Rattle.common.specs.Choice.{pick}
use Rattle.digits.specs.Digits.{decimal}
use Rattle.sites.specs.declared.Site.{Site}

-- an offset below zero, in two's complement
abbrev pub is_west : ℕ → Bool
is_west n = leb (2 ^ 31) n

-- '-' is 45, '+' is 43; zero is +00:00
abbrev pub sign_of : ℕ → ℕ
sign_of n = pick (is_west n) 45 43

-- the minutes without their sign
abbrev pub minutes : ℕ → ℕ
minutes n = pick (is_west n) (2 ^ 32 - n) n

-- a number below a hundred as two digits
abbrev pub two_digits : ℕ → List ℕ
two_digits k = (48 + k / 10) ∷ (48 + k % 10) ∷ []

-- sign hh:mm
unfoldable pub offset_text : ℕ → List ℕ
offset_text n = (sign_of n ∷ two_digits (minutes n / 60)) ++ (58 ∷ two_digits (minutes n % 60))

-- TAB and the offset, TAB and the second in decimal
unfoldable pub site_text : Site → List ℕ
site_text s = (9 ∷ offset_text s.offset) ++ (9 ∷ decimal s.second)

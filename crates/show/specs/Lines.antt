-- The lines that the bench program prints (01, "Bench sheet").
use Rattle.std.specs.Prelude.{ℕ, List, [], ◌∷◌, ◌++◌}
use Rattle.digits.specs.Ascii.{ascii}
use Rattle.digits.specs.Digits.{hex, decimal}

-- each byte as two digits
unfoldable pub pairs : List ℕ → List ℕ
pairs [] = []
pairs (b ∷ bs) = hex 2 b ++ pairs bs

-- "the 16 message bytes as 32 digits and LF"
abbrev pub record_line : List ℕ → List ℕ
record_line bytes = pairs bytes ++ 10 ∷ []

-- "`refused N used U`, N the refusal and U the bytes used"
abbrev pub refused_line : ℕ → ℕ → List ℕ
refused_line number used = ascii "refused " ++ decimal number ++ ascii " used " ++ decimal used ++ 10 ∷ []

-- Numbers as digits: decimal without leading zeros, hexadecimal of a fixed width in upper case (01, "The two texts").
use Rattle.std.specs.Prelude.{ℕ, zero, suc, ◌+◌, ◌/◌, ◌%◌, ◌^◌, List, [], ◌∷◌, ◌++◌, ltb}
use Rattle.common.specs.Choice.{pick}

-- the upper case hexadecimal digit of a value below 16: '0' is 48, 'A' is 65
unfoldable pub hex_digit : ℕ → ℕ
hex_digit d = pick (ltb d 10) (48 + d) (55 + d)

-- the w lowest hexadecimal digits of n, the highest first
unfoldable pub hex : ℕ → ℕ → List ℕ
hex zero n = []
hex (suc w) n = hex_digit (n / 16 ^ w % 16) ∷ hex w n

-- n in decimal, for an n of at most k digits
unfoldable pub decimal_in : ℕ → ℕ → List ℕ
decimal_in zero n = []
decimal_in (suc k) n = pick (ltb n 10) ((48 + n) ∷ []) (decimal_in k (n / 10) ++ (48 + n % 10) ∷ [])

-- n in decimal, without leading zeros: up to twenty digits
abbrev pub decimal : ℕ → List ℕ
decimal n = decimal_in 20 n

-- each byte as two hexadecimal digits behind a separator
unfoldable pub fields : ℕ → List ℕ → List ℕ
fields separator [] = []
fields separator (b ∷ bs) = (separator ∷ hex 2 b) ++ fields separator bs

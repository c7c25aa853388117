-- Identifiers under an Align (01, "Identifiers and filter").
use Rattle.std.specs.Prelude.{ℕ, ◌*◌, ◌/◌, ◌%◌, ◌^◌, Bool, true, false, ◌&&◌, ◌||◌, [], ◌∷◌, get_or, ltb, leb, eqb, Option, Some, None}
use Rattle.common.specs.Choice.{pick}

-- bit k of n
abbrev pub bit : ℕ → ℕ → ℕ
bit n k = n / 2 ^ k % 2

-- a frame's format is 1, standard, or 2, extended
unfoldable pub is_format : ℕ → Bool
is_format format = eqb format 1 || eqb format 2

-- standard identifiers have 11 bits, extended 29
unfoldable pub id_bits : ℕ → ℕ
id_bits format = pick (eqb format 1) 11 29

-- the lowest bit of the identifier's field at Align 0, 1, 2, 3: the columns "Standard ID" and "Extended ID"
unfoldable pub id_low : ℕ → ℕ → ℕ
id_low format align = get_or (pick (eqb format 1) (0 ∷ 0 ∷ 18 ∷ 21 ∷ []) (0 ∷ 0 ∷ 0 ∷ 3 ∷ [])) align 0

-- a raw identifier shown under an Align: shifted into its field; none, being bad, above its 11 or 29 bits
unfoldable pub aligned : ℕ → ℕ → ℕ → Option ℕ
aligned align format raw =
    pick (leb align 3 && is_format format && ltb raw (2 ^ id_bits format)) (Some (raw * 2 ^ id_low format align)) None

-- the raw identifier of one shown under an Align: none, being bad, with a bit below or above its field
unfoldable pub raw_of : ℕ → ℕ → ℕ → Option ℕ
raw_of align format shown =
    pick
    (leb align 3 && is_format format && eqb (shown % 2 ^ id_low format align) 0
    && ltb (shown / 2 ^ id_low format align) (2 ^ id_bits format))
    (Some (shown / 2 ^ id_low format align)) None

-- a bad identifier
abbrev pub is_bad : Option ℕ → Bool
is_bad (Some raw) = false
is_bad None = true

-- a good identifier's number
abbrev pub id_number : Option ℕ → ℕ
id_number (Some raw) = raw
id_number None = 0

-- The acceptance filter, bit by bit (01, "Identifiers and filter").
use Rattle.std.specs.Prelude.{ℕ, zero, suc, ◌+◌, ◌^◌, Bool, true, not, ◌&&◌, ◌||◌, [], ◌∷◌, get_or, leb, eqb}
use Rattle.common.specs.Choice.{pick}
use Rattle.ids.specs.Ids.{bit, is_format, id_bits}
use Rattle.ids.specs.Frames.{carried}
use Rattle.filters.specs.declared.Filter.{Filter}
use Rattle.ids.specs.declared.Header.{Header}

-- Align is 0 to 3, MaskActive is 0 or 1: settings out of range let nothing through
unfoldable pub is_filter : ℕ → ℕ → Bool
is_filter align active = leb align 3 && leb active 1

-- the lowest filter bit that an identifier meets at Align 0 to 3: the columns "Standard filter", "Extended filter"
unfoldable pub filter_low : ℕ → ℕ → ℕ
filter_low format align = get_or (pick (eqb format 1) (21 ∷ 0 ∷ 18 ∷ 21 ∷ []) (3 ∷ 0 ∷ 0 ∷ 3 ∷ [])) align 0

-- data bits 15..0 are compared in standard frames, but not at Align 1
unfoldable pub data_compared : ℕ → ℕ → Bool
data_compared align format = eqb format 1 && not (eqb align 1)

-- filter bit k is free: mask bit 1 with MaskActive 0, mask bit 0 with MaskActive 1
unfoldable pub free : Filter → ℕ → Bool
free q k = not (eqb (bit q.mask k) q.active)

-- v, a number of w bits, meets the filter bits from low up: each of these is free or v has the code's bit there
unfoldable pub field_meets : Filter → ℕ → ℕ → ℕ → Bool
field_meets q low v zero = true
field_meets q low v (suc w) = (free q (low + w) || eqb (bit v w) (bit q.code (low + w))) && field_meets q low v w

-- an identifier of a format meets its filter bits
unfoldable pub id_passes : ℕ → Filter → ℕ → ℕ → Bool
id_passes align q format id =
    is_filter align q.active && is_format format && field_meets q (filter_low format align) id (id_bits format)

-- data byte i, b, meets the eight filter bits from low up; a byte the frame doesn't carry is not compared
unfoldable pub byte_meets : Filter → Header → ℕ → ℕ → ℕ → Bool
byte_meets q h i low b = leb (carried h) i || field_meets q low b 8

-- where data is compared, the first data byte meets bits 15..8, the second 7..0
unfoldable pub data_passes : ℕ → Filter → Header → ℕ → ℕ → Bool
data_passes align q h first second =
    not (data_compared align h.format) || (byte_meets q h 0 8 first && byte_meets q h 1 0 second)

-- in mode 0 an extended frame is filtered
unfoldable pub mode_takes : ℕ → ℕ → Bool
mode_takes mode format = not (eqb mode 0 && eqb format 2)

-- a frame with these first two data bytes passes the filter: its own format chooses the column
unfoldable pub frame_passes : ℕ → ℕ → Filter → Header → ℕ → ℕ → Bool
frame_passes mode align q h first second =
    mode_takes mode h.format && id_passes align q h.format h.id && data_passes align q h first second

-- how many of the w filter bits from low up are free
unfoldable pub free_bits : Filter → ℕ → ℕ → ℕ
free_bits q low zero = 0
free_bits q low (suc w) = pick (free q (low + w)) 1 0 + free_bits q low w

-- how many identifiers of a format are let through: two to the power of the number of free identifier bits
unfoldable pub let_through : ℕ → Filter → ℕ → ℕ
let_through align q format =
    pick (is_filter align q.active && is_format format) (2 ^ free_bits q (filter_low format align) (id_bits format)) 0

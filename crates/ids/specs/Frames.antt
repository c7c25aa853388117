-- A frame's header (01, "Frames and records").
use Rattle.std.specs.Prelude.{ℕ, ◌*◌, ◌^◌, min, Bool, ltb, leb, eqb}
use Rattle.common.specs.Choice.{pick}
use Rattle.ids.specs.Ids.{is_format, id_bits, id_low}
use Rattle.ids.specs.declared.Header.{Header}

-- 9 (rtr above 1), 10 (dlc above 15), or 0
abbrev pub rtr_dlc_refusal : ℕ → ℕ → ℕ
rtr_dlc_refusal rtr dlc = pick (leb rtr 1) (pick (leb dlc 15) 0 10) 9

-- 0 for a good header; else the first of 13 (format not 1 or 2), 8 (bad raw identifier), 9, 10
unfoldable pub header_refusal : Header → ℕ
header_refusal h =
    pick (is_format h.format)
    (pick (ltb h.id (2 ^ id_bits h.format)) (rtr_dlc_refusal h.rtr h.dlc) 8) 13

-- a good header
abbrev pub good_header : Header → Bool
good_header h = eqb (header_refusal h) 0

-- how many bytes a frame carries: none if rtr is 1, otherwise the smaller of dlc and 8
unfoldable pub carried : Header → ℕ
carried h = pick (eqb h.rtr 1) 0 (min h.dlc 8)

-- a good frame's identifier, shown under an Align
abbrev pub shown_id : ℕ → Header → ℕ
shown_id align h = h.id * 2 ^ id_low h.format align

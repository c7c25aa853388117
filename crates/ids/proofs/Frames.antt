-- A good header's fields, and the number of bytes that a frame carries.
use mathlib.Core.Path.{◌≡◌, refl}
use mathlib.Core.Bool.{Bool, true, false, ◌||◌}
use Prim.Native.Nat.{ℕ, zero-le, ◌^◌, ◌≤◌, ◌<◌}
use native.Mathlib.Nat.{lt_of_lt_of_le, min-le_right}
use native.Mathlib.Omega.{arith}
use lib.Dec.{leb, ltb, eqb}
use lib.Pow.{pow_mono}
use borrow.Author.Tests.{leb-true, ltb-true, eqb-true}
use Rattle.common.specs.Choice.{pick}
use Rattle.ids.specs.Ids.{is_format, id_bits}
use Rattle.ids.specs.Frames.{header_refusal, carried}
use Rattle.ids.specs.declared.Header.{Header}
use Rattle.ids.proofs.Columns.{pick_le, bits_le}

-- no frame carries more than eight bytes
pub carried_le : (h : Header) → carried h ≤ 8
unfolding carried
carried_le h = pick_le (eqb h.rtr 1) {m = 8} (λ e. zero-le) (min-le_right h.dlc 8)

-- a format is at most 2
pub format_le : (f : ℕ) → is_format f ≡ true → f ≤ 2
unfolding is_format
format_le f e = by (eqb f 1) (eqb f 2) (eqb-true f 1) (eqb-true f 2) e
  where
    by : (a b : Bool) → (a ≡ true → f ≡ 1) → (b ≡ true → f ≡ 2) → (a || b) ≡ true → f ≤ 2
    by true b one two e = omega (arith, one refl)
    by false b one two e = omega (arith, two e)

-- what a good header holds
pub record HeaderFacts (h : Header) : Type 0 where
  pub format : is_format h.format ≡ true
  pub id : h.id < 2 ^ id_bits h.format
  pub rtr : h.rtr ≤ 1
  pub dlc : h.dlc ≤ 15

-- a header that is not refused is good in each field
pub good_header_lem : (h : Header) → header_refusal h ≡ 0 → HeaderFacts h
unfolding header_refusal
good_header_lem h e =
    let g = by (is_format h.format) (ltb h.id (2 ^ id_bits h.format)) (leb h.rtr 1) (leb h.dlc 15) e in
    record {
      format = g.0;
      id = ltb-true h.id (2 ^ id_bits h.format) g.1;
      rtr = leb-true h.rtr 1
          g.2;
      dlc = leb-true h.dlc 15 g.3;
    }
  where
    by : (f i r d : Bool) → ◌≡◌ {A = ℕ} (pick f (pick i (pick r (pick d 0 10) 9) 8) 13) 0
        → (f ≡ true) × (i ≡ true) × (r ≡ true) × (d ≡ true)
    by true true true true e = (refl, refl, refl, refl)
    by true true true false e = absurd (omega arith)
    by true true false d e = absurd (omega arith)
    by true false r d e = absurd (omega arith)
    by false i r d e = absurd (omega arith)

-- a good header's identifier has at most 29 bits
pub good_id : (h : Header) → header_refusal h ≡ 0 → h.id < 536870912
good_id h e = lt_of_lt_of_le (good_header_lem h e).id (pow_mono (bits_le h.format))

-- a good header's format is at most 2
pub good_format : (h : Header) → header_refusal h ≡ 0 → h.format ≤ 2
good_format h e = format_le h.format (good_header_lem h e).format

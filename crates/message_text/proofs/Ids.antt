-- Identifiers of any size under an Align: no field reaches past 32 bits.
use Prim.Native.Nat.{ℕ, ◌+◌, ◌/◌, ◌%◌, ◌^◌, ◌≤◌, ◌<◌}
use mathlib.Core.Path.{◌≡◌, refl, sym, ◌∙◌}
use mathlib.Core.Bool.{Bool, true, false, ◌&&◌, and-false}
use native.Mathlib.Nat.{le_trans}
use native.Mathlib.Omega.{arith}
use borrow.Author.Tests.{le-ltb, ltb-true}
use lib.Dec.{leb, ltb, eqb}
use lib.Pow.{pow_mono, pow-add, shr_mono, shl-shr}
use Rattle.std.specs.Prelude.{Some, None}
use Rattle.common.specs.Choice.{pick}
use Rattle.common.proofs.Bools.{apart}
use Rattle.ids.specs.Ids.{is_format, id_bits, id_low, raw_of, is_bad, id_number}
use Rattle.ids.proofs.Columns.{id_in_word}
use Rattle.digits.specs.Reading.{capped}
use Rattle.digits.proofs.Capped.{capped_cong}

-- a number that does not fit in 32 bits is a bad identifier
pub raw_large : (align f v : ℕ) → 2 ^ 32 ≤ v → raw_of align f v ≡ None
unfolding raw_of
raw_large align f v h =
    let w = id_bits f in
    let low = id_low f align in
    let fits : w + low ≤ 32 = omega (arith, id_in_word f align low w refl refl) in
    let large : 2 ^ w ≤ v / 2 ^ low =
    rw (pow-add 2 w low, shl-shr (2 ^ w) low) at (shr_mono low (le_trans (pow_mono fits) h)) in
    rw (le-ltb (v / 2 ^ low) (2 ^ w) large, and-false)

-- so a capped number is the identifier that the number itself is
pub raw_capped : (align f v : ℕ) → raw_of align f (capped v) ≡ raw_of align f v
raw_capped align f v =
    capped_cong (raw_of align f) v (λ h. raw_large align f (2 ^ 32) (omega arith)
    ∙ sym (raw_large align f v (omega arith)))

-- an identifier that is not bad has a format, and lies within its 11 or 29 bits
pub raw_good : (align f v : ℕ) → is_bad (raw_of align f v) ≡ false
    → (is_format f ≡ true) × (id_number (raw_of align f v) < 2 ^ id_bits f)
unfolding raw_of
raw_good align f v e =
    by (leb align 3) (is_format f) (eqb (v % 2 ^ id_low f align) 0) (ltb (v / 2 ^ id_low f align) (2 ^ id_bits f)) refl e
  where
    by : (a k z t : Bool) → ltb (v / 2 ^ id_low f align) (2 ^ id_bits f) ≡ t
        → is_bad (pick (a && k && z && t) (Some (v / 2 ^ id_low f align)) None) ≡ false
        → (k ≡ true) × (id_number (pick (a && k && z && t) (Some (v / 2 ^ id_low f align)) None) < 2 ^ id_bits f)
    by true true true true q e = (refl, ltb-true (v / 2 ^ id_low f align) (2 ^ id_bits f) q)
    by true true true false q e = absurd (apart e)
    by true true false t q e = absurd (apart e)
    by true false z t q e = absurd (apart e)
    by false k z t q e = absurd (apart e)

-- Identifiers under an Align: what is shown is read back, and what is read is shown again.
use mathlib.Core.Path.{◌≡◌, refl, sym}
use mathlib.Core.Bool.{Bool, true, false, ◌&&◌}
use Prim.Native.Nat.{ℕ, ◌+◌, ◌*◌, ◌/◌, ◌%◌, ◌^◌, ◌≤◌, ◌<◌}
use native.Mathlib.Nat.{mul-mod_left}
use native.Mathlib.Omega.{arith}
use lib.Dec.{leb, ltb, eqb}
use lib.Pow.{shl_exact, shl-shr, split}
use borrow.Author.Tests.{le-leb, lt-ltb, eqb-true}
use Rattle.common.specs.Choice.{pick}
use Rattle.common.proofs.Bools.{and_left, and_right}
use Rattle.ids.specs.Ids.{is_format, id_bits, id_low, aligned, raw_of}
use Rattle.std.specs.Prelude.{Some, None}
use Rattle.ids.proofs.Columns.{id_in_word}

-- a raw identifier within its 11 or 29 bits is shown shifted into its field
pub good_aligned : (align f raw : ℕ) → align ≤ 3 → is_format f ≡ true → raw < 2 ^ id_bits f
    → aligned align f raw ≡ Some (raw * 2 ^ id_low f align)
unfolding aligned
good_aligned align f raw ha hf h = simp (le-leb align 3 ha, hf, lt-ltb raw (2 ^ id_bits f) h)

-- the code's shift loses no bit of it
pub align_good : (align f raw low lim : ℕ) → align ≤ 3 → is_format f ≡ true → raw < lim → lim ≡ 2 ^ id_bits f
    → low ≡ id_low f align
    → Some (raw * 2 ^ low % 4294967296) ≡ aligned align f raw
align_good align f raw low lim ha hf hr el elow =
    let h : raw < 2 ^ id_bits f = rw (← el) hr in
    let fits : id_bits f + id_low f align ≤ 32 = omega (arith, id_in_word f align (id_low f align) (id_bits f) refl refl) in
    simp (elow, shl_exact (id_bits f) (id_low f align) 32 h fits, good_aligned align f raw ha hf h)

-- an answer that is good passed its test, and is the value that the test guards
guarded : (t : Bool) (v n : ℕ) → pick t (Some v) None ≡ Some n → (t ≡ true) × (v ≡ n)
guarded true v n e = (refl, cc)
guarded false v n e = let z : ◌≡◌ {A = ℕ} 0 1 = cc in absurd (omega arith)

-- an identifier that was shown is read back
pub read_back : (align f raw a : ℕ) → aligned align f raw ≡ Some a → raw_of align f a ≡ Some raw
unfolding aligned raw_of
read_back align f raw a e =
    let low = id_low f align in
    let g = guarded (leb align 3 && is_format f && ltb raw (2 ^ id_bits f)) (raw * 2 ^ low) a e in
    let known = and_left (leb align 3 && is_format f) (ltb raw (2 ^ id_bits f)) g.0 in
    let small = and_right (leb align 3 && is_format f) (ltb raw (2 ^ id_bits f)) g.0 in
    simp (sym g.1, shl-shr raw low, mul-mod_left raw (2 ^ low), known, small)

-- an identifier that was read is shown again
pub align_back : (align f a raw : ℕ) → raw_of align f a ≡ Some raw → aligned align f raw ≡ Some a
unfolding aligned raw_of
align_back align f a raw e =
    let low = id_low f align in
    let known = leb align 3 && is_format f in
    let clear = eqb (a % 2 ^ low) 0 in
    let small = ltb (a / 2 ^ low) (2 ^ id_bits f) in
    let g = guarded (known && clear && small) (a / 2 ^ low) raw e in
    let h = and_left (known && clear) small g.0 in
    let z : a % 2 ^ low ≡ 0 = eqb-true (a % 2 ^ low) 0 (and_right known clear h) in
    let whole : a / 2 ^ low * 2 ^ low ≡ a = omega (arith, split a low) in
    simp (sym g.1, and_left known clear h, and_right (known && clear) small g.0, whole)

-- Fields of a filter word: each lies within 32 bits, the code's test of one is the definition's, and so is its count
-- of the free bits.
use mathlib.Core.Path.{◌≡◌, refl, ap, ap₂, ◌∙◌}
use mathlib.Core.List.{[], ◌∷◌}
use mathlib.Core.Bool.{Bool, true, false, not, ◌&&◌, ◌||◌}
use Prim.Native.Nat.{ℕ, zero, suc, ◌+◌, ◌-◌, ◌/◌, ◌%◌, ◌^◌, ◌≤◌, ◌<◌, zero-le, min}
use native.Mathlib.Nat.{min-zero, zero-div, mod-one, le_refl}
use native.Mathlib.Omega.{arith}
use lib.Dec.{leb, eqb}
use lib.Bits.{bit_and, bit_xor, differ, and_mask}
use lib.Count.{ones, ones_in}
use borrow.Author.Tests.{leb-true, ne_eqb}
use Rattle.common.specs.Choice.{pick}
use Rattle.common.proofs.Bools.{and_right}
use Rattle.common.proofs.Choices.{by_test}
use Rattle.ids.specs.Ids.{bit, id_bits, id_low}
use Rattle.filters.specs.Filters.{is_filter, filter_low, free, field_meets, free_bits}
use Rattle.filters.specs.declared.Filter.{Filter}
use Rattle.ids.proofs.Bits.{Bit, off, on, is_bit, bit_is, bit-bit_and, bit-bit_xor, bit_shr, bit_ones, zero_suc, ones_suc}
use Rattle.ids.proofs.Columns.{InWord, pick_le, in_word, bits_le}

-- ---- where the fields lie

-- the filter's columns are the identifier's, but for Align 0, which has those of Align 3
pub low_at_0 : (format : ℕ) → id_low format 3 ≡ filter_low format 0
unfolding id_low filter_low
low_at_0 format = by_test (eqb format 1) (λ h. rw h) (λ h. rw h)

pub low_past_0 : (format align : ℕ) → (align ≡ 0 → ⊥) → id_low format align ≡ filter_low format align
unfolding id_low filter_low
low_past_0 format zero h = absurd (h refl)
low_past_0 format (suc align) h = by_test (eqb format 1) (λ t. rw t) (λ t. rw t)

-- the filter bits that an identifier meets
pub filter_in_word : (format align low w : ℕ) → low ≡ filter_low format align → w ≡ id_bits format → InWord low w
unfolding filter_low id_bits
filter_in_word format align low w el ew = in_word (21 ∷ 0 ∷ 18 ∷ 21 ∷ [])
    (3 ∷ 0 ∷ 0 ∷ 3 ∷ []) format align low w el ew refl refl

-- with settings in range MaskActive is 0 or 1
pub filter_active : (align active : ℕ) → is_filter align active ≡ true → active ≤ 1
unfolding is_filter
filter_active align active e = leb-true active 1 (and_right (leb align 3) (leb active 1) e)

-- ---- the bits of a mask that equal v

-- r has a one where the mask's bit equals v
abbrev pub Same : ℕ → ℕ → ℕ → Type 0
Same mask v r = (k : ℕ) → k < 32 → bit r k ≡ pick (eqb (bit mask k) v) 1 0

pub same_flipped : (mask v : ℕ) → v ≡ 0 → Same mask v (bit_xor mask 4294967295)
same_flipped mask v e k h = rw e (bit-bit_xor mask 4294967295 k ∙ ap (differ (bit mask k)) (bit_ones 32 k h)
    ∙ flip (bit_is mask k))
  where
    flip : {b : ℕ} → Bit b → differ b 1 ≡ pick (eqb b 0) 1 0
    flip off = refl
    flip on = refl

pub same_kept : (mask v : ℕ) → v ≡ 1 → Same mask v mask
same_kept mask v e k h = rw e (keep (bit_is mask k))
  where
    keep : {b : ℕ} → Bit b → b ≡ pick (eqb b 1) 1 0
    keep off = refl
    keep on = refl

pub same_none : (mask v : ℕ) → (v ≡ 0 → ⊥) → (v ≡ 1 → ⊥) → Same mask v 0
same_none mask v h0 h1 k h = simp (zero-div, ne_eqb (bit mask k) v (λ e. omega arith))

-- ---- the test of a field

-- what the code computes: the bits from low up that differ and must match
abbrev clash : Filter → ℕ → ℕ → ℕ → ℕ
clash q low v must = bit_and (bit_xor v (q.code / 2 ^ low)) (must / 2 ^ low)

clash_bit : (q : Filter) (low v must k : ℕ) → Same q.mask q.active must → low + k < 32
    → eqb (bit (clash q low v must) k) 0 ≡ (free q (low + k) || eqb (bit v k) (bit q.code (low + k)))
unfolding free
clash_bit q low v must k same h =
    ap (λ (n : ℕ). eqb n 0)
    (bit-bit_and (bit_xor v (q.code / 2 ^ low)) (must / 2 ^ low) k
    ∙ ap₂ min (bit-bit_xor v (q.code / 2 ^ low) k ∙ ap (differ (bit v k)) (bit_shr q.code low k))
    (bit_shr must low k ∙ same (low + k) h))
    ∙ by (eqb (bit q.mask (low + k)) q.active) (bit_is v k) (bit_is q.code (low + k))
  where
    by : (t : Bool) {x y : ℕ} → Bit x → Bit y → eqb (min (differ x y) (pick t 1 0)) 0 ≡ (not t || eqb x y)
    by true off off = refl
    by true off on = refl
    by true on off = refl
    by true on on = refl
    by false {x} {y} a b = ap (λ (n : ℕ). eqb n 0) (min-zero (differ x y))

field_test : (q : Filter) (low v must w : ℕ) → Same q.mask q.active must → low + w ≤ 32
    → eqb (clash q low v must % 2 ^ w) 0 ≡ field_meets q low v w
unfolding field_meets
field_test q low v must zero same h = ap (λ (n : ℕ). eqb n 0) (mod-one (clash q low v must))
field_test q low v must (suc w) same h =
    zero_suc (clash q low v must) w
    ∙ ap₂ ◌&&◌ (clash_bit q low v must w same (omega arith)) (field_test q low v must w same (omega arith))

-- the test in the code: no bit of v that must match differs from the code's
pub field_closed : (q : Filter) (low v w must lows : ℕ) → Same q.mask q.active must → lows ≡ 2 ^ w - 1
    → low + w ≤ 32
    → eqb (bit_and (clash q low v must) lows) 0 ≡ field_meets q low v w
field_closed q low v w must lows same e h = rw (e, and_mask (clash q low v must) w) (field_test q low v must w same h)

-- ---- the number of free bits

free_count : (q : Filter) (low ins w : ℕ) → Same q.mask (1 - q.active) ins → q.active ≤ 1 → low + w ≤ 32
    → ones (ins / 2 ^ low % 2 ^ w) ≡ free_bits q low w
unfolding free_bits free ones ones_in
free_count q low ins zero same ha h = ap ones (mod-one (ins / 2 ^ low))
free_count q low ins (suc w) same ha h =
    ones_suc (ins / 2 ^ low) w
    ∙ ap₂ ◌+◌
    (bit_shr ins low w ∙ same (low + w) (omega arith)
    ∙ other (bit_is q.mask (low + w)) (is_bit q.active (omega arith)))
    (free_count q low ins w same ha (omega arith))
  where
    other : {b a : ℕ} → Bit b → Bit a → ◌≡◌ {A = ℕ} (pick (eqb b (1 - a)) 1 0) (pick (not (eqb b a)) 1 0)
    other off off = refl
    other off on = refl
    other on off = refl
    other on on = refl

-- the count in the code: the ones among the free bits
pub free_closed : (q : Filter) (low w ins lows : ℕ) → Same q.mask (1 - q.active) ins → lows ≡ 2 ^ w - 1
    → q.active ≤ 1 → low + w ≤ 32
    → ones (bit_and (ins / 2 ^ low) lows) ≡ free_bits q low w
free_closed q low w ins lows same e ha h = rw (e, and_mask (ins / 2 ^ low) w) (free_count q low ins w same ha h)

pub free_le : (q : Filter) (low w : ℕ) → free_bits q low w ≤ w
unfolding free_bits
free_le q low zero = zero-le
free_le q low (suc w) = omega (arith, free_le q low w, pick_le (free q (low + w)) (λ e. le_refl 1) zero-le)

-- two to the power of the number of an identifier's free bits fits in 32 bits
pub free_small : (q : Filter) (format n low w : ℕ) → n ≡ free_bits q low w → w ≡ id_bits format → n < 32
free_small q format n low w en ew = omega (arith, free_le q low w, bits_le format)

-- Bits: of x & y, x ^ y, x >> low and 2^n - 1, and the lowest w bits of a number taken together.
use mathlib.Core.Path.{◌≡◌, refl, sym, ap, ◌∙◌}
use mathlib.Core.Bool.{◌&&◌}
use Prim.Native.Nat.{ℕ, zero, suc, ◌+◌, ◌-◌, ◌*◌, ◌/◌, ◌%◌, ◌^◌, ◌<◌, min}
use native.Mathlib.Nat.{add_comm, mod-lt, mul-add-mod_self_right, pow-suc}
use native.Mathlib.Numerals.{add-one}
use native.Mathlib.Omega.{arith}
use lib.Dec.{eqb}
use lib.Arith.{digits_mod}
use lib.Pow.{pow_pos, high, field, mod-mod-pow, mod-pow-add, shr-shr, shl_exact, ones_split, ones_lt}
use lib.Bits.{bit_and, bit_xor, differ, and_step, xor_step, and_shr, xor_shr}
use lib.Count.{ones, ones_in, ones_cat}
use borrow.Author.Tests.{ne_eqb}
use Rattle.ids.specs.Ids.{bit}

-- what a bit can be
pub data Bit : ℕ → Type 0 where
  off : Bit 0
  on : Bit 1

pub is_bit : (n : ℕ) → n < 2 → Bit n
is_bit zero h = off
is_bit (suc zero) h = on
is_bit (suc (suc n)) h = absurd (omega arith)

pub bit_is : (n k : ℕ) → Bit (bit n k)
bit_is n k = is_bit (bit n k) (omega arith)

-- ---- the bits of x & y, x ^ y, x >> low and 2^n - 1

-- an operation that works on each bit apart
bit_op : (op f : ℕ → ℕ → ℕ) → ((a b k : ℕ) → op a b / 2 ^ k ≡ op (a / 2 ^ k) (b / 2 ^ k))
    → ((a b : ℕ) → op a b ≡ op (a / 2) (b / 2) * 2 + f (a % 2) (b % 2))
    → (x y k : ℕ) → f (bit x k) (bit y k) < 2 → bit (op x y) k ≡ f (bit x k) (bit y k)
bit_op op f shr step x y k h =
    ap (λ (n : ℕ). n % 2) (shr x y k ∙ step (x / 2 ^ k) (y / 2 ^ k)) ∙ digits_mod (op (x / 2 ^ k / 2) (y / 2 ^ k / 2)) h

pub bit-bit_and : (x y k : ℕ) → bit (bit_and x y) k ≡ min (bit x k) (bit y k)
bit-bit_and x y k = bit_op bit_and min and_shr and_step x y k (omega arith)

pub bit-bit_xor : (x y k : ℕ) → bit (bit_xor x y) k ≡ differ (bit x k) (bit y k)
bit-bit_xor x y k = bit_op bit_xor differ xor_shr xor_step x y k (small (bit_is x k) (bit_is y k))
  where
    small : {a b : ℕ} → Bit a → Bit b → differ a b < 2
    small off off = omega arith
    small off on = omega arith
    small on off = omega arith
    small on on = omega arith

pub bit_shr : (x low k : ℕ) → bit (x / 2 ^ low) k ≡ bit x (low + k)
bit_shr x low k = ap (λ (n : ℕ). n % 2) (shr-shr x low k)

pub bit_ones : (n k : ℕ) → k < n → bit (2 ^ n - 1) k ≡ 1
bit_ones n k h =
    let at : n ≡ suc (n - suc k) + k = omega arith in
    ap (λ (m : ℕ). bit (2 ^ m - 1) k) at
    ∙ ap (λ (m : ℕ). m / 2 ^ k % 2) (ones_split (suc (n - suc k)) k)
    ∙ ap (λ (m : ℕ). m % 2) (high (2 ^ suc (n - suc k) - 1) k (ones_lt k))
    ∙ omega (arith, pow-suc 2 (n - suc k), pow_pos (n - suc k))

-- `1 << k` is a power of two
pub one_shl : (k : ℕ) → k < 32 → 1 * 2 ^ k % 4294967296 ≡ 2 ^ k
one_shl k h = shl_exact {a = 1} 1 k 32 (omega arith) (omega arith) ∙ omega arith

-- ---- the lowest w + 1 bits: bit w, and the w below it

low_suc : (x w : ℕ) → x % 2 ^ suc w ≡ bit x w * 2 ^ w + x % 2 ^ w
low_suc x w = ap (λ (n : ℕ). x % 2 ^ n) (sym (add-one w) ∙ add_comm w 1) ∙ mod-pow-add x 1 w

pub zero_suc : (x w : ℕ) → eqb (x % 2 ^ suc w) 0 ≡ (eqb (bit x w) 0 && eqb (x % 2 ^ w) 0)
zero_suc x w = ap (λ (n : ℕ). eqb n 0) (low_suc x w) ∙ by (bit_is x w) (x % 2 ^ w)
  where
    by : {b : ℕ} → Bit b → (r : ℕ) → eqb (b * 2 ^ w + r) 0 ≡ (eqb b 0 && eqb r 0)
    by off r = let e : 0 * 2 ^ w + r ≡ r = omega arith in ap (λ (n : ℕ). eqb n 0) e
    by on r = ne_eqb (1 * 2 ^ w + r) 0 (λ e. omega (arith, pow_pos w))

pub ones_suc : (x w : ℕ) → ones (x % 2 ^ suc w) ≡ bit x w + ones (x % 2 ^ w)
unfolding ones ones_in
ones_suc x w =
    ap ones (low_suc x w) ∙ ones_cat w (bit x w) (x % 2 ^ w) (mod-lt x (pow_pos w))
    ∙ ap (λ (n : ℕ). n + ones (x % 2 ^ w)) (one (bit_is x w))
  where
    one : {b : ℕ} → Bit b → ones b ≡ b
    one off = refl
    one on = refl

-- ---- a number t * 2^w + v: its bits below bit w are those of v

bit_low : (n w k : ℕ) → k < w → bit (n % 2 ^ w) k ≡ bit n k
bit_low n w k h =
    let at : w ≡ suc (w - suc k) + k = omega arith in
    let one : suc (w - suc k) ≡ w - suc k + 1 = omega arith in
    ap (λ (m : ℕ). bit (n % 2 ^ m) k) at ∙ ap (λ (m : ℕ). m % 2) (field n (suc (w - suc k)) k)
    ∙ ap (λ (m : ℕ). n / 2 ^ k % 2 ^ m % 2) one ∙ mod-mod-pow (n / 2 ^ k) (w - suc k) 1

pub bit_above : (t v w k : ℕ) → k < w → bit (t * 2 ^ w + v) k ≡ bit v k
bit_above t v w k h =
    sym (bit_low (t * 2 ^ w + v) w k h) ∙ ap (λ (n : ℕ). bit n k) (mul-add-mod_self_right t (2 ^ w) v) ∙ bit_low v w k h

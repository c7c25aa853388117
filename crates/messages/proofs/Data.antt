-- Eight data bytes as one number: what the code computes of them.
use mathlib.Core.Path.{◌≡◌, refl, sym, ap, ◌∙◌}
use mathlib.Core.List.{List, ◌++◌, append-nil}
use mathlib.Core.Bool.{true}
use Prim.Native.Nat.{ℕ, zero, suc, ◌+◌, ◌-◌, ◌*◌, ◌%◌, ◌^◌, ◌<◌, ◌≤◌}
use native.Mathlib.Nat.{pow-succ', one-mul}
use native.Mathlib.Omega.{arith}
use lib.ListN.{length, take, drop, replicate, drop_of_length-le}
use lib.Seq.{take_all}
use lib.Pow.{shl_exact, pow-add}
use lib.Dec.{ltb}
use Rattle.std.specs.Int.{w64, to_le_bytes}
use Rattle.common.specs.Numbers.{Bytes, number_of, all_zero}
use Rattle.common.proofs.LittleEndian.{to_64}
use Rattle.common.proofs.Numbers.{power_pos, bytes_back, zero_past, first_bytes}

power_two : (n : ℕ) → 2 ^ (8 * n) ≡ 256 ^ n
power_two zero = refl
power_two (suc n) =
    let e : 8 * suc n ≡ 8 + 8 * n = omega arith in
    rw (e, pow-add 2 8 (8 * n), pow-succ' 256 n, power_two n)

pub power_shl : (n : ℕ) → n < 8 → 1 * 2 ^ (8 * n) % 2 ^ 64 ≡ 256 ^ n
power_shl n h = shl_exact {a = 1} 1 (8 * n) 64 (omega arith) (omega arith) ∙ one-mul (2 ^ (8 * n)) ∙ power_two n

pub power_not_zero : (n k : ℕ) → k ≡ 256 ^ n → 0 < k
power_not_zero n k e = rw e (power_pos n)

-- the test for zeros past n
pub past : (b : List ℕ) (n d k : ℕ) → Bytes b → d ≡ number_of b → k ≡ 256 ^ n
    → ltb d k ≡ all_zero (drop n b)
past b n d k g p q = rw (p, q) (sym (zero_past b n g))

pub none_past : (b : List ℕ) (n : ℕ) → length b ≡ 8 → 8 ≤ n → true ≡ all_zero (drop n b)
none_past b n h l = sym (ap all_zero (drop_of_length-le b {i = n} (omega arith)))

-- the first n bytes and zeros
pub kept : (b r : List ℕ) (n d k : ℕ) → length b ≡ 8 → Bytes b → d ≡ number_of b → k ≡ 256 ^ n
    → r ≡ to_le_bytes w64 (d % k) → r ≡ take n b ++ replicate (8 - n) 0
kept b r n d k h g p q e =
    e ∙ to_64 (d % k) ∙ rw (p, q) (rw h at (first_bytes b n g))

pub all_kept : (b r : List ℕ) (n d : ℕ) → length b ≡ 8 → Bytes b → 8 ≤ n → d ≡ number_of b → r ≡ to_le_bytes w64 d
    → r ≡ take n b ++ replicate (8 - n) 0
all_kept b r n d h g l p e =
    let z : 8 - n ≡ 0 = omega arith in
    let t : take n b ≡ b = take_all n b (omega arith) in
    e ∙ to_64 d ∙ rw (p, z, t, append-nil) (rw h at (bytes_back b g))

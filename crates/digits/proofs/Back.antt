-- Written digits are read back.
use Prim.Native.Nat.{ℕ, zero, suc, ◌+◌, ◌*◌, ◌/◌, ◌%◌, ◌^◌, ◌<◌}
use mathlib.Core.Path.{◌≡◌, sym, ap, ◌∙◌}
use mathlib.Core.Logic.{by_cases}
use mathlib.Core.List.{List, [], ◌∷◌}
use native.Mathlib.Decide.{dec_lt}
use native.Mathlib.Nat.{add-mul, mul_assoc, pow-succ', mod-eq_of_lt}
use native.Mathlib.Omega.{arith}
use borrow.Author.Tests.{lt-ltb, le-ltb}
use lib.Pow.{mod-pow-add}
use Rattle.digits.specs.Digits.{hex_digit, hex}
use Rattle.digits.specs.Reading.{byte_kind}
use Rattle.digits.specs.declared.reading.ByteKind.{ByteKind}
use Rattle.digits.specs.declared.reading.ByteKind.TheVariants.{Digit, Separator, End}
use Rattle.digits.proofs.Bytes.{decimal_kind, upper_kind}
use Rattle.digits.proofs.Steps.{pow16}

-- a digit is read as its value
pub digit_back : (d : ℕ) → d < 16 → byte_kind (hex_digit d) ≡ Digit d
unfolding hex_digit
digit_back d h =
    by_cases (dec_lt d 10)
    (λ l. rw (lt-ltb d 10 l) (sym (decimal_kind (48 + d) (omega arith) (omega arith)) ∙ ap Digit (omega arith)))
    (λ l. rw (le-ltb d 10 (omega arith)) (sym (upper_kind (55 + d) (omega arith) (omega arith)) ∙ ap Digit (omega arith)))

-- a number with one more digit; no other byte changes it
abbrev pub with_kind : ℕ → ByteKind → ℕ
with_kind acc (Digit d) = acc * 16 + d
with_kind acc Separator = acc
with_kind acc End = acc

-- the number that digits say, behind the digits read so far
unfoldable pub value : ℕ → List ℕ → ℕ
value acc [] = acc
value acc (b ∷ bs) = value (with_kind acc (byte_kind b)) bs

-- the w + 1 lowest digits: digit w, and the w below it
pub low_suc : (w n : ℕ) → n % 16 ^ suc w ≡ n / 16 ^ w % 16 * 16 ^ w + n % 16 ^ w
low_suc w n =
    let e : 4 + 4 * w ≡ 4 * suc w = omega arith in
    rw (← pow16 (suc w), ← pow16 w, ← e) (mod-pow-add n 4 (4 * w))

-- one digit more of a number read so far
pub grown : (w n acc : ℕ) → (acc * 16 + n / 16 ^ w % 16) * 16 ^ w + n % 16 ^ w ≡ acc * 16 ^ suc w + n % 16 ^ suc w
grown w n acc =
    omega (
      arith,
      low_suc w n,
      add-mul (acc * 16) (n / 16 ^ w % 16) (16 ^ w),
      mul_assoc acc 16 (16 ^ w),
      ap (λ (x : ℕ). acc * x) (pow-succ' 16 w),
    )

-- the w lowest digits of a number, read behind others
pub value_hex : (w n acc : ℕ) → value acc (hex w n) ≡ acc * 16 ^ w + n % 16 ^ w
unfolding value hex
value_hex zero n acc = omega arith
value_hex (suc w) n acc =
    let d : ℕ = n / 16 ^ w % 16 in
    ap (λ k. value (with_kind acc k) (hex w n)) (digit_back d (omega arith)) ∙ value_hex w n (acc * 16 + d)
    ∙ grown w n acc

-- a number that fits its digits is read back
pub value_back : (w n : ℕ) → n < 16 ^ w → value 0 (hex w n) ≡ n
value_back w n h = value_hex w n 0 ∙ omega (arith, mod-eq_of_lt h)

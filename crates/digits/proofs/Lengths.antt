-- The lengths of numbers as digits.
use Prim.Native.Nat.{ℕ, zero, suc, ◌+◌, ◌*◌, ◌/◌, ◌%◌, ◌^◌, ◌≤◌, ◌<◌}
use mathlib.Core.Path.{◌≡◌, refl, ap, ◌∙◌}
use mathlib.Core.Logic.{by_cases}
use mathlib.Core.List.{List, [], ◌∷◌}
use native.Mathlib.Decide.{dec_lt}
use native.Mathlib.Omega.{arith}
use lib.ListN.{length, length-append, length-take}
use Rattle.digits.specs.Digits.{hex, decimal_in, decimal, fields}
use Rattle.digits.proofs.Decimal.{in_small, in_large, decimal_small, decimal_large}

-- w hexadecimal digits
pub hex_length : (w n : ℕ) → length (hex w n) ≡ w
unfolding hex
hex_length zero n = refl
hex_length (suc w) n = ap suc (hex_length w n)

-- three bytes for each byte of data
pub fields_length : (separator : ℕ) (bs : List ℕ) → length (fields separator bs) ≡ 3 * length bs
unfolding fields hex
fields_length separator [] = refl
fields_length separator (b ∷ bs) = omega (arith, fields_length separator bs)

large_length : (m n : ℕ) → 10 ≤ n → length (decimal_in (suc m) n) ≡ length (decimal_in m (n / 10)) + 1
large_length m n h = ap length (in_large m n h) ∙ length-append (decimal_in m (n / 10)) ((48 + n % 10) ∷ [])

digits_le : (m k n : ℕ) → n < 10 ^ suc k → length (decimal_in m n) ≤ suc k
unfolding decimal_in
digits_le zero k n h = omega arith
digits_le (suc m) zero n h = rw (in_small m n (omega arith)) (omega arith)
digits_le (suc m) (suc k) n h =
    by_cases (dec_lt n 10)
    (λ l. rw (in_small m n l) (omega arith))
    (λ l. omega (arith, large_length m n (omega arith), digits_le m k (n / 10) (omega arith)))

-- a number below ten to the k + 1 has at most k + 1 digits
pub decimal_le : (k n : ℕ) → n < 10 ^ suc k → length (decimal n) ≤ suc k
decimal_le k n h = digits_le 20 k n h

cut_le : (m n : ℕ) → length (decimal_in m n) ≤ m
unfolding decimal_in
cut_le zero n = omega arith
cut_le (suc m) n =
    by_cases (dec_lt n 10)
    (λ l. rw (in_small m n l) (omega arith))
    (λ l. omega (arith, large_length m n (omega arith), cut_le m (n / 10)))

-- whatever the number, no more than twenty digits are shown
pub decimal_cut_le : (n : ℕ) → length (decimal n) ≤ 20
decimal_cut_le n = cut_le 20 n

-- and no less than one
pub decimal_some : (n : ℕ) → 1 ≤ length (decimal n)
decimal_some n =
    by_cases (dec_lt n 10)
    (λ l. rw (in_small 19 n l) (omega arith))
    (λ l. omega (arith, large_length 19 n (omega arith)))

-- a 32-bit number has at most ten digits
pub decimal_length_le : (n : ℕ) → n < 2 ^ 32 → length (decimal n) ≤ 10
decimal_length_le n h = decimal_le 9 n (omega arith)

-- and there is one of ten digits
pub ten_digits : length (decimal 4294967295) ≡ 10
unfolding decimal_in
ten_digits = refl

-- a number below ten has one digit
pub decimal_length_one : (n : ℕ) → n < 10 → length (decimal n) ≡ 1
decimal_length_one n h = ap length (decimal_small n h)

-- a number below a hundred has at most two
pub decimal_length_two : (n : ℕ) → n < 100 → length (decimal n) ≤ 2
decimal_length_two n h = decimal_le 1 n h

-- a number from ten on has one digit more than its tenth
pub decimal_length_suc : (n : ℕ) → 10 ≤ n → n < 2 ^ 64 → length (decimal n) ≡ length (decimal (n / 10)) + 1
decimal_length_suc n l h = ap length (decimal_large n l h) ∙ length-append (decimal (n / 10)) ((48 + n % 10) ∷ [])

-- how long a line becomes, writer by writer
pub ruleset lengths = (length-append, length-take, hex_length, fields_length)

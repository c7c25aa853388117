-- Laws of decimal numbers: the digits of a number below ten, and of a larger one; a number from its last digit on.
use Prim.Native.Nat.{ℕ, zero, suc, ◌+◌, ◌/◌, ◌%◌, ◌^◌, ◌≤◌, ◌<◌}
use mathlib.Core.Path.{◌≡◌, refl, sym, ap, ◌∙◌}
use mathlib.Core.Logic.{by_cases}
use mathlib.Core.List.{List, [], ◌∷◌, ◌++◌}
use native.Mathlib.Decide.{dec_lt}
use native.Mathlib.Numerals.{add-one}
use native.Mathlib.Omega.{arith}
use borrow.Author.Tests.{lt-ltb, le-ltb}
use lib.ListN.{length, length-append}
use Rattle.digits.specs.Digits.{decimal_in, decimal}

-- a number below ten is its digit
pub in_small : (k n : ℕ) → n < 10 → decimal_in (suc k) n ≡ (48 + n) ∷ []
unfolding decimal_in
in_small k n h = rw (lt-ltb n 10 h)

-- a number from ten on: the digits of its tenth, then its last digit
pub in_large : (k n : ℕ) → 10 ≤ n → decimal_in (suc k) n ≡ decimal_in k (n / 10) ++ (48 + n % 10) ∷ []
unfolding decimal_in
in_large k n h = rw (le-ltb n 10 h)

-- a number of at most k + 1 digits is the same where more are allowed
enough : (k n : ℕ) → n < 10 ^ suc k → decimal_in (suc k) n ≡ decimal_in (suc (suc k)) n
enough zero n h = in_small zero n (omega arith) ∙ sym (in_small (suc zero) n (omega arith))
enough (suc k) n h =
    by_cases (dec_lt n 10)
    (λ l. in_small (suc k) n l ∙ sym (in_small (suc (suc k)) n l))
    (λ l. in_large (suc k) n (omega arith)
    ∙ ap (λ (x : List ℕ). x ++ (48 + n % 10) ∷ []) (enough k (n / 10) (omega arith))
    ∙ sym (in_large (suc (suc k)) n (omega arith)))

-- a number below ten is its digit
pub decimal_small : (n : ℕ) → n < 10 → decimal n ≡ (48 + n) ∷ []
decimal_small n h = in_small 19 n h

-- a number from ten on: its tenth, then its last digit
pub decimal_large : (n : ℕ) → 10 ≤ n → n < 2 ^ 64 → decimal n ≡ decimal (n / 10) ++ (48 + n % 10) ∷ []
decimal_large n l h = in_large 19 n l ∙ ap (λ (x : List ℕ). x ++ (48 + n % 10) ∷ []) (enough 18 (n / 10) (omega arith))

-- ---- from the last digit on

-- the k lowest decimal digits of n, the highest first
unfoldable pub lows : ℕ → ℕ → List ℕ
lows zero n = []
lows (suc k) n = lows k (n / 10) ++ (48 + n % 10) ∷ []

pub lows_length : (k n : ℕ) → length (lows k n) ≡ k
unfolding lows
lows_length zero n = refl
lows_length (suc k) n =
    length-append (lows k (n / 10)) ((48 + n % 10) ∷ [])
    ∙ add-one (length (lows k (n / 10)))
    ∙ ap suc (lows_length k (n / 10))

in_lows : (k n : ℕ) → decimal_in k n ≡ lows (length (decimal_in k n)) n
unfolding decimal_in lows
in_lows zero n = refl
in_lows (suc k) n =
    by_cases (dec_lt n 10)
    (λ l. let e : n % 10 ≡ n = omega arith in rw (in_small k n l, e))
    (λ l. rw (
      in_large k n (omega arith),
      length-append (decimal_in k (n / 10)) ((48 + n % 10) ∷ []),
      add-one (length (decimal_in k (n / 10))),
      ← in_lows k (n / 10),
    ))

-- a number in decimal is as many of its lowest digits as it has
pub decimal_lows : (n : ℕ) → decimal n ≡ lows (length (decimal n)) n
decimal_lows n = in_lows 20 n

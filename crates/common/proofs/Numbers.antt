-- Laws of numbers as bytes, over any number of bytes.
use mathlib.Core.Path.{◌≡◌, refl, sym, ap, ◌∙◌}
use mathlib.Core.List.{List, [], ◌∷◌, ◌++◌}
use mathlib.Core.Bool.{Bool, true, false, ◌&&◌}
use Prim.Native.Nat.{ℕ, zero, suc, ◌+◌, ◌-◌, ◌*◌, ◌/◌, ◌%◌, ◌^◌, ◌<◌}
use native.Mathlib.Nat.{pow-succ', pow-zero, mod-one, mod-lt, mod-eq_of_lt, div-add-mod, mul_assoc}
use native.Mathlib.Nat.{add-mul-mod_self_left}
use native.Mathlib.Omega.{arith}
use lib.ListN.{length, take, drop, replicate}
use lib.Dec.{eqb, ltb}
use borrow.Author.Tests.{eq-eqb, ne_eqb, eqb-true, eqb-false, ltb-true, ltb-false, lt-ltb, le-ltb}
use Rattle.common.specs.Numbers.{Bytes, bytes_of, number_of, all_zero}
use Rattle.common.proofs.Bools.{and_left, and_right}

pub power_pos : (n : ℕ) → 0 < 256 ^ n
power_pos zero = rw pow-zero (omega arith)
power_pos (suc n) = rw pow-succ' (omega (arith, power_pos n))

pub bytes_length : (w n : ℕ) → length (bytes_of w n) ≡ w
bytes_length zero n = refl
bytes_length (suc w) n = ap suc (bytes_length w (n / 256))

-- the bytes of a number that they can hold stand for it
pub number_back : (w n : ℕ) → n < 256 ^ w → number_of (bytes_of w n) ≡ n
number_back zero n h = let l = rw pow-zero at h in omega arith
number_back (suc w) n h =
    let l : n < 256 * 256 ^ w = rw pow-succ' at h in
    let q : n / 256 < 256 ^ w = omega arith in
    rw (number_back w (n / 256) q) (omega arith)

-- bytes are those of the number that they stand for
pub bytes_back : (bs : List ℕ) → Bytes bs → bytes_of (length bs) (number_of bs) ≡ bs
bytes_back [] g = refl
bytes_back (b ∷ bs) g =
    let l : b < 256 = g 0 in
    let e : (b + 256 * number_of bs) % 256 ≡ b = omega arith in
    let f : (b + 256 * number_of bs) / 256 ≡ number_of bs = omega arith in
    rw (e, f, bytes_back bs (λ i. g (suc i)))

-- a number is zero where its bytes are
sum_zero : (x n : ℕ) (a b : Bool) → eqb x 0 ≡ a → eqb n 0 ≡ b → (a && b) ≡ eqb (x + 256 * n) 0
sum_zero x n true true p q =
    let e = eqb-true x 0 p in let f = eqb-true n 0 q in sym (eq-eqb (x + 256 * n) 0 (omega arith))
sum_zero x n true false p q = sym (ne_eqb (x + 256 * n) 0 (λ e. eqb-false n 0 q (omega arith)))
sum_zero x n false b p q = sym (ne_eqb (x + 256 * n) 0 (λ e. eqb-false x 0 p (omega arith)))

pub number_below : (bs : List ℕ) → Bytes bs → number_of bs < 256 ^ length bs
number_below [] g = rw pow-zero (omega arith)
number_below (b ∷ bs) g =
    let l : b < 256 = g 0 in rw pow-succ' (omega (arith, number_below bs (λ i. g (suc i))))

pub zero_number : (bs : List ℕ) → all_zero bs ≡ eqb (number_of bs) 0
zero_number [] = refl
zero_number (b ∷ bs) =
    ap (λ (t : Bool). eqb b 0 && t) (zero_number bs)
    ∙ sum_zero b (number_of bs) (eqb b 0) (eqb (number_of bs) 0) refl refl

one_more_lem : (x n m : ℕ) (a : Bool) → x < 256 → ltb n m ≡ a → a ≡ ltb (x + 256 * n) (256 * m)
one_more_lem x n m true h p = let e = ltb-true n m p in sym (lt-ltb (x + 256 * n) (256 * m) (omega arith))
one_more_lem x n m false h p = let e = ltb-false n m p in sym (le-ltb (x + 256 * n) (256 * m) (omega arith))

below_one : (n : ℕ) (a : Bool) → eqb n 0 ≡ a → a ≡ ltb n 1
below_one n true p = let e = eqb-true n 0 p in sym (lt-ltb n 1 (omega arith))
below_one zero false p = absurd (eqb-false 0 0 p refl)
below_one (suc n) false p = sym (le-ltb (suc n) 1 (omega arith))

-- the number is small where the bytes past n are zero
pub zero_past : (bs : List ℕ) (n : ℕ) → Bytes bs → all_zero (drop n bs) ≡ ltb (number_of bs) (256 ^ n)
zero_past bs zero g = rw pow-zero (zero_number bs ∙ below_one (number_of bs) (eqb (number_of bs) 0) refl)
zero_past [] (suc n) g = sym (lt-ltb 0 (256 ^ suc n) (power_pos (suc n)))
zero_past (b ∷ bs) (suc n) g =
    zero_past bs n (λ i. g (suc i))
    ∙ rw pow-succ' (one_more_lem b (number_of bs) (256 ^ n) (ltb (number_of bs) (256 ^ n)) (g 0) refl)

-- one byte more below
low_step : (x n m : ℕ) → x < 256 → 0 < m → (x + 256 * n) % (256 * m) ≡ x + 256 * (n % m)
low_step x n m h p =
    let e : x + 256 * n ≡ (x + 256 * (n % m)) + (256 * m) * (n / m) =
    omega (arith, div-add-mod n m, mul_assoc 256 m (n / m)) in
    let l : x + 256 * (n % m) < 256 * m = omega (arith, mod-lt n p) in
    rw e (add-mul-mod_self_left (x + 256 * (n % m)) (256 * m) (n / m) ∙ mod-eq_of_lt l)

no_bytes : (w : ℕ) → bytes_of w 0 ≡ replicate w 0
no_bytes zero = refl
no_bytes (suc w) = ap (λ (r : List ℕ). 0 ∷ r) (no_bytes w)

-- the bytes of the number's lowest part are the first n, and zeros
pub first_bytes : (bs : List ℕ) (n : ℕ) → Bytes bs
    → bytes_of (length bs) (number_of bs % 256 ^ n) ≡ take n bs ++ replicate (length bs - n) 0
first_bytes bs zero g =
    let e : length bs - 0 ≡ length bs = omega arith in rw (pow-zero, mod-one, e) (no_bytes (length bs))
first_bytes [] (suc n) g = let e : 0 - suc n ≡ 0 = omega arith in rw e
first_bytes (b ∷ bs) (suc n) g =
    let l : b < 256 = g 0 in
    let y = b + 256 * (number_of bs % 256 ^ n) in
    let e : (b + 256 * number_of bs) % 256 ^ suc n ≡ y =
    rw pow-succ' (low_step b (number_of bs) (256 ^ n) l (power_pos n)) in
    let f : y / 256 ≡ number_of bs % 256 ^ n = omega arith in
    let h : y % 256 ≡ b = omega arith in
    let m : suc (length bs) - suc n ≡ length bs - n = omega arith in
    rw (e, h, f, m, first_bytes bs n (λ i. g (suc i)))

-- bytes that are all zero are zeros
pub zeros_are : (bs : List ℕ) → all_zero bs ≡ true → bs ≡ replicate (length bs) 0
zeros_are [] h = refl
zeros_are (b ∷ bs) h =
    let p : b ≡ 0 = eqb-true b 0 (and_left (eqb b 0) (all_zero bs) h) in
    ap (λ (y : ℕ). y ∷ bs) p ∙ ap (λ (k : List ℕ). 0 ∷ k) (zeros_are bs (and_right (eqb b 0) (all_zero bs) h))

-- zeros are zero
pub zeros_zero : (n : ℕ) → all_zero (replicate n 0) ≡ true
zeros_zero zero = refl
zeros_zero (suc n) = zeros_zero n

-- ---- lists of bytes

pub zeros_bytes : (n : ℕ) → Bytes (replicate n 0)
zeros_bytes zero i = omega arith
zeros_bytes (suc n) zero = omega arith
zeros_bytes (suc n) (suc i) = zeros_bytes n i

pub bytes_are : (w n : ℕ) → Bytes (bytes_of w n)
bytes_are zero n i = omega arith
bytes_are (suc w) n zero = omega arith
bytes_are (suc w) n (suc i) = bytes_are w (n / 256) i

pub bytes_append : (bs cs : List ℕ) → Bytes bs → Bytes cs → Bytes (bs ++ cs)
bytes_append [] cs g h i = h i
bytes_append (b ∷ bs) cs g h zero = g 0
bytes_append (b ∷ bs) cs g h (suc i) = bytes_append bs cs (λ j. g (suc j)) h i

pub bytes_take : (n : ℕ) (bs : List ℕ) → Bytes bs → Bytes (take n bs)
bytes_take zero bs g i = omega arith
bytes_take (suc n) [] g i = omega arith
bytes_take (suc n) (b ∷ bs) g zero = g 0
bytes_take (suc n) (b ∷ bs) g (suc i) = bytes_take n bs (λ j. g (suc j)) i

pub bytes_drop : (n : ℕ) (bs : List ℕ) → Bytes bs → Bytes (drop n bs)
bytes_drop zero bs g = g
bytes_drop (suc n) [] g = λ i. omega arith
bytes_drop (suc n) (b ∷ bs) g = bytes_drop n bs (λ j. g (suc j))

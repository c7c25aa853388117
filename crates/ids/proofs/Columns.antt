-- The identifier's column: its field lies within 32 bits.
use mathlib.Core.Path.{◌≡◌, refl}
use mathlib.Core.List.{List, [], ◌∷◌}
use mathlib.Core.Bool.{Bool, true, false, ◌&&◌}
use Prim.Native.Nat.{ℕ, zero, suc, ◌+◌, ◌≤◌, ◌<◌, zero-le}
use native.Mathlib.Omega.{arith}
use lib.Dec.{leb, eqb}
use lib.ListN.{get_or}
use borrow.Author.Tests.{leb-true, ne_eqb}
use Rattle.common.specs.Choice.{pick}
use Rattle.common.proofs.Bools.{and_left, and_right}
use Rattle.ids.specs.Ids.{id_bits, id_low}

-- a bound of a choice is one of what is chosen
pub pick_le : (t : Bool) {a b m : ℕ} → (t ≡ true → a ≤ m) → b ≤ m → pick t a b ≤ m
pick_le true h g = h refl
pick_le false h g = g

pub pick_same : (t : Bool) (n : ℕ) → pick t n n ≡ n
pick_same true n = refl
pick_same false n = refl

-- a field of w bits from bit low up lies within 32 bits
abbrev pub InWord : ℕ → ℕ → Type 0
InWord low w = (low < 32) × (w < 32) × (low + w ≤ 32)

-- no entry of a column is above m
abbrev at_most : ℕ → List ℕ → Bool
at_most m [] = true
at_most m (x ∷ xs) = leb x m && at_most m xs

entry : (m : ℕ) (xs : List ℕ) (i : ℕ) → at_most m xs ≡ true → get_or xs i 0 ≤ m
entry m [] i h = zero-le
entry m (x ∷ xs) zero h = leb-true x m (and_left (leb x m) (at_most m xs) h)
entry m (x ∷ xs) (suc i) h = entry m xs i (and_right (leb x m) (at_most m xs) h)

-- a column for standard frames with no entry above 21, and one for extended frames with none above 3
pub in_word : (s e : List ℕ) (format align low w : ℕ) → low ≡ get_or (pick (eqb format 1) s e) align 0
    → w ≡ pick (eqb format 1) 11 29
    → at_most 21 s ≡ true → at_most 3 e ≡ true → InWord low w
in_word s e format align low w el ew hs he = rw (el, ew) (by (eqb format 1))
  where
    by : (t : Bool) → InWord (get_or (pick t s e) align 0) (pick t 11 29)
    by true = omega (arith, entry 21 s align hs)
    by false = omega (arith, entry 3 e align he)

-- the identifier's field
pub id_in_word : (format align low w : ℕ) → low ≡ id_low format align → w ≡ id_bits format → InWord low w
unfolding id_low id_bits
id_in_word format align low w el ew = in_word (0 ∷ 0 ∷ 18 ∷ 21 ∷ [])
    (0 ∷ 0 ∷ 0 ∷ 3 ∷ []) format align low w el ew refl refl

-- what stands in a column of four entries, by the tests of the code
pub column : (a b c d i : ℕ) → get_or (a ∷ b ∷ c ∷ d ∷ []) i 0
    ≡ pick (eqb i 0) a (pick (eqb i 1) b (pick (eqb i 2) c (pick (eqb i 3) d 0)))
column a b c d zero = refl
column a b c d (suc zero) = refl
column a b c d (suc (suc zero)) = refl
column a b c d (suc (suc (suc zero))) = refl
column a b c d (suc (suc (suc (suc i)))) = simp (
  far 0 (omega arith),
  far 1 (omega arith),
  far 2 (omega arith),
  far 3
      (omega arith),
)
  where
    far : (k : ℕ) → k < 4 → eqb (suc (suc (suc (suc i)))) k ≡ false
    far k h = ne_eqb (suc (suc (suc (suc i)))) k (λ e. omega arith)

-- an identifier has at most 29 bits
pub bits_le : (format : ℕ) → id_bits format ≤ 29
unfolding id_bits
bits_le format = pick_le (eqb format 1) {a = 11} {b = 29} (λ e. omega arith) (omega arith)

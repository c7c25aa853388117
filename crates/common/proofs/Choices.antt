-- Laws of a choice by a test.
use mathlib.Core.Path.{◌≡◌, refl}
use mathlib.Core.Bool.{Bool, true, false}
use Prim.Native.Nat.{ℕ}
use lib.Dec.{eqb}
use Rattle.common.specs.Choice.{pick}
use Rattle.common.proofs.Bools.{apart}

-- by what a test says
pub by_test {ℓ} : {P : Type ℓ} (t : Bool) → (t ≡ true → P) → (t ≡ false → P) → P
by_test true f g = f refl
by_test false f g = g refl

-- what holds of both ways holds of the choice
pub pick_is {ℓ} : {A : Type ℓ} (P : A → Type 0) (t : Bool) {a b : A} → (t ≡ true → P a) → (t ≡ false → P b)
    → P (pick t a b)
pick_is P true f g = f refl
pick_is P false f g = g refl

-- choices by one test are equal where both ways are
pub pick_same {ℓ} : {A : Type ℓ} (t : Bool) {a b c d : A} → (t ≡ true → a ≡ c) → (t ≡ false → b ≡ d)
    → pick t a b ≡ pick t c d
pick_same true f g = f refl
pick_same false f g = g refl

-- the test of a choice that is 0, and whose second way is none, was passed
pub passed : (b : Bool) (n k : ℕ) → eqb k 0 ≡ false → pick b n k ≡ 0 → (b ≡ true) × (n ≡ 0)
passed true n k z e = (refl, e)
passed false n k z e = absurd (apart (rw e at z))

-- and likewise where the first way is none
pub stopped : (b : Bool) (n k : ℕ) → eqb k 0 ≡ false → pick b k n ≡ 0 → (b ≡ false) × (n ≡ 0)
stopped true n k z e = absurd (apart (rw e at z))
stopped false n k z e = (refl, e)

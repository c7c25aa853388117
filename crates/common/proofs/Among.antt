-- A number that is in a list is in a longer one.
use Prim.Native.Nat.{ℕ}
use mathlib.Core.Path.{◌≡◌, refl, sym}
use mathlib.Core.Bool.{Bool, true, false, ◌||◌}
use mathlib.Core.List.{List, [], ◌∷◌, ◌++◌}
use lib.Dec.{eqb}
use Rattle.common.specs.Numbers.{among}
use Rattle.common.proofs.Bools.{apart}

or_right : {b : Bool} (a : Bool) → b ≡ true → (a || b) ≡ true
or_right true h = refl
or_right false h = h

-- with a number more before it
pub among_later : (n m : ℕ) (ns : List ℕ) → among n ns ≡ true → among n (m ∷ ns) ≡ true
among_later n m ns h = or_right (eqb n m) h

-- with more numbers before it
pub among_last : (n : ℕ) (ms ns : List ℕ) → among n ns ≡ true → among n (ms ++ ns) ≡ true
among_last n [] ns h = h
among_last n (m ∷ ms) ns h = among_later n m (ms ++ ns) (among_last n ms ns h)

-- with more numbers behind it
pub among_first : (n : ℕ) (ns ms : List ℕ) → among n ns ≡ true → among n (ns ++ ms) ≡ true
among_first n [] ms h = absurd (apart (sym h))
among_first n (m ∷ ns) ms h = by (eqb n m) h (among_first n ns ms)
  where
    by : {b c : Bool} (a : Bool) → (a || b) ≡ true → (b ≡ true → c ≡ true) → (a || c) ≡ true
    by true e f = refl
    by false e f = f e

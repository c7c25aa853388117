-- Choices whose test does not matter.
use mathlib.Core.Path.{◌≡◌}
use mathlib.Core.Bool.{Bool, true, false}
use Rattle.common.specs.Choice.{pick}

-- what holds between the two ways of two choices by one test holds between the choices
pub both : {A B : Type 0} (R : A → B → Type 0) (t : Bool) {a b : A} {c d : B} → R a c → R b d
    → R (pick t a b) (pick t c d)
both R true p q = p
both R false p q = q

-- or by two tests that say the same
pub alongside : {A B : Type 0} (R : A → B → Type 0) (t u : Bool) {a b : A} {c d : B} → t ≡ u → R a c → R b d
    → R (pick t a b) (pick u c d)
alongside R t u e p q = rw e (both R u p q)

-- what holds of both ways holds of the choice
pub either : {A : Type 0} (P : A → Type 0) (t : Bool) {a b : A} → P a → P b → P (pick t a b)
either P true p q = p
either P false p q = q

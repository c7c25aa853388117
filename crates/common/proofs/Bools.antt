-- What a test that holds, or fails, says of its parts.
use mathlib.Core.Path.{◌≡◌, refl, sym, ◌∙◌}
use mathlib.Core.Bool.{Bool, true, false, not, ◌&&◌}
use Prim.Native.Nat.{ℕ}
use native.Mathlib.Omega.{arith}
use borrow.Author.Tests.{not-true, not-false}

pub apart : true ≡ false → ⊥
apart h = let z : ◌≡◌ {A = ℕ} 0 1 = cc in omega arith

-- both parts of a conjunction that holds
pub and_left : (a b : Bool) → (a && b) ≡ true → a ≡ true
and_left true b e = refl
and_left false b e = e

pub and_right : (a b : Bool) → (a && b) ≡ true → b ≡ true
and_right true b e = e
and_right false b e = absurd (apart (sym e))

-- what the test `!f(x)` says of the definition that f's answer equals
pub said : {r t : Bool} → r ≡ t → not r ≡ false → t ≡ true
said {r} e h = sym e ∙ not-false r h

pub denied : {r t : Bool} → r ≡ t → not r ≡ true → t ≡ false
denied {r} e h = sym e ∙ not-true r h

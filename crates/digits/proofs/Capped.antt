-- A capped number answers a test as the number itself does.
use Prim.Native.Nat.{ℕ, ◌^◌, ◌≤◌, ◌<◌}
use mathlib.Core.Path.{◌≡◌, sym, ap, ◌∙◌}
use mathlib.Core.Logic.{by_cases}
use native.Mathlib.Decide.{dec_lt}
use native.Mathlib.Omega.{arith}
use borrow.Author.Tests.{lt-ltb, le-ltb}
use lib.Dec.{ltb}
use Rattle.digits.specs.Reading.{capped}

-- what 2 ^ 32 and each larger number have in common, a number and the number capped have in common
pub capped_cong {ℓ} : {A : Type ℓ} (F : ℕ → A) (v : ℕ) → (2 ^ 32 < v → F (2 ^ 32) ≡ F v) → F (capped v) ≡ F v
capped_cong F v f =
    by_cases (dec_lt (2 ^ 32) v)
    (λ h. let e : capped v ≡ 2 ^ 32 = omega arith in ap F e ∙ f h)
    (λ h. let e : capped v ≡ v = omega arith in ap F e)

-- the test v < k
pub capped_ltb : (v k : ℕ) → k ≤ 2 ^ 32 → ltb (capped v) k ≡ ltb v k
capped_ltb v k l = capped_cong (λ x. ltb x k) v (λ h. le-ltb (2 ^ 32) k l ∙ sym (le-ltb v k (omega arith)))

-- the test k < v
pub ltb_capped : (k v : ℕ) → k < 2 ^ 32 → ltb k (capped v) ≡ ltb k v
ltb_capped k v l = capped_cong (λ x. ltb k x) v (λ h. lt-ltb k (2 ^ 32) l ∙ sym (lt-ltb k v (omega arith)))

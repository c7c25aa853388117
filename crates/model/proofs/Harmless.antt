-- A refused call changes nothing, for every call and every box.
use Prim.Native.Nat.{ℕ}
use mathlib.Core.Path.{◌≡◌}
use mathlib.Core.Bool.{true}
use Rattle.common.specs.Refusals.{is_refusal}
use Rattle.model.specs.Box.{Box, Call, step}
use Rattle.model.specs.Listed.{beside, Untouched}
use Rattle.model.proofs.Sound.{step_sound}

-- THEOREM. A refused call leaves the box, prints nothing, and answers zero bytes and the value listed beside it
pub harmless : (i room : ℕ) (x : Call) (b : Box) → is_refusal (step i room x b).said.number ≡ true
    → Untouched b (beside x (step i room x b).said.number) (step i room x b)
harmless i room x b = (step_sound i room b x).untouched

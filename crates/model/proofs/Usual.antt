-- A call answers no number but its usual ones, and the shared settings stay in range.
use Prim.Native.Nat.{ℕ, ◌+◌}
use mathlib.Core.Path.{◌≡◌}
use mathlib.Core.Bool.{true}
use mathlib.Core.List.{List, [], ◌∷◌}
use lib.Dec.{eqb}
use Rattle.common.specs.Numbers.{among}
use Rattle.common.proofs.Choices.{pick_is}
use Rattle.events.specs.Raised.{frame_refusal}
use Rattle.sites.specs.Sites.{good_site}
use Rattle.settings.specs.Ranges.{good_shared}
use Rattle.settings.proofs.Laws.{site_set_good}
use Rattle.settings.specs.declared.Shared.{Shared}
use Rattle.model.specs.Box.{Box, Step, DeviceCall, raise, set_mode, set_format, set_site, changes, does, Call}
use Rattle.model.specs.Box.{on_device, on_receive, on_send, on_align, step, Asked, run}
use Rattle.model.specs.Listed.{usual}
use Rattle.model.proofs.Sound.{step_sound}

-- THEOREM. While the shared settings are in range, a call answers one of its usual numbers
pub says_usual : (i room : ℕ) (x : Call) (b : Box) → good_shared b.shared ≡ true
    → among (step i room x b).said.number (usual x) ≡ true
says_usual i room x b = (step_sound i room b x).number_in

-- ---- the shared settings

-- they are in range
abbrev Good : Step → Type 0
Good r = good_shared r.after.shared ≡ true

-- a change of mode or format
changes_shared : (s : Shared) (tick i : ℕ) (b : Box) → good_shared b.shared ≡ true → Good (changes s tick i b)
changes_shared s tick i b g = pick_is Good (good_shared s) (λ h. h) (λ h. g)

-- every call on the device
does_shared : (i : ℕ) (x : DeviceCall) (b : Box) → good_shared b.shared ≡ true → Good (does i x b)
unfolding does
does_shared i (raise code tick m) b g = pick_is Good (eqb (frame_refusal code m) 0) (λ h. g) (λ h. g)
does_shared i (set_mode mode tick) b g = changes_shared _ tick i b g
does_shared i (set_format format tick) b g = changes_shared _ tick i b g
does_shared i (set_site site) b g = pick_is Good (good_site site) (λ h. site_set_good b.shared g site h) (λ h. g)

-- every call
pub step_shared : (i room : ℕ) (x : Call) (b : Box) → good_shared b.shared ≡ true → Good (step i room x b)
unfolding step
step_shared i room (on_device x) b g = does_shared i x b g
step_shared i room (on_receive x) b g = g
step_shared i room (on_send x) b g = g
step_shared i room (on_align x) b g = g

-- THEOREM. Shared settings that are in range stay in range, whatever the calls
pub run_shared : (xs : List Asked) (i : ℕ) (b : Box) → good_shared b.shared ≡ true
    → good_shared (run i xs b).shared ≡ true
unfolding run
run_shared [] i b g = g
run_shared (x ∷ xs) i b g = run_shared xs (i + 1) _ (step_shared i x.room x.call b g)

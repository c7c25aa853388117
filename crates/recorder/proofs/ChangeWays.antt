-- The event of a change goes past the filter.
use mathlib.Core.Path.{◌≡◌}
use Prim.Native.Nat.{ℕ}
use native.Mathlib.Omega.{arith}
use Rattle.messages.specs.Records.{no_message}
use Rattle.events.specs.Raised.{event_of}
use Rattle.settings.specs.declared.Shared.{Shared}
use Rattle.queue.specs.Recording.{unfiltered}
use Rattle.inbox.proofs.Laws.{no_filter}
use Rattle.device.specs.State.{with_shared}
use Rattle.device.specs.Outcomes.{Lent}
use Rattle.recorder.specs.Outcomes.{met}
use Rattle.device.specs.declared.Device.{Device}
use Rattle.recorder.proofs.Ready.{other_code}

pub change_past : (s : Shared) (tick : ℕ) (d : Device) (l : Lent)
    → met (event_of s.site 5 tick no_message) (with_shared d s) l
    ≡ unfiltered d.receive (event_of s.site 5 tick no_message) l.queue
change_past s tick d l =
    no_filter s d.receive (event_of s.site 5 tick no_message) l.queue
    (other_code s.site 5 tick no_message (λ x. omega arith))

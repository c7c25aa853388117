-- What a device that is ready says of its parts.
use mathlib.Core.Path.{◌≡◌, sym, ◌∙◌}
use mathlib.Core.Bool.{true, ◌&&◌}
use Prim.Native.Nat.{ℕ, ◌≤◌}
use lib.ListN.{length}
use Rattle.common.proofs.Bools.{and_left, and_right}
use Rattle.events.specs.Records.{code_of}
use Rattle.messages.specs.declared.Message.{Message}
use Rattle.events.specs.Raised.{event_of}
use Rattle.events.proofs.OfCode.{event_code}
use Rattle.sites.specs.declared.Site.{Site}
use Rattle.settings.specs.Ranges.{good_shared}
use Rattle.settings.proofs.Laws.{good_align}
use Rattle.queue.specs.Channel.{good_receive, queue_fits, usable}
use Rattle.buffer.specs.Channel.{good_send}
use Rattle.device.specs.State.{good}
use Rattle.device.specs.Outcomes.{Lent}
use Rattle.recorder.specs.Outcomes.{queue_ready}
use Rattle.device.specs.declared.Device.{Device}

-- a device that is ready for its event table is good, and the table is long enough
pub ready_good : (d : Device) (l : Lent) → queue_ready d l ≡ true → good d ≡ true
ready_good d l h = and_left (good d) (queue_fits d.receive (length l.queue)) h

pub ready_fits : (d : Device) (l : Lent) → queue_ready d l ≡ true → queue_fits d.receive (length l.queue) ≡ true
ready_fits d l h = and_right (good d) (queue_fits d.receive (length l.queue)) h

-- a good device has a good receive channel
pub receive_good : (d : Device) → good d ≡ true → good_receive d.receive ≡ true
unfolding good
receive_good d h =
    and_right (good_shared d.shared) (good_receive d.receive)
    (and_left (good_shared d.shared && good_receive d.receive) (good_send d.send) h)

-- and its receive side is usable
pub ready_usable : (d : Device) (l : Lent) → queue_ready d l ≡ true → usable d.receive l.queue ≡ true
ready_usable d l h = rw (receive_good d (ready_good d l h), ready_fits d l h)

-- a good device has a possible Align
pub align_in : (d : Device) → good d ≡ true → d.shared.align ≤ 3
unfolding good
align_in d h =
    good_align d.shared
    (and_left (good_shared d.shared) (good_receive d.receive)
    (and_left (good_shared d.shared && good_receive d.receive) (good_send d.send) h))

-- an event of a code other than 1 has another code than 1
pub other_code : (site : Site) (code tick : ℕ) (m : Message) → (code ≡ 1 → ⊥)
    → code_of (event_of site code tick m).kind ≡ 1 → ⊥
other_code site code tick m differs e = differs (sym (event_code site code tick m) ∙ e)

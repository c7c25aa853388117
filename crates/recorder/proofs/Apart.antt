-- Refusal 2 apart, no send-side answer depends on the event queue: two devices that differ in their receive channels,
-- over any two event tables,
-- both ready, give the same number, value and bytes, and leave the same send channel and the same message table.
use mathlib.Core.Path.{◌≡◌}
use mathlib.Core.Bool.{true}
use mathlib.Core.List.{List}
use Prim.Native.Nat.{ℕ}
use lib.ListN.{length}
use Rattle.common.proofs.Bools.{and_left}
use Rattle.messages.specs.declared.Message.{Message}
use Rattle.queue.specs.Channel.{good_receive, usable}
use Rattle.queue.specs.declared.Receive.{Receive}
use Rattle.buffer.specs.Channel.{send_fits}
use Rattle.buffer.specs.declared.Send.{Send}
use Rattle.device.specs.State.{good, with_receive}
use Rattle.device.specs.Outcomes.{Lent, Outcome}
use Rattle.recorder.specs.Outcomes.{queue_ready, send_ready, both_ready, with_queue}
use Rattle.recorder.specs.Sending.{sent, text_sent}
use Rattle.recorder.specs.Register.{taken, finished, aborted}
use Rattle.device.specs.declared.Device.{Device}
use Rattle.recorder.proofs.Ready.{receive_good, ready_usable}

-- what the sending side is answered and left
pub record Sender : Type 0 where
  pub number : ℕ
  pub value : ℕ
  pub bytes : List ℕ
  pub send : Send
  pub table : List ℕ

abbrev pub sender : Outcome → Sender
sender o = record {
  number = o.number;
  value = o.value;
  bytes = o.bytes;
  send = o.device.send;
  table = o.lent.send;
}

-- a device that is ready has a possible receive side
send_side : (d : Device) (l : Lent) → send_ready d l ≡ true → good_receive d.receive ≡ true
send_side d l h = receive_good d (and_left (good d) (send_fits d.send (length l.send)) h)

both_sides : (d : Device) (l : Lent) → both_ready d l ≡ true → usable d.receive l.queue ≡ true
both_sides d l h = ready_usable d l (and_left (queue_ready d l) (send_fits d.send (length l.send)) h)

module _ (d : Device) (l : Lent) (r : Receive) (q : List ℕ) where
  abbrev other : Device
  other = with_receive d r

  abbrev elsewhere : Lent
  elsewhere = with_queue l q

  pub send_apart : (m : Message) → send_ready d l ≡ true → send_ready other elsewhere ≡ true
      → sender (sent m d l) ≡ sender (sent m other elsewhere)
  unfolding sent
  send_apart m h g = rw (send_side d l h, send_side other elsewhere g)

  pub send_text_apart : (text : List ℕ) → send_ready d l ≡ true → send_ready other elsewhere ≡ true
      → sender (text_sent text d l) ≡ sender (text_sent text other elsewhere)
  unfolding text_sent
  send_text_apart text h g = rw (send_side d l h, send_side other elsewhere g)

  pub take_apart : (tick : ℕ) → both_ready d l ≡ true → both_ready other elsewhere ≡ true
      → sender (taken tick d l) ≡ sender (taken tick other elsewhere)
  unfolding taken
  take_apart tick h g = rw (both_sides d l h, both_sides other elsewhere g)

  pub done_apart : (tick : ℕ) → queue_ready d l ≡ true → queue_ready other elsewhere ≡ true
      → sender (finished tick d l) ≡ sender (finished tick other elsewhere)
  unfolding finished
  done_apart tick h g = rw (ready_usable d l h, ready_usable other elsewhere g)

  pub abort_apart : (tick : ℕ) → queue_ready d l ≡ true → queue_ready other elsewhere ≡ true
      → sender (aborted tick d l) ≡ sender (aborted tick other elsewhere)
  unfolding aborted
  abort_apart tick h g = rw (ready_usable d l h, ready_usable other elsewhere g)

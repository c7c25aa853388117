-- What a call needs to be ready, the event that it raises beside its answer, and what it promises.
use Rattle.std.specs.Prelude.{ℕ, ◌≡◌, Bool, ◌&&◌, List, length, Result}
use Rattle.common.specs.Refusals.{Answers}
use Rattle.common.specs.declared.refusals.Refusal.{Refusal}
use Rattle.events.specs.declared.Event.{Event}
use Rattle.queue.specs.Channel.{queue_fits}
use Rattle.queue.specs.Recording.{Raising}
use Rattle.inbox.specs.Calls.{meets}
use Rattle.buffer.specs.Channel.{send_fits}
use Rattle.device.specs.State.{good, with_receive}
use Rattle.device.specs.Outcomes.{Lent, Outcome, ends}
use Rattle.device.specs.declared.Device.{Device}

-- the tables that a call is lent are as long as their capacities need, and the state is possible: else refusal 2
abbrev pub queue_ready : Device → Lent → Bool
queue_ready d l = good d && queue_fits d.receive (length l.queue)

abbrev pub send_ready : Device → Lent → Bool
send_ready d l = good d && send_fits d.send (length l.send)

abbrev pub both_ready : Device → Lent → Bool
both_ready d l = queue_ready d l && send_fits d.send (length l.send)

-- the lent tables with another event table, another message table, another buffer
abbrev pub with_queue : Lent → List ℕ → Lent
with_queue l t = record { queue = t; send = l.send; out = l.out }

abbrev pub with_table : Lent → List ℕ → Lent
with_table l t = record { queue = l.queue; send = t; out = l.out }

abbrev pub with_out : Lent → List ℕ → Lent
with_out l t = record { queue = l.queue; send = l.send; out = t }

-- an event meets filter, mask and queue of the device
abbrev pub met : Event → Device → Lent → Raising
met e d l = meets d.shared d.receive e l.queue

-- a call's outcome with the event that it raises beside it: number, value and bytes stay
unfoldable pub noted : Event → Outcome → Outcome
noted e o =
    let r : Raising = met e o.device o.lent in
    ends o.number o.value o.bytes (with_receive o.device r.receive) (with_queue o.lent r.table)

-- what every call promises: its number, and the device
pub record Leaves (o : Outcome) (n : ℕ) (d : Device) : Type 0 where
  pub number : n ≡ o.number
  pub device : d ≡ o.device

-- and one that is lent the event table, or the message table: every byte of it
pub record QueueMet (o : Outcome) (n : ℕ) (d : Device) (queue : List ℕ) : Type 0 where
  pub leaves : Leaves o n d
  pub queue_bytes : queue ≡ o.lent.queue

pub record SendMet (o : Outcome) (n : ℕ) (d : Device) (send : List ℕ) : Type 0 where
  pub leaves : Leaves o n d
  pub send_bytes : send ≡ o.lent.send

-- and one that prints into the output buffer: the line's length, and every byte of the buffer
pub record PrintMet (o : Outcome) (r : Result ℕ Refusal) (out : List ℕ) : Type 0 where
  pub answer : Answers o.number o.value r
  pub out_bytes : out ≡ o.lent.out

pub record OutMet (o : Outcome) (r : Result ℕ Refusal) (d : Device) (out : List ℕ) : Type 0 where
  pub prints : PrintMet o r out
  pub device : d ≡ o.device

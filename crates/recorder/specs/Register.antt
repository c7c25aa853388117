-- Take, done and abort: 2 where the receive side is not usable, else what the outbox answers and leaves, with the
-- event that it raises carried to the queue (01, "Sending").
use Rattle.std.specs.Prelude.{ℕ, ◌≡◌, List, replicate, Option, Some, None}
use Rattle.common.specs.Choice.{pick}
use Rattle.messages.specs.Records.{message_size}
use Rattle.events.specs.Raised.{event_of}
use Rattle.events.specs.declared.Raise.{Raise}
use Rattle.sites.specs.declared.Site.{Site}
use Rattle.settings.specs.declared.Shared.{Shared}
use Rattle.queue.specs.Channel.{usable}
use Rattle.queue.specs.Recording.{Raising, raises, unfiltered}
use Rattle.inbox.specs.Calls.{meets}
use Rattle.queue.specs.declared.Receive.{Receive}
use Rattle.outbox.specs.Calls as Outbox
use Rattle.device.specs.State.{with_receive, with_send}
use Rattle.device.specs.Outcomes.{Lent, Outcome, ends, refuses}
use Rattle.recorder.specs.Outcomes.{with_queue, with_table}
use Rattle.device.specs.declared.Device.{Device}

-- the event that a call on the send channel raises, if any, meets filter, mask and queue
abbrev pub carried_over : Option Raise → Shared → Receive → List ℕ → Raising
carried_over None s r q = raises 0 r q
carried_over (Some e) s r q = meets s r (event_of s.site e.code e.tick e.frame) q

-- the same past the filter, which only code 1 meets
abbrev pub carried_past : Option Raise → Site → Receive → List ℕ → Raising
carried_past None site r q = raises 0 r q
carried_past (Some e) site r q = unfiltered r (event_of site e.code e.tick e.frame) q

-- a device d after an event met g: the receive channel, and every byte of the event table
pub record Carried (d : Device) (g : Raising) (next : Device) (queue : List ℕ) : Type 0 where
  pub device : next ≡ with_receive d g.receive
  pub queue_bytes : queue ≡ g.table

-- what the outbox answers and leaves, on the device, with the event that it raises carried to the queue
abbrev pub carrying : Outbox.Outcome → Device → Lent → Outcome
carrying o d l =
    let r : Raising = carried_over o.raised d.shared d.receive l.queue in
    ends o.number o.value o.bytes (with_receive (with_send d o.send) r.receive)
    (with_queue (with_table l o.table) r.table)

-- take moves the oldest to the register: 2, 5, 4, 14; it may raise code 2
unfoldable pub taken : ℕ → Device → Lent → Outcome
taken tick d l =
    pick (usable d.receive l.queue) (carrying (Outbox.taken d.shared d.send tick l.send) d l)
    (ends 2 0 (replicate message_size 0) d l)

-- done empties the register: 2, 4; it may raise code 2
unfoldable pub finished : ℕ → Device → Lent → Outcome
finished tick d l =
    pick (usable d.receive l.queue) (carrying (Outbox.finished d.shared d.send tick l.send) d l)
    (refuses 2 d l)

-- abort empties the register, purges the buffer and answers how many were purged: 2; it may raise code 3
unfoldable pub aborted : ℕ → Device → Lent → Outcome
aborted tick d l =
    pick (usable d.receive l.queue) (carrying (Outbox.aborted d.shared d.send tick l.send) d l)
    (refuses 2 d l)

-- Sending: 2 where the receive side is not possible, else what the outbox answers and leaves (01, "Sending").
use Rattle.std.specs.Prelude.{ℕ, List}
use Rattle.common.specs.Choice.{pick}
use Rattle.messages.specs.declared.Message.{Message}
use Rattle.queue.specs.Channel.{good_receive}
use Rattle.outbox.specs.Calls as Outbox
use Rattle.device.specs.State.{with_send}
use Rattle.device.specs.Outcomes.{Lent, Outcome, ends, refuses}
use Rattle.recorder.specs.Outcomes.{with_table}
use Rattle.device.specs.declared.Device.{Device}

-- what the outbox answers and leaves, on the device
abbrev pub lifted : Outbox.Outcome → Device → Lent → Outcome
lifted o d l = ends o.number o.value o.bytes (with_send d o.send) (with_table l o.table)

-- a binary send: 2, 13 (format above 2, or extended in mode 0), 8, 9, 10, 5
unfoldable pub sent : Message → Device → Lent → Outcome
sent m d l =
    pick (good_receive d.receive) (lifted (Outbox.sent d.shared d.send m l.send) d l) (refuses 2 d l)

-- a text send, in the channel's default format: 2, 6, 7, 8, 9, 10, 7, 11, 12, 5
unfoldable pub text_sent : List ℕ → Device → Lent → Outcome
text_sent text d l =
    pick (good_receive d.receive) (lifted (Outbox.text_sent d.shared d.send text l.send) d l) (refuses 2 d l)

-- Sequences of calls from an opening on: each call on the device and the tables that the last one left,
-- and nothing else writes the tables.
use Rattle.std.specs.Prelude.{ℕ, ◌+◌, List, [], ◌∷◌, ◌++◌, eqb}
use Rattle.common.specs.Choice.{pick}
use Rattle.common.specs.Slots.{ring}
use Rattle.common.specs.declared.Ring.{Ring}
use Rattle.messages.specs.Records.{message_size}
use Rattle.events.specs.Records.{event_size}
use Rattle.queue.specs.Channel.{slot_at}
use Rattle.settings.specs.declared.Settings.{Settings}
use Rattle.device.specs.Outcomes.{Lent, lends, Outcome}
use Rattle.device.specs.Opening.{opened}
use Rattle.device.specs.declared.Device.{Device}
use Rattle.model.specs.Inbox.{ReceiveCall, read_record, read_text, look, set_filter, set_event_mask, identifiers_through}
use Rattle.model.specs.Box.{Call, on_device, on_receive, on_send, on_align}
use Rattle.promises.specs.Typed.{Made}
use Rattle.promises.specs.Calls.{outcome}

-- the device and the tables after some calls, the index of the next call, and the bytes of every event read
pub record Run : Type 0 where
  pub device : Device
  pub queue : List ℕ
  pub send : List ℕ
  pub index : ℕ
  pub read : List (List ℕ)

-- what a call of the run is lent
abbrev pub lent : Run → List ℕ → Lent
lent r out = lends r.queue r.send out

-- the slots that a ring holds, oldest first
abbrev pub held : ℕ → Ring → List ℕ → List (List ℕ)
held w r t = ring w t r.capacity r.first r.count

-- the bytes of the events queued, as they stand in the event table
abbrev pub queued_events : Run → List (List ℕ)
queued_events r = held event_size r.device.receive.ring r.queue

-- the bytes of the messages waiting, as they stand in the message table
abbrev pub waiting : Run → List (List ℕ)
waiting r = held message_size r.device.send.ring r.send

-- the bytes of the events recorded: read, then still queued
abbrev pub recorded_bytes : Run → List (List ℕ)
recorded_bytes r = r.read ++ queued_events r

-- ---- one call

-- the bytes of the event that a read answers: those handed back, or for a text those of the oldest slot as it stood
abbrev pub read_by : ReceiveCall → Run → Outcome → List (List ℕ)
read_by read_record r o = o.bytes ∷ []
read_by read_text r o = slot_at r.device.receive r.queue 0 ∷ []
read_by (look p) r o = []
read_by (set_filter code mask) r o = []
read_by (set_event_mask mask) r o = []
read_by (identifiers_through format) r o = []

-- the event that a call reads, if it answers 0
abbrev pub read_out : Call → Run → Outcome → List (List ℕ)
read_out (on_device x) r o = []
read_out (on_receive x) r o = pick (eqb o.number 0) (read_by x r o) []
read_out (on_send x) r o = []
read_out (on_align x) r o = []

-- what the next call of a run answers and leaves
abbrev pub answered : Made → Run → Outcome
answered x r = outcome x.call r.device (lent r x.out)

-- a run with one call more
unfoldable pub next : Made → Run → Run
next x r = record {
  device = (answered x r).device;
  queue = (answered x r).lent.queue;
  send = (answered x r).lent.send;
  index = r.index + 1;
  read = r.read ++ read_out x.call r (answered x r);
}

-- a list of calls, the first one first
unfoldable pub run : List Made → Run → Run
run [] r = r
run (x ∷ xs) r = run xs (next x r)

-- what opening leaves: no call made yet
abbrev pub started : Settings → Lent → Run
started s l = record {
  device = (opened s l).device;
  queue = (opened s l).lent.queue;
  send = (opened s l).lent.send;
  index = 0;
  read = [];
}

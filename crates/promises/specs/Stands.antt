-- A device with its tables stands for a box of the model; an outcome says what the model says.
use Rattle.std.specs.Prelude.{ℕ, ◌*◌, ◌≡◌, Bool, true, false, ◌&&◌, List, [], ◌∷◌, ◌++◌, map, length, drop, leb, Option, Some, None}
use Rattle.common.specs.All.{All}
use Rattle.common.specs.Numbers.{Bytes}
use Rattle.common.specs.Rings.{good_ring}
use Rattle.common.specs.declared.Ring.{Ring}
use Rattle.filters.specs.EventMask.{is_mask}
use Rattle.messages.specs.Records.{message_size, good_message, message_bytes, no_message}
use Rattle.events.specs.Records.{event_size, code_of, good_event, event_bytes}
use Rattle.messages.specs.declared.Message.{Message}
use Rattle.events.specs.declared.Event.{Event}
use Rattle.settings.specs.Ranges.{good_shared}
use Rattle.settings.specs.TxMode.{good_tx}
use Rattle.queue.specs.Channel.{queue_limit}
use Rattle.queue.specs.declared.Receive.{Receive}
use Rattle.buffer.specs.Channel.{send_limit}
use Rattle.buffer.specs.declared.Send.{Send}
use Rattle.device.specs.Outcomes.{Outcome}
use Rattle.device.specs.declared.Device.{Device}
use Rattle.model.specs.Said.{Said}
use Rattle.model.specs.Inbox.{Kept, Inbox}
use Rattle.model.specs.Outbox.{Outbox}
use Rattle.model.specs.Box.{Box}
use Rattle.promises.specs.Typed.{Word, Made}
use Rattle.promises.specs.Runs.{Run, held, answered, next}

-- a ring of slots of w bytes in the table t has possible numbers, fits in the table, and its slots are the bytes of
-- the entries xs, oldest first
pub record Holds {A : Type 0} (bytes : A → List ℕ) (w limit : ℕ) (r : Ring) (t : List ℕ) (xs : List A) : Type 0 where
  pub numbers : good_ring limit r ≡ true
  pub long : leb (w * r.capacity) (length t) ≡ true
  pub slots : held w r t ≡ map bytes xs

-- an event that its bytes say: good, every number a word, eight data bytes
pub record SoundEvent (e : Event) : Type 0 where
  pub code : Word (code_of e.kind)
  pub low : Word e.low
  pub high : Word e.high
  pub lost : Word e.lost
  pub eight : length e.bytes ≡ 8
  pub whole : good_event e ≡ true

-- an event of the model that its bytes say
abbrev pub SoundKept : Kept → Type 0
SoundKept k = SoundEvent k.event

-- a message that its bytes say: good, with eight data bytes
pub record SoundMessage (m : Message) : Type 0 where
  pub eight : length m.bytes ≡ 8
  pub bytes : Bytes m.bytes
  pub whole : good_message m ≡ true

-- the bytes of an event of the model
abbrev pub kept_bytes : Kept → List ℕ
kept_bytes k = event_bytes k.event

-- a receive channel r with the event table q stands for the inbox b
pub record Receives (r : Receive) (q : List ℕ) (b : Inbox) : Type 0 where
  pub settings : (leb r.filter.active 1 && is_mask r.events) ≡ true
  pub filter : r.filter ≡ b.filter
  pub code : Word r.filter.code
  pub bits : Word r.filter.mask
  pub mask : r.events ≡ b.mask
  pub places : r.ring.capacity ≡ b.places
  pub pending : r.pending ≡ b.pending
  pub word : Word b.pending
  pub events : Holds kept_bytes event_size queue_limit r.ring q b.queue
  pub sound : All SoundKept b.queue

-- the register: held or not, and what stands in it; zeros where it is empty
abbrev pub Register : Bool → Message → Option Message → Type 0
Register held kept None = (held ≡ false) × (kept ≡ no_message)
Register held kept (Some m) = (held ≡ true) × (kept ≡ m) × SoundMessage m

-- a send channel s with the message table t stands for the outbox o
pub record Sends (s : Send) (t : List ℕ) (o : Outbox) : Type 0 where
  pub possible : good_tx s.tx ≡ true
  pub tx : s.tx ≡ o.tx
  pub places : s.ring.capacity ≡ o.places
  pub messages : Holds message_bytes message_size send_limit s.ring t o.buffer
  pub sound : All SoundMessage o.sent
  pub waits : All SoundMessage o.buffer
  pub register : Register s.held s.message o.register

-- the device d with the event table q and the message table t stands for the box b
pub record Stands (d : Device) (q t : List ℕ) (b : Box) : Type 0 where
  pub possible : good_shared d.shared ≡ true
  pub shared : d.shared ≡ b.shared
  pub inbox : Receives d.receive q b.inbox
  pub outbox : Sends d.send t b.outbox

-- a run stands for a box, and has handed out the bytes of the events that the model has read, all of them sound
pub record RunStands (r : Run) (b : Box) : Type 0 where
  pub stands : Stands r.device r.queue r.send b
  pub read : r.read ≡ map kept_bytes b.inbox.read
  pub sound : All SoundKept b.inbox.read

-- the outcome o, over the output buffer `out`, says what the model says: number, value, bytes, and the whole buffer
pub record Says (o : Outcome) (out : List ℕ) (a : Said) : Type 0 where
  pub number : o.number ≡ a.number
  pub value : o.value ≡ a.value
  pub bytes : o.bytes ≡ a.bytes
  pub line : o.lent.out ≡ a.line ++ drop (length a.line) out

-- as many answers as calls, and each call of the run from r on says its answer
abbrev pub Answered : List Made → Run → List Said → Type 0
Answered [] r [] = Unit {0}
Answered [] r (a ∷ rest) = ⊥
Answered (x ∷ xs) r [] = ⊥
Answered (x ∷ xs) r (a ∷ rest) = Says (answered x r) x.out a × Answered xs (next x r) rest

-- A send channel as its users think of it: at most so many messages in a list, and a register of none or one.
-- No table, no ring.
use Rattle.std.specs.Prelude.{ℕ, List, [], ◌∷◌, ◌++◌, map, Bool, length, ltb, eqb, Option, Some, None, Result, Ok, Err}
use Rattle.common.specs.Choice.{pick}
use Rattle.common.specs.Refusals.{number_in}
use Rattle.common.specs.declared.refusals.Refusal.{Refusal}
use Rattle.messages.specs.Records.{message_size, message_bytes}
use Rattle.events.specs.Raised.{event_of}
use Rattle.messages.specs.declared.Message.{Message}
use Rattle.events.specs.declared.Event.{Event}
use Rattle.message_text.specs.Reading.{read_message}
use Rattle.message_text.specs.declared.Said.{Said as TextSaid}
use Rattle.settings.specs.Ranges.{format_of}
use Rattle.settings.specs.TxMode.{raises_at_take, raises_at_done}
use Rattle.settings.specs.Binary.{binary_refusal, sent_message}
use Rattle.sites.specs.declared.Site.{Site}
use Rattle.settings.specs.declared.Shared.{Shared}
use Rattle.model.specs.Said.{Said, says, says_zeros, counts, hands}

-- a message that has left the buffer: taken to the register, or purged by an abort
pub data Gone : Type 0 where
  took : Message → Gone
  purged : Message → Gone

-- the settings; the messages waiting, oldest first, and the register;
-- and what went by: every message sent, and every message that has left the buffer
pub record Outbox : Type 0 where
  pub tx : ℕ
  pub places : ℕ
  pub buffer : List Message
  pub register : Option Message
  pub sent : List Message
  pub gone : List Gone

abbrev pub holding : Outbox → List Message → Option Message → List Message → List Gone → Outbox
holding o b r s g = record { tx = o.tx; places = o.places; buffer = b; register = r; sent = s; gone = g }

-- ---- the calls on a send channel

pub data SendCall : Type 0 where
  send : Message → SendCall
  send_text : (text : List ℕ) → SendCall
  take : (tick : ℕ) → SendCall
  done : (tick : ℕ) → SendCall
  abort : (tick : ℕ) → SendCall

-- what a call answers, the channel after it, and the event that it raises, if any
pub record Posted : Type 0 where
  pub said : Said
  pub outbox : Outbox
  pub raises : Option Event

abbrev pub posted : Said → Outbox → Option Event → Posted
posted a o e = record { said = a; outbox = o; raises = e }

-- a message is put behind the newest: 5 where there is no place
abbrev pub put : Said → Message → Outbox → Posted
put a m o =
    pick (ltb (length o.buffer) o.places)
    (posted a (holding o (o.buffer ++ m ∷ []) o.register (o.sent ++ m ∷ []) o.gone) None)
    (posted (says 5) o None)

-- what a text says: its number, and the bytes used, refused or not
abbrev pub text_says : TextSaid → Said
text_says r = record { number = number_in r.said; value = r.used; bytes = []; line = [] }

-- the message that a text says is put in; a refused text is answered
abbrev pub put_text : TextSaid → Outbox → Posted
put_text r o = by r.said
  where
    by : Result Message Refusal → Posted
    by (Ok m) = put (text_says r) m o
    by (Err why) = posted (text_says r) o None

-- an event with a message's frame, raised where a test holds
abbrev pub raised_if : Site → ℕ → ℕ → Message → Bool → Option Event
raised_if site code tick m test = pick test (Some (event_of site code tick m)) None

-- the oldest of the messages goes to the empty register: 4 where none waits
abbrev pub takes : Site → ℕ → List Message → Outbox → Posted
takes site tick [] o = posted (says_zeros message_size 4) o None
takes site tick (m ∷ rest) o =
    posted (hands (message_bytes m)) (holding o rest (Some m) o.sent (o.gone ++ took m ∷ []))
    (raised_if site 2 tick m (raises_at_take o.tx))

-- take: 5 where the register is occupied
abbrev pub takes_into : (register : Option Message) → Site → ℕ → Outbox → Posted
takes_into None site tick o = takes site tick o.buffer o
takes_into (Some m) site tick o = posted (says_zeros message_size 5) o None

-- done empties the register: 4 where it is empty
abbrev pub finishes : (register : Option Message) → Site → ℕ → Outbox → Posted
finishes None site tick o = posted (says 4) o None
finishes (Some m) site tick o =
    posted (says 0) (holding o o.buffer None o.sent o.gone) (raised_if site 2 tick m (raises_at_done o.tx))

-- abort raises code 3 if the register held a message
abbrev pub aborts : (register : Option Message) → Site → ℕ → Option Event
aborts None site tick = None
aborts (Some m) site tick = Some (event_of site 3 tick m)

unfoldable pub posts : SendCall → Shared → Outbox → Posted
-- 13, 8, 9, 10, 5
posts (send m) s o =
    pick (eqb (binary_refusal s m) 0) (put (says 0) (sent_message s m) o) (posted (says (binary_refusal s m)) o None)
-- 6, 7, 8, 9, 10, 7, 11, 12, 5
posts (send_text text) s o = put_text (read_message s.align (format_of s s.format) text) o
-- 5, 4
posts (take tick) s o = takes_into o.register s.site tick o
-- 4
posts (done tick) s o = finishes o.register s.site tick o
-- the register is emptied and the buffer purged; the answer is how many were purged
posts (abort tick) s o =
    posted (counts (length o.buffer)) (holding o [] None o.sent (o.gone ++ map purged o.buffer))
    (aborts o.register s.site tick)

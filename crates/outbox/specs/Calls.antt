-- Every call on a send channel: a refusal and an effect (01, "Sending").
use Rattle.std.specs.Prelude.{ℕ, ◌≡◌, Bool, List, [], length, replicate, eqb, Option, Some, None, Result, Ok, Err}
use Rattle.common.specs.Choice.{pick}
use Rattle.common.specs.Refusals.{number_in}
use Rattle.common.specs.declared.refusals.Refusal.{Refusal}
use Rattle.common.specs.Slots.{store}
use Rattle.common.specs.Rings.{slot_of, with_one_more}
use Rattle.messages.specs.Records.{message_size, message_bytes, message_in, no_message}
use Rattle.messages.specs.declared.Message.{Message}
use Rattle.events.specs.declared.Raise.{Raise}
use Rattle.message_text.specs.Reading.{read_message}
use Rattle.message_text.specs.declared.Said.{Said}
use Rattle.settings.specs.TxMode.{raises_at_take, raises_at_done}
use Rattle.settings.specs.Ranges.{format_of}
use Rattle.settings.specs.Binary.{binary_refusal, sent_message}
use Rattle.settings.specs.declared.Shared.{Shared}
use Rattle.buffer.specs.Channel.{oldest, with_ring, after_take, after_done, after_abort}
use Rattle.outbox.specs.Refusals.{put_refusal, take_refusal, done_refusal, abort_refusal}
use Rattle.buffer.specs.declared.Send.{Send}

-- ---- what a call answers, leaves and raises

-- the paper's number, a value (the bytes used, how many were purged), the bytes taken;
-- the channel, every byte of the table, and the event raised
pub record Outcome : Type 0 where
  pub number : ℕ
  pub value : ℕ
  pub bytes : List ℕ
  pub send : Send
  pub table : List ℕ
  pub raised : Option Raise

abbrev pub ends : ℕ → ℕ → List ℕ → Send → List ℕ → Option Raise → Outcome
ends n v b s t r = record { number = n; value = v; bytes = b; send = s; table = t; raised = r }

-- the event of a code, a tick and a message where a test holds, else none
abbrev pub raised_if : Bool → ℕ → ℕ → Message → Option Raise
raised_if test code tick m = pick test (Some (record { code = code; tick = tick; frame = m })) None

-- a refusal: its number beside a value and zero bytes; channel and table stay, nothing is raised
abbrev pub refused : ℕ → ℕ → List ℕ → Send → List ℕ → Outcome
refused n v b s t = ends n v b s t None

-- a call: its effect where no refusal applies, else the refusal
abbrev pub settled : ℕ → ℕ → List ℕ → Send → List ℕ → Outcome → Outcome
settled n v b s t effect = pick (eqb n 0) effect (refused n v b s t)

-- what a call promises: its number, and the channel
pub record Leaves (o : Outcome) (n : ℕ) (s : Send) : Type 0 where
  pub number : n ≡ o.number
  pub send : s ≡ o.send

-- and a call that writes the table: every byte as well
pub record Writes (o : Outcome) (n : ℕ) (s : Send) (t : List ℕ) : Type 0 where
  pub leaves : Leaves o n s
  pub table : t ≡ o.table

-- ---- send and send_text

-- a message is written behind the newest, beside a value
abbrev pub puts : Send → Message → ℕ → List ℕ → Outcome
puts s m value t =
    ends 0 value [] (with_ring s (with_one_more s.ring))
    (store message_size t (slot_of s.ring s.ring.count) (message_bytes m)) None

-- a binary send: 2, 13 (format above 2, or extended in mode 0), 8, 9, 10, 5
unfoldable pub sent : Shared → Send → Message → List ℕ → Outcome
sent h s m t = settled (put_refusal h s (length t) (binary_refusal h m)) 0 [] s t (puts s (sent_message h m) 0 t)

-- the message that a text says, zeros for a refused one
abbrev pub said_message : Result Message Refusal → Message
said_message (Ok m) = m
said_message (Err e) = no_message

-- what a text says in the default format
abbrev pub reads : Shared → List ℕ → Said
reads h text = read_message h.align (format_of h h.format) text

-- beside a text's own refusal the bytes used, beside 2 and 5 none
abbrev pub used_beside : ℕ → Said → ℕ
used_beside n r = pick (eqb n (number_in r.said)) r.used 0

-- what a text says is put in, or refused: 2, its own refusal, 5
abbrev pub read_sent : Shared → Send → Said → List ℕ → Outcome
read_sent h s r t =
    let n : ℕ = put_refusal h s (length t) (number_in r.said) in
    settled n (used_beside n r) [] s t (puts s (said_message r.said) r.used t)

-- a text send: 2, 6, 7, 8, 9, 10, 7, 11, 12, 5
unfoldable pub text_sent : Shared → Send → List ℕ → List ℕ → Outcome
text_sent h s text t = read_sent h s (reads h text) t

-- ---- take, done and abort

-- the oldest moves to the register; code 2 is raised if TxMode bit 1 is set and bit 2 is not
abbrev pub takes : Send → ℕ → Message → List ℕ → Outcome
takes s tick m t = ends 0 0 (message_bytes m) (after_take s m) t (raised_if (raises_at_take s.tx) 2 tick m)

-- a take: 2, 5, 4, 14
unfoldable pub taken : Shared → Send → ℕ → List ℕ → Outcome
taken h s tick t =
    settled (take_refusal h s t) 0 (replicate message_size 0) s t (takes s tick (message_in (oldest s t)) t)

-- the register is emptied; code 2 is raised if TxMode bits 1 and 2 are set
abbrev pub finishes : Send → ℕ → List ℕ → Outcome
finishes s tick t = ends 0 0 [] (after_done s) t (raised_if (raises_at_done s.tx) 2 tick s.message)

-- a done: 2, 4
unfoldable pub finished : Shared → Send → ℕ → List ℕ → Outcome
finished h s tick t = settled (done_refusal h s) 0 [] s t (finishes s tick t)

-- the register is emptied, code 3 raised if it held a message; the buffer is purged, and the answer is how many were
abbrev pub aborts : Send → ℕ → List ℕ → Outcome
aborts s tick t = ends 0 s.ring.count [] (after_abort s) t (raised_if s.held 3 tick s.message)

-- an abort: 2
unfoldable pub aborted : Shared → Send → ℕ → List ℕ → Outcome
aborted h s tick t = settled (abort_refusal h s) 0 [] s t (aborts s tick t)

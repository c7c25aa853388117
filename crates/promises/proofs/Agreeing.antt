-- What an outcome and a step of the model have in common, and the ways in which both go: a choice, an event met,
-- an event raised beside an answer.
use Prim.Native.Nat.{ℕ}
use mathlib.Core.Path.{◌≡◌, refl, sym, subst, ◌∙◌}
use mathlib.Core.Bool.{Bool, true, false, not, ◌||◌}
use mathlib.Core.List.{List, ◌++◌}
use native.Mathlib.Omega.{arith}
use lib.ListN.{length, drop}
use lib.Dec.{ltb}
use Rattle.std.specs.Prelude.{Option, Some, None}
use Rattle.common.specs.Choice.{pick}
use Rattle.filters.specs.EventMask.{mask_lets}
use Rattle.messages.specs.Records.{good_message}
use Rattle.events.specs.Records.{event_size, code_of, stamped}
use Rattle.events.specs.Raised.{filtered}
use Rattle.messages.specs.declared.Message.{Message}
use Rattle.events.specs.declared.Event.{Event}
use Rattle.events.proofs.RoundTrip.{event_bytes_length}
use Rattle.settings.specs.declared.Shared.{Shared}
use Rattle.queue.specs.Channel.{queue_limit, good_receive, usable}
use Rattle.inbox.specs.Refusals.{possible, ready}
use Rattle.queue.specs.Recording.{Raising, queued, unfiltered}
use Rattle.inbox.specs.Calls as Queue
use Rattle.queue.specs.declared.Receive.{Receive}
use Rattle.buffer.specs.Channel.{good_send}
use Rattle.buffer.specs.declared.Send.{Send}
use Rattle.device.specs.State.{good}
use Rattle.device.specs.Outcomes.{lends, Outcome, ends}
use Rattle.recorder.specs.Outcomes.{met, noted}
use Rattle.device.specs.declared.Device.{Device}
use Rattle.model.specs.Said.{Said}
use Rattle.model.specs.Inbox.{keeps, Inbox, recording, losing, Met, meets, arrival}
use Rattle.model.specs.Outbox.{Outbox}
use Rattle.model.specs.Box.{Box, box, Step, steps}
use Rattle.model.specs.Box as Model
use Rattle.promises.specs.Stands.{SoundEvent, SoundKept, kept_bytes, Receives, Register, Sends, Stands, Says}
use Rattle.promises.proofs.Holding.{all_snoc, holds_count, holds_more}
use Rattle.promises.proofs.Sound.{stamped_sound}

-- ---- what stands for a box is possible, and its tables are long enough

pub receive_usable : (r : Receive) (q : List ℕ) (b : Inbox) → Receives r q b → usable r q ≡ true
unfolding good_receive
receive_usable r q b h = rw (h.settings, h.events.numbers, h.events.long)

pub receive_possible : (r : Receive) (q : List ℕ) (b : Inbox) → Receives r q b → good_receive r ≡ true
unfolding good_receive
receive_possible r q b h = rw (h.settings, h.events.numbers)

register_possible : (s : Send) (m : Option Message) → Register s.held s.message m
    → (not s.held || good_message s.message) ≡ true
register_possible s None h = rw h.0
register_possible s (Some m) h = rw (h.0, h.1) h.2.whole

pub send_possible : (s : Send) (t : List ℕ) (o : Outbox) → Sends s t o → good_send s ≡ true
unfolding good_send
send_possible s t o h = rw (h.possible, h.messages.numbers, register_possible s o.register h.register)

-- a device that stands for a box is possible
pub device_possible : (d : Device) (q t : List ℕ) (b : Box) → Stands d q t b → good d ≡ true
unfolding good
device_possible d q t b h =
    rw (
      h.possible,
      receive_possible d.receive q b.inbox h.inbox,
      send_possible d.send t b.outbox h.outbox,
    )

-- and so are its settings and its receive channel, ready for the event table
pub inbox_possible : (d : Device) (q t : List ℕ) (b : Box) → Stands d q t b → possible d.shared d.receive ≡ true
unfolding possible
inbox_possible d q t b h = rw (h.possible, receive_possible d.receive q b.inbox h.inbox)

pub inbox_ready : (d : Device) (q t : List ℕ) (b : Box) → Stands d q t b
    → ready d.shared d.receive (length q) ≡ true
unfolding ready
inbox_ready d q t b h = rw (inbox_possible d q t b h, h.inbox.events.long)

-- ---- an event meets the queue

-- the number that an event meets is the model's, and so is the channel that it leaves
abbrev SameMet : Raising → Met → Type 0
SameMet g m = (g.number ≡ m.number) × Receives g.receive g.table m.inbox

ways : (c c' : Bool) {g g' : Raising} {m m' : Met} → c ≡ c' → (c ≡ true → SameMet g m) → (c ≡ false → SameMet g' m')
    → SameMet (pick c g g') (pick c' m m')
ways true c' e x y = rw (← e) (x refl)
ways false c' e x y = rw (← e) (y refl)

module _ (r : Receive) (q : List ℕ) (b : Inbox) (h : Receives r q b) where
  -- the queue has room where the list has
  pub room_is : ltb r.ring.count r.ring.capacity ≡ ltb (length b.queue) b.places
  room_is = λ j. ltb (holds_count kept_bytes event_size queue_limit r.ring q b.queue h.events j) (h.places j)

  recorded_is : (i : ℕ) (e : Event) → SoundEvent e → ltb r.ring.count r.ring.capacity ≡ true
      → SameMet (queued r e q) (meets 100 (recording i e b))
  unfolding queued
  recorded_is i e f z =
      let s : SoundEvent (stamped e b.pending) = stamped_sound e b.pending f h.word in
      rw (z, h.pending) (
        refl,
        record {
          settings = h.settings;
          filter = h.filter;
          code = h.code;
          bits = h.bits;
          mask = h.mask;
          places = h.places;
          pending = refl;
          word = omega arith;
          events =
              holds_more kept_bytes event_size queue_limit r.ring q b.queue (keeps i (stamped e b.pending))
              h.events z
              (event_bytes_length (stamped e b.pending) f.eight);
          sound =
              all_snoc SoundKept b.queue (keeps i (stamped e b.pending))
              h.sound s;
        },
      )

  lost_is : (i : ℕ) (e : Event) → ltb r.ring.count r.ring.capacity ≡ false
      → SameMet (queued r e q) (meets 103 (losing i e b))
  unfolding queued
  lost_is i e z =
      rw z (
        refl,
        record {
          settings = h.settings;
          filter = h.filter;
          code = h.code;
          bits = h.bits;
          mask = h.mask;
          places = h.places;
          pending = rw h.pending;
          word = omega arith;
          events = h.events;
          sound = h.sound;
        },
      )

  -- an event that is raised on the channel meets what it meets in the model, and the channel after it stands for the
  -- inbox after it
  pub arrival_is : (s : Shared) (i : ℕ) (e : Event) → SoundEvent e → SameMet (Queue.meets s r e q) (arrival s i e b)
  unfolding Queue.meets unfiltered arrival
  arrival_is s i e f =
      ways (filtered s.mode s.align r.filter e) (filtered s.mode s.align b.filter e)
      (rw h.filter) (λ z. (refl, h))
      (λ z. ways (mask_lets r.events (code_of e.kind)) (mask_lets b.mask (code_of e.kind)) (rw h.mask)
      (λ y. pick_queued (ltb r.ring.count r.ring.capacity) refl)
      (λ y. (refl, h)))
    where
      pick_queued : (c : Bool) → ltb r.ring.count r.ring.capacity ≡ c
          → SameMet (queued r e q) (pick (ltb (length b.queue) b.places) (meets 100 (recording i e b))
          (meets 103 (losing i e b)))
      pick_queued true z = rw (sym room_is ∙ z) (recorded_is i e f z)
      pick_queued false z = rw (sym room_is ∙ z) (lost_is i e z)

-- ---- an outcome and a step

-- the outcome says what the step says, and leaves what stands for the box that the step leaves
abbrev pub Agrees : Outcome → List ℕ → Step → Type 0
Agrees o out s = Says o out s.said × Stands o.device o.lent.queue o.lent.send s.after

-- what agrees with an outcome agrees with any equal one
pub agrees_as : {o p : Outcome} {out : List ℕ} {s : Step} → o ≡ p → Agrees p out s → Agrees o out s
agrees_as {o} {p} {out} {s} e a = subst (λ (x : Outcome). Agrees x out s) (sym e) a

-- a choice by one test
pub agree_ways : (c : Bool) (out : List ℕ) {o o' : Outcome} {s s' : Step} → (c ≡ true → Agrees o out s)
    → (c ≡ false → Agrees o' out s')
    → Agrees (pick c o o') out (pick c s s')
agree_ways true out f g = f refl
agree_ways false out f g = g refl

-- an event raised beside an answer arrives in the inbox, and the answer stays
pub notes : (e : Event) (i : ℕ) (o : Outcome) (out : List ℕ) (a : Said) (b : Box) → SoundEvent e
    → Agrees o out (steps a b)
    → Agrees (noted e o) out (steps a (box b.shared (arrival b.shared i e b.inbox).inbox b.outbox))
unfolding noted
notes e i o out a b f h =
    let s = h.1 in
    let m : SameMet (met e o.device o.lent) (arrival b.shared i e b.inbox) =
    rw s.shared (arrival_is o.device.receive o.lent.queue b.inbox s.inbox b.shared i e f) in (
      record { number = h.0.number; value = h.0.value; bytes = h.0.bytes; line = h.0.line },
      record { possible = s.possible; shared = s.shared; inbox = m.1; outbox = s.outbox },
    )

-- an event that is raised only where a test holds
pub notes_if : (c c' : Bool) → c ≡ c' → (e : Event) (i : ℕ) (o : Outcome) (out : List ℕ) (a : Said) (b : Box)
    → SoundEvent e
    → Agrees o out (steps a b)
    → Agrees (pick c (noted e o) o) out
    (steps a (box b.shared (Model.noted b.shared i (pick c' (Some e) None) b.inbox) b.outbox))
notes_if true c' same e i o out a b f h = rw (← same) (notes e i o out a b f h)
notes_if false c' same e i o out a b f h = rw (← same) h

-- an outcome with the model's own number, value, bytes and line
pub told : (a : Said) (d : Device) (q t out : List ℕ)
    → Says (ends a.number a.value a.bytes d (lends q t (a.line ++ drop (length a.line) out))) out a
told a d q t out = record { number = refl; value = refl; bytes = refl; line = refl }

-- What a call moves of the device, so the few numbers that it writes are all that the state needs.
use mathlib.Core.Path.{◌≡◌, refl, sym, ap, ◌∙◌}
use mathlib.Core.List.{List}
use Prim.Native.Nat.{ℕ}
use Rattle.std.specs.Prelude.{Option, Some, None}
use lib.ListN.{length}
use lib.Dec.{ltb, eqb}
use Rattle.common.proofs.Choices.{pick_is}
use Rattle.filters.specs.EventMask.{mask_lets}
use Rattle.events.specs.Records.{code_of}
use Rattle.events.specs.declared.Event.{Event}
use Rattle.events.specs.declared.Raise.{Raise}
use Rattle.messages.specs.declared.Message.{Message}
use Rattle.events.specs.Raised.{filtered, event_of}
use Rattle.settings.specs.declared.Shared.{Shared}
use Rattle.queue.specs.Channel.{usable, moved}
use Rattle.inbox.specs.Refusals.{raise_refusal, record_refusal, text_refusal}
use Rattle.queue.specs.Recording.{Raising, queued, unfiltered}
use Rattle.inbox.specs.Calls.{meets}
use Rattle.inbox.specs.Calls as Inbox
use Rattle.queue.specs.declared.Receive.{Receive}
use Rattle.buffer.specs.Channel.{good_send}
use Rattle.outbox.specs.Refusals.{take_refusal, done_refusal, abort_refusal}
use Rattle.outbox.specs.Calls as Outbox
use Rattle.buffer.specs.declared.Send.{Send}
use Rattle.device.specs.Outcomes.{Lent, Outcome}
use Rattle.recorder.specs.Receiving.{raised, record_read, text_read}
use Rattle.recorder.specs.Register.{carried_over, carrying, taken, finished, aborted}
use Rattle.device.specs.declared.Device.{Device}
use Rattle.kept.specs.State.{state_bytes, device_in, counted, advanced, transferred}

-- ---- what a call can move: its next device is the old one with its own numbers

-- count and pending of the queue
abbrev pub Counts : Device → Device → Type 0
Counts d e = e ≡ counted d e.receive.ring.count e.receive.pending

-- first and count of the queue
abbrev pub Advances : Device → Device → Type 0
Advances d e = e ≡ advanced d e.receive.ring.first e.receive.ring.count

-- count and pending of the queue; first, count and register of the send channel
abbrev pub Transfers : Device → Device → Type 0
Transfers d e = e ≡ transferred (counted d e.receive.ring.count e.receive.pending) e.send

-- ---- the channels by themselves

-- an event moves count and pending of the queue
abbrev Raises : Receive → Raising → Type 0
Raises r g =
    g.receive
    ≡ moved r (record { capacity = r.ring.capacity; first = r.ring.first; count = g.receive.ring.count })
    g.receive.pending

module _ (h : Shared) (r : Receive) (t : List ℕ) where
  meets_raises : (e : Event) → Raises r (meets h r e t)
  unfolding meets unfiltered queued
  meets_raises e =
      pick_is (Raises r) (filtered h.mode h.align r.filter e) (λ a. refl)
      (λ a. pick_is (Raises r) (mask_lets r.events (code_of e.kind))
      (λ b. pick_is (Raises r) (ltb r.ring.count r.ring.capacity) (λ c. refl) (λ c. refl)) (λ b. refl))

  raised_raises : (code tick : ℕ) (m : Message) → Raises r (Inbox.raised h r code tick m t)
  unfolding Inbox.raised
  raised_raises code tick m =
      pick_is (Raises r) (eqb (raise_refusal h r (length t) code m) 0)
      (λ a. meets_raises (event_of h.site code tick m))
      (λ a. refl)

  carried_raises : (e : Option Raise) → Raises r (carried_over e h r t)
  carried_raises None = refl
  carried_raises (Some e) = meets_raises (event_of h.site e.code e.tick e.frame)

-- a call on the send channel moves first, count and register
abbrev Sends : Send → Outbox.Outcome → Type 0
Sends s o =
    o.send
    ≡ record {
      tx = s.tx;
      ring = record { capacity = s.ring.capacity; first = o.send.ring.first; count = o.send.ring.count };
      held = o.send.held;
      message = o.send.message;
    }

module _ (h : Shared) (s : Send) (tick : ℕ) (t : List ℕ) where
  taken_sends : Sends s (Outbox.taken h s tick t)
  unfolding Outbox.taken
  taken_sends = pick_is (Sends s) (eqb (take_refusal h s t) 0) (λ a. refl) (λ a. refl)

  finished_sends : Sends s (Outbox.finished h s tick t)
  unfolding Outbox.finished
  finished_sends = pick_is (Sends s) (eqb (done_refusal h s) 0) (λ a. refl) (λ a. refl)

  aborted_sends : Sends s (Outbox.aborted h s tick t)
  unfolding Outbox.aborted
  aborted_sends = pick_is (Sends s) (eqb (abort_refusal h s) 0) (λ a. refl) (λ a. refl)

-- ---- the calls

module _ (d : Device) (l : Lent) where
  pub raise_moves : (code tick : ℕ) (m : Message) → Counts d (raised code tick m d l).device
  unfolding raised
  raise_moves code tick m =
      pick_is (λ (o : Outcome). Counts d o.device) (good_send d.send)
      (λ a. λ i. record {
        shared = d.shared;
        receive = raised_raises d.shared d.receive l.queue code tick m i;
        send = d.send;
      })
      (λ a. refl)

  -- what a read leaves of the receive channel
  abbrev Reads : Inbox.Outcome → Type 0
  Reads o =
      o.receive
      ≡ moved d.receive
      (record {
        capacity = d.receive.ring.capacity;
        first = o.receive.ring.first;
        count = o.receive.ring.count;
      })
      d.receive.pending

  pub record_moves : Advances d (record_read d l).device
  unfolding record_read Inbox.record_read
  record_moves =
      let read : Reads (Inbox.record_read d.shared d.receive l.queue) =
      pick_is Reads (eqb (record_refusal d.shared d.receive l.queue) 0) (λ b. refl) (λ b. refl) in
      pick_is (λ (o : Outcome). Advances d o.device) (good_send d.send)
      (λ a. λ i. record { shared = d.shared; receive = read i; send = d.send })
      (λ a. refl)

  pub text_moves : Advances d (text_read d l).device
  unfolding text_read Inbox.text_read
  text_moves =
      let n = text_refusal d.shared d.receive l.queue (length l.out) in
      let read : Reads (Inbox.text_read d.shared d.receive l.queue (length l.out)) =
      pick_is Reads (eqb n 0) (λ b. refl) (λ b. refl) in
      pick_is (λ (o : Outcome). Advances d o.device) (good_send d.send)
      (λ a. λ i. record { shared = d.shared; receive = read i; send = d.send })
      (λ a. refl)

  -- a call on the send channel, with the event that it raises
  carries : (o : Outbox.Outcome) → Sends d.send o → Transfers d (carrying o d l).device
  carries o s = λ i. record {
    shared = d.shared;
    receive = carried_raises d.shared d.receive l.queue o.raised i;
    send = s i;
  }

  pub take_moves : (tick : ℕ) → Transfers d (taken tick d l).device
  unfolding taken
  take_moves tick =
      pick_is (λ (o : Outcome). Transfers d o.device) (usable d.receive l.queue)
      (λ a. carries (Outbox.taken d.shared d.send tick l.send)
      (taken_sends d.shared d.send tick l.send))
      (λ a. refl)

  pub done_moves : (tick : ℕ) → Transfers d (finished tick d l).device
  unfolding finished
  done_moves tick =
      pick_is (λ (o : Outcome). Transfers d o.device) (usable d.receive l.queue)
      (λ a. carries (Outbox.finished d.shared d.send tick l.send)
      (finished_sends d.shared d.send tick l.send))
      (λ a. refl)

  pub abort_moves : (tick : ℕ) → Transfers d (aborted tick d l).device
  unfolding aborted
  abort_moves tick =
      pick_is (λ (o : Outcome). Transfers d o.device) (usable d.receive l.queue)
      (λ a. carries (Outbox.aborted d.shared d.send tick l.send)
      (aborted_sends d.shared d.send tick l.send))
      (λ a. refl)

-- ---- what the code leaves: the numbers that it writes over a state make the whole next device e

module _ (s : List ℕ) {d e : Device} {t : List ℕ} (a : d ≡ device_in s) where
  pub counted_left : Counts d e → t ≡ state_bytes (counted (device_in s) e.receive.ring.count e.receive.pending)
      → t ≡ state_bytes e
  counted_left m w =
      w ∙ ap state_bytes ((λ i. counted (sym a i) e.receive.ring.count e.receive.pending) ∙ sym m)

  pub advanced_left : Advances d e → t ≡ state_bytes (advanced (device_in s) e.receive.ring.first e.receive.ring.count)
      → t ≡ state_bytes e
  advanced_left m w =
      w ∙ ap state_bytes ((λ i. advanced (sym a i) e.receive.ring.first e.receive.ring.count) ∙ sym m)

  pub transferred_left : Transfers d e
      → t ≡ state_bytes (transferred (counted (device_in s) e.receive.ring.count e.receive.pending) e.send)
      → t ≡ state_bytes e
  transferred_left m w =
      w
      ∙ ap state_bytes ((λ i. transferred (counted (sym a i) e.receive.ring.count e.receive.pending) e.send) ∙ sym m)

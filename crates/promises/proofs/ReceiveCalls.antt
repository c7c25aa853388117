-- The calls on a receive channel answer and leave what the model says.
use Prim.Native.Nat.{ℕ, ◌+◌, ◌%◌}
use mathlib.Core.Path.{◌≡◌, refl, ap, ◌∙◌}
use mathlib.Core.Bool.{Bool, true, false}
use mathlib.Core.List.{List, [], ◌∷◌}
use native.Mathlib.Omega.{arith}
use lib.ListN.{length, replicate}
use lib.Dec.{ltb, leb, eqb}
use borrow.Author.Tests.{eq-eqb, ne_eqb}
use Rattle.common.specs.Choice.{pick}
use Rattle.common.specs.Rings.{slot_of}
use Rattle.common.specs.Slots.{slot}
use Rattle.common.proofs.Bools.{and_left}
use Rattle.common.proofs.Choices.{by_test}
use Rattle.ids.specs.Ids.{is_format}
use Rattle.filters.specs.EventMask.{is_mask}
use Rattle.events.specs.Records.{event_size, event_bytes, is_event, event_in}
use Rattle.events.specs.declared.Event.{Event}
use Rattle.event_text.specs.Lines.{event_room, event_line}
use Rattle.queue.specs.Channel.{queue_limit, queue_fits, slot_at, after_read, oldest_refusal}
use Rattle.inbox.specs.Refusals.{ready, record_refusal, text_refusal, look_refusal, filter_refusal, mask_refusal}
use Rattle.inbox.specs.Refusals.{through_refusal}
use Rattle.inbox.specs.Refusals as Judged
use Rattle.inbox.specs.Calls.{looked}
use Rattle.inbox.specs.Calls as Queue
use Rattle.queue.specs.declared.Receive.{Receive}
use Rattle.device.specs.State.{good, with_receive}
use Rattle.device.specs.Outcomes.{Lent, lends, ends}
use Rattle.buffer.specs.Channel.{good_send}
use Rattle.recorder.specs.Receiving.{lifted, record_read, text_read, look_said, through}
use Rattle.recorder.specs.Changes.{filter_set, event_mask_set}
use Rattle.device.specs.declared.Device.{Device}
use Rattle.model.specs.Said.{says, says_zeros, hands, prints}
use Rattle.model.specs.Inbox.{Kept, Inbox, ReceiveCall, read_record, read_text, look, set_filter, set_event_mask}
use Rattle.model.specs.Inbox.{identifiers_through, Received, takes_oldest, receives}
use Rattle.model.specs.Inbox as Model
use Rattle.model.specs.Outbox.{Outbox}
use Rattle.model.specs.Box.{box, Step, steps, on_receive, step}
use Rattle.promises.specs.Typed.{TypedReceive}
use Rattle.promises.specs.Calls.{outcome}
use Rattle.promises.specs.Stands.{kept_bytes, Receives, Stands}
use Rattle.promises.proofs.Holding.{holds_count, holds_rest, look_at}
use Rattle.promises.proofs.Sound.{event_is}
use Rattle.promises.proofs.Agreeing.{send_possible, device_possible, inbox_possible, inbox_ready, Agrees, told}

-- a step of the box that a receive call makes
abbrev Taken : Device → Outbox → Received → Step
Taken d o x = steps x.said (box d.shared x.inbox o)

module _ (d : Device) (q t out : List ℕ) (i : ℕ) (b : Inbox) (o : Outbox) (h : Stands d q t (box d.shared b o)) where
  abbrev l : Lent
  l = lends q t out

  -- what is asked of every call
  abbrev Doing : ReceiveCall → Type 0
  Doing x = Agrees (outcome (on_receive x) d l) out (step i (length out) (on_receive x) (box d.shared b o))

  possible : good d ≡ true
  possible = device_possible d q t (box d.shared b o) h

  long : queue_fits d.receive (length q) ≡ true
  long = h.inbox.events.long

  sends : good_send d.send ≡ true
  sends = send_possible d.send t o h.outbox

  able : Judged.possible d.shared d.receive ≡ true
  able = inbox_possible d q t (box d.shared b o) h

  prepared : ready d.shared d.receive (length q) ≡ true
  prepared = inbox_ready d q t (box d.shared b o) h

  count_is : d.receive.ring.count ≡ length b.queue
  count_is = holds_count kept_bytes event_size queue_limit d.receive.ring q b.queue h.inbox.events

  -- another receive channel over the same table
  with_receive_lem : (r : Receive) (c : Inbox) → Receives r q c → Stands (with_receive d r) q t (box d.shared c o)
  with_receive_lem r c s = record { possible = h.possible; shared = refl; inbox = s; outbox = h.outbox }

  -- ---- reads

  none_is : b.queue ≡ [] → eqb d.receive.ring.count 0 ≡ true
  none_is e = eq-eqb d.receive.ring.count 0 (count_is ∙ ap length e)

  module _ (k : Kept) (rest : List Kept) (e : b.queue ≡ k ∷ rest) where
    some_is : eqb d.receive.ring.count 0 ≡ false
    some_is = ne_eqb d.receive.ring.count 0 (λ z. omega (arith, count_is, ap length e))

    -- the oldest slot is the first event's
    oldest_is : slot_at d.receive q 0 ≡ event_bytes k.event
    oldest_is = (holds_rest kept_bytes event_size queue_limit d.receive.ring q k rest (rw e at h.inbox.events)).0

    oldest_event : is_event (slot_at d.receive q 0) ≡ true
    oldest_event = rw oldest_is (event_is k.event (rw e at h.inbox.sound).0).0

    oldest_in : event_in (slot_at d.receive q 0) ≡ k.event
    oldest_in = rw oldest_is (event_is k.event (rw e at h.inbox.sound).0).1

    -- without it the others stand in the queue
    after_read_lem : Receives (after_read d.receive) q (Model.reading k rest b)
    after_read_lem = record {
      settings = h.inbox.settings;
      filter = h.inbox.filter;
      code = h.inbox.code;
      bits = h.inbox.bits;
      mask = h.inbox.mask;
      places = h.inbox.places;
      pending = h.inbox.pending;
      word = h.inbox.word;
      events = (holds_rest kept_bytes event_size queue_limit d.receive.ring q k rest (rw e at h.inbox.events)).1;
      sound = (rw e at h.inbox.sound).1;
    }

  -- the oldest event's refusal: 4 where there is none, else none
  nothing_read : b.queue ≡ [] → oldest_refusal d.receive q ≡ 4
  unfolding oldest_refusal
  nothing_read e = rw (none_is e)

  oldest_read : (k : Kept) (rest : List Kept) → b.queue ≡ k ∷ rest → oldest_refusal d.receive q ≡ 0
  unfolding oldest_refusal
  oldest_read k rest e = rw (some_is k rest e, oldest_event k rest e)

  -- a read as its bytes
  record_read_lem : Doing read_record
  unfolding outcome record_read Queue.record_read record_refusal step receives
  record_read_lem = rw (sends, prepared) (by b.queue refl)
    where
      by : (ks : List Kept) → b.queue ≡ ks
          → Agrees
          (lifted (Queue.settled (oldest_refusal d.receive q) (replicate event_size 0) d.receive
          (Queue.ends 0 0 (slot_at d.receive q 0) [] (after_read d.receive))) d l) out
          (Taken d o (takes_oldest (says_zeros event_size 4) (λ (e : Event). hands (event_bytes e)) ks b))
      by [] e = rw (nothing_read e) (told (says_zeros event_size 4) d q t out, h)
      by (k ∷ rest) e =
          rw (oldest_read k rest e) (
            record { number = refl; value = refl; bytes = oldest_is k rest e; line = refl },
            with_receive_lem _ _ (after_read_lem k rest e),
          )

  -- a read as text
  text_read_lem : Doing read_text
  unfolding outcome text_read Queue.text_read text_refusal step receives
  text_read_lem =
      rw (sends, prepared)
      (by_test (ltb (length out) event_room) (λ z. rw z (told (says 3) d q t out, h)) (λ z. rw z (by b.queue refl)))
    where
      line : List ℕ
      line = event_line d.shared.align (event_in (slot_at d.receive q 0))

      by : (ks : List Kept) → b.queue ≡ ks
          → Agrees
          (lifted (Queue.settled (oldest_refusal d.receive q) [] d.receive
          (Queue.prints_oldest d.receive line)) d l)
          out (Taken d o (takes_oldest (says 4) (λ (e : Event). prints (event_line d.shared.align e)) ks b))
      by [] e = rw (nothing_read e) (told (says 4) d q t out, h)
      by (k ∷ rest) e =
          rw (oldest_read k rest e, oldest_in k rest e) (told _ _ _ _ _, with_receive_lem _ _ (after_read_lem k rest e))

  -- a look at position p
  look_is : (p : ℕ) → Doing (look p)
  unfolding outcome look_said look_refusal looked slot_of step receives
  look_is p =
      let r = d.receive.ring in
      rw (
        sends,
        possible,
        prepared,
        long,
        look_at event_size q r.capacity r.first r.count b.queue p
            h.inbox.events.slots,
      )
      (by (ltb p r.count))
    where
      by : (c : Bool)
          → let part : List ℕ = slot event_size q ((d.receive.ring.first + p) % d.receive.ring.capacity) in
          Agrees (ends (pick c 0 4) 0 (pick c part []) d l) out
          (steps (pick c (hands part) (says 4)) (box d.shared b o))
      by true = (told _ _ _ _ _, h)
      by false = (told (says 4) d q t out, h)

  -- ---- settings of the channel

  -- a change of code and mask
  filter_set_lem : (code mask : ℕ) → TypedReceive (set_filter code mask) → Doing (set_filter code mask)
  unfolding outcome filter_set Queue.filter_set filter_refusal step receives
  filter_set_lem code mask ty =
      let r = h.inbox in
      rw (sends, able) (
        told _ _ _ _ _,
        with_receive_lem _ _ (record {
          settings = r.settings;
          filter = rw r.filter;
          code = ty.0;
          bits = ty.1;
          mask = r.mask;
          places = r.places;
          pending = r.pending;
          word = r.word;
          events = r.events;
          sound = r.sound;
        }),
      )

  -- a change of the event mask
  mask_set : (mask : ℕ) → Doing (set_event_mask mask)
  unfolding outcome event_mask_set Queue.event_mask_set mask_refusal step receives
  mask_set mask =
      let r = h.inbox in
      rw (sends, able)
      (by_test (is_mask mask)
      (λ z. rw z (
        told _ _ _ _ _,
        with_receive_lem _ _ (record {
          settings = rw (and_left (leb d.receive.filter.active 1) (is_mask d.receive.events) r.settings, z);
          filter = r.filter;
          code = r.code;
          bits = r.bits;
          mask = refl;
          places = r.places;
          pending = r.pending;
          word = r.word;
          events = r.events;
          sound = r.sound;
        }),
      ))
      (λ z. rw z (told (says 1) d q t out, h)))

  -- how many identifiers the filter lets through
  through_is : (format : ℕ) → Doing (identifiers_through format)
  unfolding outcome through Queue.through through_refusal step receives
  through_is format =
      rw (sends, able)
      (by_test (is_format format)
      (λ z. rw z (record { number = refl; value = rw h.inbox.filter; bytes = refl; line = refl }, h))
      (λ z. rw z (told (says 13) d q t out, h)))

  -- every call
  pub receive_agrees : (x : ReceiveCall) → TypedReceive x → Doing x
  receive_agrees read_record ty = record_read_lem
  receive_agrees read_text ty = text_read_lem
  receive_agrees (look p) ty = look_is p
  receive_agrees (set_filter code mask) ty = filter_set_lem code mask ty
  receive_agrees (set_event_mask mask) ty = mask_set mask
  receive_agrees (identifiers_through format) ty = through_is format

-- Demand 2: a stored message of its channel's own format, printed and then sent as text, is stored as the same bytes.
use Prim.Native.Nat.{ℕ, ◌≤◌, ◌<◌, ◌*◌}
use mathlib.Core.Path.{◌≡◌, refl}
use mathlib.Core.Bool.{true, ◌&&◌, ◌||◌, not}
use mathlib.Core.List.{List, [], ◌∷◌, ◌++◌, map}
use lib.ListN.{length, take, drop}
use lib.Seq.{take_at}
use borrow.Author.Tests.{le-ltb, le-leb, leb-true, lt-ltb}
use Rattle.std.specs.Prelude.{Some, Ok}
use Rattle.common.specs.All.{All}
use Rattle.common.specs.Numbers.{Bytes}
use Rattle.common.specs.Rings.{good_ring, slot_of, with_one_more}
use Rattle.common.specs.Slots.{store}
use Rattle.common.proofs.Bools.{and_left, and_right}
use Rattle.common.proofs.Numbers.{bytes_take, bytes_drop}
use Rattle.common.proofs.RingFacts.{RingFacts, good_ring_lem}
use Rattle.messages.specs.Records.{message_size, good_message, message_bytes, message_in, is_message, judge_message}
use Rattle.messages.specs.declared.Message.{Message}
use Rattle.messages.proofs.RoundTrip.{good_refusal, message_bytes_length, message_as, judged_good}
use Rattle.messages.proofs.RoundTrip.{judged_length, bytes_of_message}
use Rattle.message_text.specs.Reading.{read_message}
use Rattle.message_text.specs.Printing.{message_room, message_line, message_refusal, message_record_refusal}
use Rattle.message_text.proofs.RoundTrip.{round_trip}
use Rattle.settings.specs.Ranges.{format_of}
use Rattle.settings.specs.TxMode.{good_tx}
use Rattle.settings.specs.declared.Settings.{Settings}
use Rattle.queue.specs.Channel.{good_receive}
use Rattle.buffer.specs.Channel.{send_limit, good_send, send_fits, with_ring}
use Rattle.outbox.specs.Refusals.{possible, ready, put_refusal}
use Rattle.outbox.specs.Calls as Outbox
use Rattle.device.specs.State.{good, with_send}
use Rattle.device.specs.Outcomes.{Lent, ends}
use Rattle.recorder.specs.Outcomes.{send_ready, with_table, with_out}
use Rattle.device.specs.Opening.{opened}
use Rattle.recorder.specs.Sending.{text_sent}
use Rattle.recorder.specs.Printing.{line_printed}
use Rattle.device.specs.declared.Device.{Device}
use Rattle.recorder.proofs.Ready.{receive_good, align_in}
use Rattle.model.specs.Outbox.{send_text}
use Rattle.model.specs.Box.{print_message_record, print_message, Call, on_send, on_align, fresh}
use Rattle.model.specs.Box as Model
use Rattle.promises.specs.Typed.{Made, asked, TypedSettings}
use Rattle.promises.specs.Calls.{outcome}
use Rattle.promises.specs.Runs.{Run, lent, run, started}
use Rattle.promises.specs.Stands.{SoundMessage}
use Rattle.promises.specs.Promised.{ReadsBack}
use Rattle.promises.proofs.Rings.{held_more}
use Rattle.promises.proofs.Sound.{message_is}
use Rattle.promises.proofs.Agreeing.{device_possible}
use Rattle.promises.proofs.Opening.{Parts, parts}
use Rattle.promises.proofs.Answers.{answers}

module _ (m : Message) (d e : Device) (l n : Lent) (d-good : good d ≡ true) (room : message_room ≤ length l.out)
    (sound : SoundMessage m)
    (own : m.header.format ≡ format_of d.shared d.shared.format) (same : e.shared ≡ d.shared)
    (fit : send_ready e n ≡ true)
    (free : e.send.ring.count < e.send.ring.capacity) where
  abbrev line : List ℕ
  line = message_line d.shared.align m

  printed_is : (k : ℕ) → k ≡ 0
      → line_printed k line d l ≡ ends 0 (length line) [] d (with_out l (line ++ drop (length line) l.out))
  unfolding line_printed
  printed_is k z = rw (d-good, z)

  align_le : d.shared.align ≤ 3
  align_le = align_in d d-good

  fits : message_size * e.send.ring.capacity ≤ length n.send
  fits = leb-true _ _ (and_right (good e) (send_fits e.send (length n.send)) fit)

  e_good : good e ≡ true
  e_good = and_left (good e) (send_fits e.send (length n.send)) fit

  e_parts : Parts e
  e_parts = parts e e_good

  e_receive : good_receive e.receive ≡ true
  e_receive = receive_good e e_good

  e_send : good_send e.send ≡ true
  e_send = e_parts.send

  facts : RingFacts send_limit e.send.ring
  unfolding good_send
  facts =
      let a = good_tx e.send.tx in
      let b = good_ring send_limit e.send.ring in
      good_ring_lem send_limit e.send.ring (and_right a b
      (and_left (a && b) (not e.send.held || good_message e.send.message) e_send))

  said : read_message e.shared.align (format_of e.shared e.shared.format) line
      ≡ record { said = Ok m; used = length line }
  said = rw (same, ← own) (round_trip d.shared.align m align_le sound.whole sound.eight sound.bytes)

  -- the line is stored as the message that it was printed from
  sent_is : outcome (on_send (send_text line)) e n
      ≡ ends 0 (length line) [] (with_send e (with_ring e.send (with_one_more e.send.ring)))
      (with_table n (store message_size n.send (slot_of e.send.ring e.send.ring.count) (message_bytes m)))
  unfolding outcome text_sent Outbox.text_sent put_refusal ready possible
  sent_is = rw (e_receive, said, e_parts.shared, e_send, le-leb _ _ fits, lt-ltb _ _ free)

  back : (x : Call) → outcome x d l ≡ ends 0 (length line) [] d (with_out l (line ++ drop (length line) l.out))
      → ReadsBack x (message_bytes m) d e l n
  back x p =
      let t : take (outcome x d l).value (outcome x d l).lent.out ≡ line =
      rw p (take_at line (drop (length line) l.out) (length line) refl) in
      record {
        printed = rw p;
        taken = rw (t, sent_is);
        used = rw (t, sent_is);
        stored =
            rw (t, sent_is)
            (held_more message_size send_limit e.send.ring n.send facts fits (message_bytes m) free
            (message_bytes_length m sound.eight));
      }

  -- THEOREM. A message of the device's own format reads back, printed by the call that prints a record
  pub record_reads_back : ReadsBack (on_align (print_message_record (message_bytes m))) (message_bytes m) d e l n
  unfolding outcome message_record_refusal
  record_reads_back =
      let i = message_is m sound in
      back (on_align (print_message_record (message_bytes m)))
      (rw i.1 (printed_is _ (rw (
        le-ltb (length l.out) message_room room,
        le-leb d.shared.align 3 align_le,
        i.0,
      ))))

  -- THEOREM. And printed by the call that prints a message
  pub message_reads_back : ReadsBack (on_align (print_message m)) (message_bytes m) d e l n
  unfolding outcome message_refusal
  message_reads_back =
      back (on_align (print_message m))
      (printed_is _ (rw (le-ltb (length l.out) message_room room, le-leb d.shared.align 3 align_le)
      (good_refusal m sound.whole)))

-- any bytes that are a message are those of a sound one
pub sound_in : (b : List ℕ) → is_message b ≡ true → Bytes b
    → SoundMessage (message_in b) × (message_bytes (message_in b) ≡ b)
unfolding message_in
sound_in b w h =
    let m = message_in b in
    let e : judge_message b ≡ Some m = message_as b w in (
      record {
        eight = judged_length b m e;
        bytes = bytes_drop 8 (take 16 b) (bytes_take 16 b h);
        whole = judged_good b m e;
      },
      bytes_of_message b m h e,
    )

all_map : {A : Type 0} (P Q : A → Type 0) → ((a : A) → P a → Q a) → (xs : List A) → All P xs → All Q xs
all_map P Q f [] h = tt
all_map P Q f (x ∷ xs) h = (f x h.0, all_map P Q f xs h.1)

-- THEOREM, demand 2. After any calls from an opening, every message that was ever sent, be it waiting,
-- taken or purged, if it is of the channel's own format, printed by the device and sent as text to any device of the
-- same mode, format and Align with room
pub stored_reads_back : (s : Settings) (l : Lent) (xs : List Made) → TypedSettings s → (opened s l).number ≡ 0
    → let r : Run = run xs (started s l) in
    All
    (λ (m : Message). (out : List ℕ) (e : Device) (n : Lent) → message_room ≤ length out
    → m.header.format ≡ format_of r.device.shared r.device.shared.format → e.shared ≡ r.device.shared
    → send_ready e n ≡ true
    → e.send.ring.count < e.send.ring.capacity
    → ReadsBack (on_align (print_message_record (message_bytes m))) (message_bytes m) r.device e (lent r out) n)
    (Model.run 0 (map asked xs) (fresh s)).outbox.sent
stored_reads_back s l xs ty h =
    let r = run xs (started s l) in
    let b = Model.run 0 (map asked xs) (fresh s) in
    let stands = (answers s l xs ty h).1.stands in
    let possible = device_possible r.device r.queue r.send b stands in
    all_map SoundMessage _
    (λ m sound out e n room own same fit free. record_reads_back m r.device e (lent r out) n possible room sound
    own same fit free)
    b.outbox.sent stands.outbox.sound

-- Demand 1 over all calls at once, for any device and any lent bytes whatever.
use mathlib.Core.Path.{◌≡◌, refl, sym, ap, ◌∙◌}
use mathlib.Core.Bool.{Bool, true, false, not, ◌&&◌}
use mathlib.Core.List.{List, [], ◌∷◌}
use Prim.Native.Nat.{ℕ, ◌≤◌}
use lib.ListN.{length, replicate}
use lib.Dec.{ltb, eqb}
use borrow.Author.Tests.{eqb-true, eq-eqb}
use Rattle.common.specs.Choice.{pick}
use Rattle.common.specs.Numbers.{among}
use Rattle.common.proofs.Choices.{pick_is}
use Rattle.common.proofs.Bools.{apart, denied}
use Rattle.common.proofs.Numbers.{zeros_zero}
use Rattle.ids.specs.Ids.{is_format}
use Rattle.filters.specs.Filters.{let_through}
use Rattle.filters.specs.EventMask.{mask_lets, is_mask}
use Rattle.ids.specs.Frames.{header_refusal}
use Rattle.messages.specs.declared.Message.{Message}
use Rattle.events.specs.Records.{event_size, code_of, event_in, is_event}
use Rattle.messages.specs.Records.{message_size, is_message, no_message}
use Rattle.events.specs.declared.Event.{Event}
use Rattle.queue.specs.Channel.{good_receive, queue_fits, slot_at, usable, after_read, with_filter, with_events}
use Rattle.queue.specs.Channel.{oldest_refusal}
use Rattle.inbox.specs.Refusals.{ready, raise_refusal, record_refusal, text_refusal, look_refusal, filter_refusal}
use Rattle.inbox.specs.Refusals.{mask_refusal, through_refusal}
use Rattle.inbox.specs.Refusals as Judged
use Rattle.queue.specs.Recording.{Raising, raises, queued, unfiltered}
use Rattle.inbox.specs.Calls.{meets, looked}
use Rattle.inbox.specs.Calls as Queue
use Rattle.inbox.proofs.Laws.{raise_number}
use Rattle.events.specs.Raised.{filtered, event_of}
use Rattle.queue.specs.declared.Receive.{Receive}
use Rattle.buffer.specs.Channel.{good_send, send_fits, oldest}
use Rattle.outbox.specs.Refusals.{possible, put_refusal, wait_refusal, take_refusal, done_refusal, abort_refusal}
use Rattle.outbox.specs.Refusals as Refusals
use Rattle.outbox.specs.Calls as Wire
use Rattle.message_text.specs.Printing.{message_room, message_refusal, message_record_refusal}
use Rattle.message_text.specs.Reading.{used_of}
use Rattle.message_text.proofs.Cases.{read_is}
use Rattle.event_text.specs.Lines.{event_room, event_line, event_record_refusal}
use Rattle.device.specs.State.{good, fresh, no_device, with_receive}
use Rattle.sites.specs.Sites.{good_site}
use Rattle.sites.specs.declared.Site.{Site}
use Rattle.settings.specs.Ranges.{good_shared, format_of}
use Rattle.settings.specs.Binary.{binary_refusal}
use Rattle.device.specs.Outcomes.{Lent, Outcome, ends, refuses}
use Rattle.recorder.specs.Outcomes.{queue_ready, noted, with_queue}
use Rattle.common.specs.Refusals.{is_refusal, refusal_number}
use Rattle.device.specs.Opening.{opened}
use Rattle.recorder.specs.Changes.{changed, site_set, filter_set, event_mask_set}
use Rattle.recorder.specs.Receiving.{raised, record_read, text_read, look_said, through}
use Rattle.recorder.specs.Receiving as Received
use Rattle.recorder.specs.Sending.{lifted, sent, text_sent}
use Rattle.recorder.specs.Register.{carrying, taken, finished, aborted}
use Rattle.recorder.specs.Printing.{line_printed, message_record_printed, event_record_printed, message_printed}
use Rattle.device.specs.declared.Device.{Device}
use Rattle.settings.specs.declared.Shared.{Shared}
use Rattle.settings.specs.declared.Settings.{Settings}
use Rattle.recorder.proofs.Ready.{align_in}
use Rattle.recorder.proofs.ReceiveWays.{good_is, not_good}
use Rattle.model.specs.Inbox.{read_record, read_text, look, set_filter, set_event_mask, identifiers_through}
use Rattle.model.specs.Outbox.{send, send_text, take, done, abort}
use Rattle.model.specs.Box.{raise, set_mode, set_format, set_site, print_message_record, print_event_record, print_message}
use Rattle.model.specs.Box.{Call, on_device, on_receive, on_send, on_align}
use Rattle.model.specs.Listed.{listed_device, listed_receive, listed_send, listed_print, listed, beside_send, beside}
use Rattle.model.proofs.Choices.{either}
use Rattle.model.proofs.Numbers.{header_number, binary_number, Other, room_align, each, each_is}
use Rattle.model.proofs.Numbers.{text_numbers as ended_numbers}
use Rattle.promises.specs.Calls.{receive_outcome, outcome, Harmless, CallHarmless}

module _ (ns : List ℕ) (d : Device) (l : Lent) where
  abbrev H : Outcome → Type 0
  H o = Harmless ns (λ n. 0) d l o

  -- a refusal beside k zero bytes
  refused_bytes : (n k : ℕ) → among n ns ≡ true → H (ends n 0 (replicate k 0) d l)
  refused_bytes n k h = record {
    in_list = h;
    device_kept = λ e. refl;
    bytes_kept = λ e. refl;
    zero_bytes = λ e. zeros_zero k;
    value_is = λ e. refl;
  }

  refused : (n : ℕ) → among n ns ≡ true → H (refuses n d l)
  refused n h = refused_bytes n 0 h

  no_refusal : (o : Outcome) → among o.number ns ≡ true → is_refusal o.number ≡ false → H o
  no_refusal o h z = record {
    in_list = h;
    device_kept = λ e. absurd (apart (sym e ∙ z));
    bytes_kept = λ e. absurd (apart (sym e ∙ z));
    zero_bytes = λ e. absurd (apart (sym e ∙ z));
    value_is = λ e. absurd (apart (sym e ∙ z));
  }

  -- success answers 0, whatever it leaves
  succeeds : {v : ℕ} {b : List ℕ} {e : Device} {m : Lent} → among 0 ns ≡ true → H (ends 0 v b e m)
  unfolding is_refusal
  succeeds h = no_refusal _ h refl

  -- and so it does with an event raised beside it
  succeeds_noted : (e : Event) (v : ℕ) (bs : List ℕ) (f : Device) (m : Lent) → among 0 ns ≡ true
      → H (noted e (ends 0 v bs f m))
  unfolding noted
  succeeds_noted e v bs f m h = succeeds h

module _ (ns : List ℕ) (d : Device) (l : Lent) where
  -- a number that is 0 succeeds, any other is refused
  by_number : (n : ℕ) (o : Outcome) → Other ns n → (n ≡ 0 → H ns d l o) → H ns d l (pick (eqb n 0) o (refuses n d l))
  by_number n o h z = pick_is (H ns d l) (eqb n 0) (λ e. z (eqb-true n 0 e)) (λ e. refused ns d l n (h e))

-- ---- what an event that is raised meets

abbrev raise_numbers : List ℕ
raise_numbers = 2 ∷ 13 ∷ 8 ∷ 9 ∷ 10 ∷ 100 ∷ 101 ∷ 102 ∷ 103 ∷ []

-- listed, and a refusal leaves channel and table
record Met (r : Receive) (t : List ℕ) (g : Raising) : Type 0 where
  number_in : among g.number raise_numbers ≡ true
  receive_kept : is_refusal g.number ≡ true → g.receive ≡ r
  table_kept : is_refusal g.number ≡ true → g.table ≡ t

raised_met : (h : Shared) (r : Receive) (code tick : ℕ) (m : Message) (t : List ℕ)
    → Met r t (Queue.raised h r code tick m t)
unfolding Queue.raised meets unfiltered queued is_refusal
raised_met h r code tick m t =
    let e = event_of h.site code tick m in
    pick_is (Met r t) (eqb (raise_refusal h r (length t) code m) 0)
    (λ z. either (Met r t) (filtered h.mode h.align r.filter e) (kept 101 refl)
    (either (Met r t) (mask_lets r.events (code_of e.kind))
    (either (Met r t) (ltb r.ring.count r.ring.capacity)
    (record { number_in = refl; receive_kept = λ x. absurd (apart (sym x)); table_kept = λ x. absurd (apart (sym x)) })
    (record { number_in = refl; receive_kept = λ x. absurd (apart (sym x)); table_kept = λ x. absurd (apart (sym x)) }))
    (kept 102 refl)))
    (λ z. kept _ (raise_number h r code tick m t (Other raise_numbers) (λ x. absurd (apart x)) (λ x. refl) (λ x. refl)
    (λ x. refl)
    (λ x. refl) (λ x. refl) z))
  where
    kept : (n : ℕ) → among n raise_numbers ≡ true → Met r t (raises n r t)
    kept n h = record { number_in = h; receive_kept = λ x. refl; table_kept = λ x. refl }

-- ---- the calls

module _ (d : Device) (l : Lent) where
  raise_fine : (code tick : ℕ) (m : Message) → H (listed_device (raise code tick m)) d l (raised code tick m d l)
  unfolding raised
  raise_fine code tick m =
      let g = raised_met d.shared d.receive code tick m l.queue in
      either (H raise_numbers d l) (good_send d.send)
      (record {
        in_list = g.number_in;
        device_kept = λ x. ap (λ (r : Receive). with_receive d r) (g.receive_kept x);
        bytes_kept = λ x. ap (λ (t : List ℕ). with_queue l t) (g.table_kept x);
        zero_bytes = λ x. refl;
        value_is = λ x. refl;
      })
      (refused raise_numbers d l 2 refl)

  -- what holds of a receive call's effect and of its refusal holds of the call
  by_received : (ns : List ℕ) (n : ℕ) (b : List ℕ) (o : Queue.Outcome) → Other ns n → H ns d l (Received.lifted o d l)
      → (among n ns ≡ true → H ns d l (Received.lifted (Queue.refused n b d.receive) d l))
      → H ns d l (Received.lifted (Queue.settled n b d.receive o) d l)
  by_received ns n b o h p r =
      pick_is (λ (w : Queue.Outcome). H ns d l (Received.lifted w d l)) (eqb n 0) (λ e. p) (λ e. r (h e))

  -- and likewise on a device: 2 where the send channel is not possible
  receive_fine : (ns : List ℕ) (n : ℕ) (o : Queue.Outcome) → among 2 ns ≡ true → Other ns n
      → H ns d l (Received.lifted o d l)
      → H ns d l (Received.on_receiving (Queue.settled n [] d.receive o) d l)
  receive_fine ns n o two h p =
      either (H ns d l) (good_send d.send) (by_received ns n [] o h p (λ e. refused ns d l n e))
      (refused ns d l 2 two)

  -- the oldest event's number
  oldest_number : (ns : List ℕ) → among 4 ns ≡ true → among 14 ns ≡ true
      → Other ns (oldest_refusal d.receive l.queue)
  unfolding oldest_refusal
  oldest_number ns four fourteen =
      either (Other ns) (eqb d.receive.ring.count 0) (λ e. four)
      (either (Other ns) (is_event (slot_at d.receive l.queue 0)) (λ e. absurd (apart e)) (λ e. fourteen))

  text_fine : H (listed_receive read_text) d l (text_read d l)
  unfolding text_read Queue.text_read text_refusal
  text_fine =
      let ns : List ℕ = 2 ∷ 3 ∷ 4 ∷ 14 ∷ 0 ∷ [] in
      let line = event_line d.shared.align (event_in (slot_at d.receive l.queue 0)) in
      let own = oldest_refusal d.receive l.queue in
      receive_fine ns (text_refusal d.shared d.receive l.queue (length l.out))
      (Queue.prints_oldest d.receive line) refl
      (either (Other ns) (ready d.shared d.receive (length l.queue))
      (either (Other ns) (ltb (length l.out) event_room) (λ e. refl) (oldest_number ns refl refl)) (λ e. refl))
      (succeeds ns d l refl)

  record_fine : H (listed_receive read_record) d l (record_read d l)
  unfolding record_read Queue.record_read record_refusal
  record_fine =
      let ns : List ℕ = 2 ∷ 4 ∷ 14 ∷ 0 ∷ [] in
      either (H ns d l) (good_send d.send)
      (by_received ns (record_refusal d.shared d.receive l.queue) (replicate event_size 0)
      (Queue.ends 0 0 (slot_at d.receive l.queue 0) [] (after_read d.receive))
      (either (Other ns) (ready d.shared d.receive (length l.queue))
      (oldest_number ns refl refl) (λ e. refl))
      (succeeds ns d l refl)
      (λ e. refused_bytes ns d l _ event_size e)) (refused_bytes ns d l 2 event_size refl)

  changed_fine : (s : Shared) (tick : ℕ) → H (2 ∷ 1 ∷ 0 ∷ []) d l (changed s tick d l)
  unfolding changed
  changed_fine s tick =
      let ns : List ℕ = 2 ∷ 1 ∷ 0 ∷ [] in
      either (H ns d l) (queue_ready d l)
      (either (H ns d l) (good_shared s)
      (succeeds_noted ns d l _ _ _ _ _ refl) (refused ns d l 1 refl))
      (refused ns d l 2 refl)

  site_fine : (site : Site) → H (2 ∷ 1 ∷ 0 ∷ []) d l (site_set site d l)
  unfolding site_set
  site_fine site =
      let ns : List ℕ = 2 ∷ 1 ∷ 0 ∷ [] in
      either (H ns d l) (good d)
      (either (H ns d l) (good_site site) (succeeds ns d l refl) (refused ns d l 1 refl))
      (refused ns d l 2 refl)

  filter_fine : (code mask : ℕ) → H (listed_receive (set_filter code mask)) d l (filter_set code mask d l)
  unfolding filter_set Queue.filter_set filter_refusal
  filter_fine code mask =
      let ns : List ℕ = 2 ∷ 0 ∷ [] in
      receive_fine ns (filter_refusal d.shared d.receive)
      (Queue.ends 0 0 [] [] (with_filter d.receive code mask)) refl
      (either (Other ns) (Judged.possible d.shared d.receive) (λ e. refl) (λ e. refl))
      (succeeds ns d l refl)

  mask_fine : (events : ℕ) → H (listed_receive (set_event_mask events)) d l (event_mask_set events d l)
  unfolding event_mask_set Queue.event_mask_set mask_refusal
  mask_fine events =
      let ns : List ℕ = 2 ∷ 1 ∷ 0 ∷ [] in
      receive_fine ns (mask_refusal d.shared d.receive events)
      (Queue.ends 0 0 [] [] (with_events d.receive events)) refl
      (either (Other ns) (Judged.possible d.shared d.receive)
      (either (Other ns) (is_mask events) (λ e. refl) (λ e. refl)) (λ e. refl))
      (succeeds ns d l refl)

  through_fine : (format : ℕ) → H (listed_receive (identifiers_through format)) d l (through format d l)
  unfolding through Queue.through through_refusal
  through_fine format =
      let ns : List ℕ = 2 ∷ 13 ∷ 0 ∷ [] in
      let count = let_through d.shared.align d.receive.filter format in
      receive_fine ns (through_refusal d.shared d.receive format) (Queue.ends 0 count [] [] d.receive) refl
      (either (Other ns) (Judged.possible d.shared d.receive)
      (either (Other ns) (is_format format) (λ e. refl) (λ e. refl)) (λ e. refl))
      (succeeds ns d l refl)

  -- what holds of a call's effect and of its refusal holds of the call
  by_settled : (P : Wire.Outcome → Type 0) (n v : ℕ) (b : List ℕ) (o : Wire.Outcome) → P o
      → (eqb n 0 ≡ false → P (Wire.refused n v b d.send l.send)) → P (Wire.settled n v b d.send l.send o)
  by_settled P n v b o p r = pick_is P (eqb n 0) (λ e. p) r

  -- a message's number: 2, its own, 5 or 0
  put_number : (P : ℕ → Type 0) (own : ℕ) → P 2 → P own → P 5 → P 0
      → P (put_refusal d.shared d.send (length l.send) own)
  unfolding put_refusal
  put_number P own two o five zero =
      either P (Refusals.ready d.shared d.send (length l.send))
      (either P (eqb own 0) (either P (ltb d.send.ring.count d.send.ring.capacity) zero five) o) two

  send_fine : (m : Message) → H (listed_send (send m)) d l (sent m d l)
  unfolding sent Wire.sent
  send_fine m =
      let ns : List ℕ = 2 ∷ 13 ∷ 8 ∷ 9 ∷ 10 ∷ 5 ∷ 0 ∷ [] in
      let own = binary_refusal d.shared m in
      let listed : Other ns (put_refusal d.shared d.send (length l.send) own) =
      put_number (Other ns) own (λ e. refl) (binary_number (Other ns) d.shared m (λ e. refl) (λ e. refl)
      (λ e. refl) (λ e. refl) (λ e. refl))
      (λ e. refl) (λ e. refl) in
      either (H ns d l) (good_receive d.receive)
      (by_settled (λ w. H ns d l (lifted w d l)) (put_refusal d.shared d.send (length l.send) own) 0 [] _
      (succeeds ns d l refl) (λ e. refused ns d l _ (listed e)))
      (refused ns d l 2 refl)

  take_number : Other (2 ∷ 5 ∷ 4 ∷ 14 ∷ 0 ∷ []) (take_refusal d.shared d.send l.send)
  unfolding take_refusal wait_refusal
  take_number =
      let N : ℕ → Type 0 = Other (2 ∷ 5 ∷ 4 ∷ 14 ∷ 0 ∷ []) in
      either N (eqb (wait_refusal d.shared d.send (length l.send)) 0)
      (either N (is_message (oldest d.send l.send)) (λ e. refl) (λ e. refl))
      (either N (Refusals.ready d.shared d.send (length l.send))
      (either N d.send.held (λ e. refl) (either N (eqb d.send.ring.count 0) (λ e. refl) (λ e. refl)))
      (λ e. refl))

  take_fine : (tick : ℕ) → H (listed_send (take tick)) d l (taken tick d l)
  unfolding taken Wire.taken
  take_fine tick =
      let ns : List ℕ = 2 ∷ 5 ∷ 4 ∷ 14 ∷ 0 ∷ [] in
      either (H ns d l) (usable d.receive l.queue)
      (by_settled (λ w. H ns d l (carrying w d l)) (take_refusal d.shared d.send l.send) 0 _ _
      (succeeds ns d l refl)
      (λ e. refused_bytes ns d l _ message_size (take_number e)))
      (refused_bytes ns d l 2 message_size refl)

  done_fine : (tick : ℕ) → H (listed_send (done tick)) d l (finished tick d l)
  unfolding finished Wire.finished done_refusal
  done_fine tick =
      let ns : List ℕ = 2 ∷ 4 ∷ 0 ∷ [] in
      let listed : Other ns (done_refusal d.shared d.send) =
      either (Other ns) (possible d.shared d.send)
      (either (Other ns) d.send.held (λ e. refl) (λ e. refl)) (λ e. refl) in
      either (H ns d l) (usable d.receive l.queue)
      (by_settled (λ w. H ns d l (carrying w d l)) (done_refusal d.shared d.send) 0 [] _
      (succeeds ns d l refl) (λ e. refused ns d l _ (listed e)))
      (refused ns d l 2 refl)

  abort_fine : (tick : ℕ) → H (listed_send (abort tick)) d l (aborted tick d l)
  unfolding aborted Wire.aborted abort_refusal
  abort_fine tick =
      let ns : List ℕ = 2 ∷ 0 ∷ [] in
      let listed : Other ns (abort_refusal d.shared d.send) =
      either (Other ns) (possible d.shared d.send) (λ e. refl) (λ e. refl) in
      either (H ns d l) (usable d.receive l.queue)
      (by_settled (λ w. H ns d l (carrying w d l)) (abort_refusal d.shared d.send) 0 [] _
      (succeeds ns d l refl) (λ e. refused ns d l _ (listed e)))
      (refused ns d l 2 refl)

  -- a line is printed, or its first refusal answered; the Align of a good device is in range
  print_fine : (ns : List ℕ) (n : ℕ) (line : List ℕ) → among 0 ns ≡ true → among 2 ns ≡ true
      → (d.shared.align ≤ 3 → Other ns n) → H ns d l (line_printed n line d l)
  unfolding line_printed
  print_fine ns n line z t h =
      pick_is (H ns d l) (good d) (λ g. by_number ns d l n _ (h (align_in d g)) (λ e. succeeds ns d l z))
      (λ g. refused ns d l 2 t)

  message_record_fine : (s : List ℕ) → H (listed_print (print_message_record s)) d l (message_record_printed s d l)
  unfolding message_record_refusal
  message_record_fine s =
      let ns : List ℕ = 2 ∷ 3 ∷ 14 ∷ 0 ∷ [] in
      print_fine ns _ _ refl refl
      (room_align ns d.shared.align (length l.out) message_room (pick (is_message s) 0 14) refl
      (either (Other ns) (is_message s) (λ e. refl) (λ e. refl)))

  event_record_fine : (s : List ℕ) → H (listed_print (print_event_record s)) d l (event_record_printed s d l)
  unfolding event_record_refusal
  event_record_fine s =
      let ns : List ℕ = 2 ∷ 3 ∷ 14 ∷ 0 ∷ [] in
      print_fine ns _ _ refl refl
      (room_align ns d.shared.align (length l.out) event_room (pick (is_event s) 0 14) refl
      (either (Other ns) (is_event s) (λ e. refl) (λ e. refl)))

  message_fine : (m : Message) → H (listed_print (print_message m)) d l (message_printed m d l)
  unfolding message_refusal
  message_fine m =
      let ns : List ℕ = 2 ∷ 3 ∷ 13 ∷ 8 ∷ 9 ∷ 10 ∷ 0 ∷ [] in
      print_fine ns _ _ refl refl
      (room_align ns d.shared.align (length l.out) message_room (header_refusal m.header) refl
      (header_number (Other ns) m.header (λ e. refl) (λ e. refl) (λ e. refl) (λ e. refl) (λ e. refl)))

  -- a look that is refused hands back an empty part
  look_fine : (p : ℕ) → H (listed_receive (look p)) d l (receive_outcome (look p) d l)
  unfolding look_said look_refusal ready looked is_refusal
  look_fine p =
      by (good_send d.send) (Judged.possible d.shared d.receive) (queue_fits d.receive (length l.queue))
      (ltb p d.receive.ring.count) refl refl refl refl
    where
      by : (a b c e : Bool) → good_send d.send ≡ a → Judged.possible d.shared d.receive ≡ b
          → queue_fits d.receive (length l.queue) ≡ c → ltb p d.receive.ring.count ≡ e
          → H (2 ∷ 4 ∷ 0 ∷ []) d l (receive_outcome (look p) d l)
      by true true true true x y z w = rw (x, good_is d x, y, z, w) (succeeds (2 ∷ 4 ∷ 0 ∷ []) d l refl)
      by true true true false x y z w = rw (x, good_is d x, y, z, w) (refused (2 ∷ 4 ∷ 0 ∷ []) d l 4 refl)
      by true true false e x y z w = rw (x, good_is d x, y, z) (refused (2 ∷ 4 ∷ 0 ∷ []) d l 2 refl)
      by true false c e x y z w = rw (x, good_is d x, y) (refused (2 ∷ 4 ∷ 0 ∷ []) d l 2 refl)
      by false b c e x y z w = rw (x, not_good d x) (refused (2 ∷ 4 ∷ 0 ∷ []) d l 2 refl)

  -- a text send: a refused text answers the bytes used, but 0 on 2, 5 and 6
  module _ (text : List ℕ) where
    abbrev text_numbers : List ℕ
    text_numbers = 2 ∷ 6 ∷ 7 ∷ 8 ∷ 9 ∷ 10 ∷ 11 ∷ 12 ∷ 5 ∷ 0 ∷ []

    abbrev T : Outcome → Type 0
    T o = Harmless text_numbers (beside_send (send_text text)) d l o

    refused_text : (n used : ℕ) → among n text_numbers ≡ true → used ≡ beside_send (send_text text) n
        → T (ends n used [] d l)
    refused_text n used h u = record {
      in_list = h;
      device_kept = λ x. refl;
      bytes_kept = λ x. refl;
      zero_bytes = λ x. refl;
      value_is = λ x. u;
    }

    taken_text : (v : ℕ) (e : Device) (m : Lent) → T (ends 0 v [] e m)
    unfolding is_refusal
    taken_text v e m = record {
      in_list = refl;
      device_kept = λ x. absurd (apart (sym x));
      bytes_kept = λ x. absurd (apart (sym x));
      zero_bytes = λ x. refl;
      value_is = λ x. absurd (apart (sym x));
    }

    -- what a text says, with its own refusal and the bytes used
    abbrev Told : ℕ → ℕ → Message → ℕ → Type 0
    Told own used m n =
        T (lifted (Wire.settled n (pick (eqb n own) used 0) [] d.send l.send
        (Wire.puts d.send m used l.send)) d l)

    read_fine : (own used : ℕ) (m : Message) → eqb 2 own ≡ false → eqb 5 own ≡ false → Told own used m own
        → Told own used m (put_refusal d.shared d.send (length l.send) own)
    read_fine own used m two five o =
        put_number (Told own used m) own (rw two (refused_text 2 0 refl refl)) o
        (rw five (refused_text 5 0 refl refl)) (taken_text used _ _)

    -- a refusal of a text with an end is none of 2, 5 and 6
    other : (n : ℕ) → among n ended_numbers ≡ true → T (ends n (used_of text) [] d l)
    other n h =
        let none_of = denied refl (each_is (λ k. not (among k (2 ∷ 5 ∷ 6 ∷ []))) n ended_numbers refl h) in
        refused_text n (used_of text) (each_is (λ k. among k text_numbers) n ended_numbers refl h) (rw none_of)

    own : (n : ℕ) (m : Message) → among n ended_numbers ≡ true
        → Told n (used_of text) m (put_refusal d.shared d.send (length l.send) n)
    own n m h =
        let not_in : (k : ℕ) → ◌≡◌ {A = Bool} (each (λ i. not (eqb k i)) ended_numbers) true → eqb k n ≡ false =
        λ k e. denied refl (each_is (λ i. not (eqb k i)) n ended_numbers e h) in
        let z : eqb n 0 ≡ false = denied refl (each_is (λ i. not (eqb i 0)) n ended_numbers refl h) in
        read_fine n (used_of text) m (not_in 2 refl) (not_in 5 refl) (rw (z, eq-eqb n n refl) (other n h))

    send_text_fine : T (text_sent text d l)
    unfolding text_sent Wire.text_sent
    send_text_fine =
        either T (good_receive d.receive)
        (read_is (λ s. T (lifted (Wire.read_sent d.shared d.send s l.send) d l))
        d.shared.align
        (format_of d.shared d.shared.format) text (read_fine 6 0 no_message refl refl (refused_text 6 0 refl refl))
        (λ why h. own (refusal_number why) no_message h) (λ f. read_fine 0 _ _ refl refl (taken_text _ _ _)))
        (refused_text 2 0 refl refl)

-- ---- demand 1

-- THEOREM, demand 1. Every call on any device, with any tables and buffers: its number is one of those listed for
-- it, and a refusal changes nothing and stands beside zeros, a refused text beside the bytes used
pub harmless : (x : Call) (d : Device) (l : Lent) → CallHarmless x d l
unfolding outcome listed beside
harmless (on_device (raise code tick m)) d l = raise_fine d l code tick m
harmless (on_device (set_mode mode tick)) d l = changed_fine d l _ tick
harmless (on_device (set_format format tick)) d l = changed_fine d l _ tick
harmless (on_device (set_site site)) d l = site_fine d l site
harmless (on_receive read_record) d l = record_fine d l
harmless (on_receive read_text) d l = text_fine d l
harmless (on_receive (look p)) d l = look_fine d l p
harmless (on_receive (set_filter code mask)) d l = filter_fine d l code mask
harmless (on_receive (set_event_mask mask)) d l = mask_fine d l mask
harmless (on_receive (identifiers_through format)) d l = through_fine d l format
harmless (on_send (send m)) d l = send_fine d l m
harmless (on_send (send_text text)) d l = send_text_fine d l text
harmless (on_send (take tick)) d l = take_fine d l tick
harmless (on_send (done tick)) d l = done_fine d l tick
harmless (on_send (abort tick)) d l = abort_fine d l tick
harmless (on_align (print_message_record s)) d l = message_record_fine d l s
harmless (on_align (print_event_record s)) d l = event_record_fine d l s
harmless (on_align (print_message m)) d l = message_fine d l m

-- THEOREM, demand 1, of opening: 1, 2 or 0; a refusal answers the device of zeros and writes no table byte
pub open_harmless : (s : Settings) (l : Lent) → Harmless (1 ∷ 2 ∷ 0 ∷ []) (λ n. 0) no_device l (opened s l)
unfolding opened
open_harmless s l =
    let ns : List ℕ = 1 ∷ 2 ∷ 0 ∷ [] in
    either (H ns no_device l) (good (fresh s))
    (either (H ns no_device l) (queue_fits (fresh s).receive (length l.queue)
    && send_fits (fresh s).send (length l.send))
    (succeeds ns no_device l refl) (refused ns no_device l 2 refl))
    (refused ns no_device l 1 refl)

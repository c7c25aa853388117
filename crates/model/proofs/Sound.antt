-- Every call at once: its number is one of its usual ones, and a refusal leaves the box and stands beside zeros.
use Prim.Native.Nat.{ℕ, zero, suc}
use mathlib.Core.Path.{◌≡◌, refl, sym, ◌∙◌}
use mathlib.Core.Bool.{true, false, not}
use mathlib.Core.List.{List, [], ◌∷◌}
use lib.ListN.{length}
use lib.Dec.{ltb, leb, eqb}
use borrow.Author.Tests.{not-true}
use Rattle.std.specs.Prelude.{Option, Some, None}
use Rattle.common.specs.Choice.{pick}
use Rattle.common.specs.Numbers.{among, all_zero}
use Rattle.common.specs.Refusals.{is_refusal, refusal_number}
use Rattle.common.specs.declared.refusals.Refusal.{Refusal}
use Rattle.common.proofs.Bools.{apart}
use Rattle.common.proofs.Choices.{pick_is}
use Rattle.ids.specs.Ids.{is_format}
use Rattle.ids.specs.Frames.{header_refusal}
use Rattle.filters.specs.EventMask.{is_mask}
use Rattle.messages.specs.Records.{is_message, message_in}
use Rattle.events.specs.Records.{is_event, event_in}
use Rattle.events.specs.Raised.{frame_refusal}
use Rattle.events.specs.declared.Event.{Event}
use Rattle.messages.specs.declared.Message.{Message}
use Rattle.message_text.specs.Reading.{used_of, refused}
use Rattle.message_text.specs.Printing.{message_room, message_line, message_refusal, message_record_refusal}
use Rattle.message_text.proofs.Cases.{read_is}
use Rattle.event_text.specs.Lines.{event_room, event_line, event_record_refusal}
use Rattle.sites.specs.Sites.{good_site}
use Rattle.settings.specs.Ranges.{good_shared}
use Rattle.settings.proofs.Laws.{good_align}
use Rattle.settings.specs.Binary.{binary_refusal}
use Rattle.settings.specs.declared.Shared.{Shared}
use Rattle.model.specs.Said.{Said, says}
use Rattle.model.specs.Inbox.{Kept, ReceiveCall, read_record, read_text, look, set_filter, set_event_mask}
use Rattle.model.specs.Inbox.{identifiers_through, Received, takes_oldest, looks_at, receives}
use Rattle.model.specs.Outbox.{SendCall, send, send_text, take, done, abort, Posted, posted, put, put_text, takes}
use Rattle.model.specs.Outbox.{takes_into, finishes, posts}
use Rattle.model.specs.Box.{Box, box, Step, steps, DeviceCall, raise, set_mode, set_format, set_site, noted}
use Rattle.model.specs.Box.{changes, does, PrintCall, print_message_record, print_event_record, print_message}
use Rattle.model.specs.Box.{line_said, shows, Call, on_device, on_receive, on_send, on_align, step}
use Rattle.model.specs.Listed.{usual, beside, Untouched}
use Rattle.model.proofs.Choices.{either}
use Rattle.model.proofs.Lasting.{arrival_is}
use Rattle.model.proofs.Numbers.{header_number, frame_number, binary_number, Other, room_align, text_numbers}
use Rattle.model.proofs.Numbers.{each_is}

-- the number of a step is in the list, and a refusal leaves the box and stands beside zeros and its value
pub record Sound (ns : List ℕ) (value : ℕ → ℕ) (b : Box) (r : Step) : Type 0 where
  pub number_in : good_shared b.shared ≡ true → among r.said.number ns ≡ true
  pub untouched : is_refusal r.said.number ≡ true → Untouched b (value r.said.number) r

module _ {ns : List ℕ} {value : ℕ → ℕ} {b : Box} where
  -- a step that is no refusal
  succeeds : {r : Step} → is_refusal r.said.number ≡ false → among r.said.number ns ≡ true → Sound ns value b r
  succeeds z h = record { number_in = λ g. h; untouched = λ e. absurd (apart (sym e ∙ z)) }

  -- a step that leaves the box
  stays : {a : Said} → (good_shared b.shared ≡ true → among a.number ns ≡ true) → a.value ≡ value a.number
      → a.line ≡ [] → all_zero a.bytes ≡ true → Sound ns value b (steps a b)
  stays h v l z = record {
    number_in = h;
    untouched = λ e. record { box_kept = refl; no_line = l; zero_bytes = z; value_is = v };
  }

module _ (i room : ℕ) (b : Box) where
  -- what holds of a sound step of a call
  abbrev SoundCall : Call → Step → Type 0
  SoundCall x r = Sound (usual x) (beside x) b r

  -- ---- the calls on the device

  -- a change of mode or format
  changes_sound : (s : Shared) (tick : ℕ) → Sound (1 ∷ 0 ∷ []) (λ n. 0) b (changes s tick i b)
  unfolding is_refusal
  changes_sound s tick =
      either (Sound _ _ b) (good_shared s) (succeeds refl refl) (stays (λ g. refl) refl refl refl)

  -- every call on the device
  does_sound : (x : DeviceCall) → SoundCall (on_device x) (does i x b)
  unfolding does usual beside is_refusal
  does_sound (raise code tick m) =
      pick_is S (eqb (frame_refusal code m) 0)
      (λ h. arrival_is (λ r. S (steps (says r.number) (box b.shared r.inbox b.outbox))) b.shared i _ _
      (succeeds refl refl) (succeeds refl refl) (λ r. succeeds refl refl) (λ f. succeeds refl refl))
      (λ h. stays (λ g. frame_in h) refl refl refl)
    where
      ns : List ℕ
      ns = usual (on_device (raise code tick m))

      S : Step → Type 0
      S r = SoundCall (on_device (raise code tick m)) r

      frame_in : Other ns (frame_refusal code m)
      frame_in =
          frame_number (Other ns) code m
          (λ z. absurd (apart z)) (λ z. refl) (λ z. refl) (λ z. refl) (λ z. refl)
  does_sound (set_mode mode tick) = changes_sound _ tick
  does_sound (set_format format tick) = changes_sound _ tick
  does_sound (set_site site) =
      either (SoundCall (on_device (set_site site))) (good_site site) (succeeds refl refl)
      (stays (λ g. refl) refl refl refl)

  -- ---- the calls on the receive channel

  module _ (ns : List ℕ) where
    -- an answer that leaves the box
    abbrev Answered : Said → Type 0
    Answered a = Sound ns (λ n. 0) b (steps a b)

    -- a call on the receive channel
    abbrev SoundReceived : Received → Type 0
    SoundReceived r = Sound ns (λ n. 0) b (steps r.said (box b.shared r.inbox b.outbox))

    -- a read that takes an event succeeds
    oldest_sound : (empty : Said) (shows : Event → Said) (q : List Kept) → Answered empty
        → ((e : Event) → (shows e).number ≡ 0) → among 0 ns ≡ true → SoundReceived (takes_oldest empty shows q b.inbox)
    unfolding is_refusal
    oldest_sound empty shows [] a z h = a
    oldest_sound empty shows (k ∷ rest) a z h = succeeds (rw (z k.event)) (rw (z k.event) h)

  -- a look
  looks_sound : (ks : List Kept) (p : ℕ) → Answered (4 ∷ 0 ∷ []) (looks_at ks p)
  unfolding is_refusal
  looks_sound [] p = stays (λ g. refl) refl refl refl
  looks_sound (k ∷ ks) zero = succeeds refl refl
  looks_sound (k ∷ ks) (suc p) = looks_sound ks p

  -- every call on the receive channel
  receives_sound : (x : ReceiveCall) → SoundCall (on_receive x) (step i room (on_receive x) b)
  unfolding step receives usual beside is_refusal
  receives_sound read_record =
      oldest_sound _ _ _ b.inbox.queue (stays (λ g. refl) refl refl refl) (λ e. refl) refl
  receives_sound read_text =
      either (SoundReceived _) (ltb room event_room) (stays (λ g. refl) refl refl refl)
      (oldest_sound _ _ _ b.inbox.queue (stays (λ g. refl) refl refl refl) (λ e. refl) refl)
  receives_sound (look p) = looks_sound b.inbox.queue p
  receives_sound (set_filter code mask) = succeeds refl refl
  receives_sound (set_event_mask mask) =
      either (SoundReceived _) (is_mask mask) (succeeds refl refl) (stays (λ g. refl) refl refl refl)
  receives_sound (identifiers_through format) =
      either (Answered _) (is_format format) (succeeds refl refl) (stays (λ g. refl) refl refl refl)

  -- ---- the calls on the send channel

  -- a call on the send channel
  abbrev SoundPosted : SendCall → Posted → Type 0
  SoundPosted x p =
      SoundCall (on_send x)
      (steps p.said (box b.shared (noted b.shared i p.raises b.inbox) p.outbox))

  -- a binary message or what a text says is put in, where there is a place
  put_sound : (x : SendCall) (a : Said) (m : Message) → a.number ≡ 0 → among 0 (usual (on_send x)) ≡ true
      → SoundPosted x (posted (says 5) b.outbox None) → SoundPosted x (put a m b.outbox)
  unfolding is_refusal
  put_sound x a m z h five =
      either (SoundPosted x) (ltb (length b.outbox.buffer) b.outbox.places) (succeeds (rw z) (rw z h)) five

  -- the oldest is taken, if there is one
  takes_sound : (tick : ℕ) (ms : List Message) → SoundPosted (take tick) (takes b.shared.site tick ms b.outbox)
  unfolding usual beside is_refusal
  takes_sound tick [] = stays (λ g. refl) refl refl refl
  takes_sound tick (m ∷ ms) = succeeds refl refl

  -- take
  take_sound : (tick : ℕ) (register : Option Message)
      → SoundPosted (take tick) (takes_into register b.shared.site tick b.outbox)
  unfolding usual beside
  take_sound tick None = takes_sound tick b.outbox.buffer
  take_sound tick (Some m) = stays (λ g. refl) refl refl refl

  -- done
  done_sound : (tick : ℕ) (register : Option Message)
      → SoundPosted (done tick) (finishes register b.shared.site tick b.outbox)
  unfolding usual beside is_refusal
  done_sound tick None = stays (λ g. refl) refl refl refl
  done_sound tick (Some m) = succeeds refl refl

  -- a refused text with an end answers the bytes used
  text_sound : (text : List ℕ) (why : Refusal) → among (refusal_number why) text_numbers ≡ true
      → SoundPosted (send_text text) (put_text (refused why (used_of text)) b.outbox)
  unfolding usual beside
  text_sound text why h =
      let n = refusal_number why in
      let other = each_is (λ n. not (among n (2 ∷ 5 ∷ 6 ∷ []))) n text_numbers refl h in
      stays (λ g. each_is (λ n. among n (usual (on_send (send_text text)))) n text_numbers refl h)
      (rw (not-true (among n (2 ∷ 5 ∷ 6 ∷ [])) other)) refl refl

  -- every call on the send channel
  posts_sound : (x : SendCall) → SoundCall (on_send x) (step i room (on_send x) b)
  unfolding step posts usual beside is_refusal
  posts_sound (send m) =
      pick_is (SoundPosted (send m)) (eqb (binary_refusal b.shared m) 0)
      (λ h. put_sound (send m) _ _ refl refl (stays (λ g. refl) refl refl refl))
      (λ h. stays (λ g. binary_in) refl refl refl)
    where
      ns : List ℕ
      ns = usual (on_send (send m))

      binary_in : among (binary_refusal b.shared m) ns ≡ true
      binary_in = binary_number (λ n. among n ns ≡ true) b.shared m refl refl refl refl refl
  posts_sound (send_text text) =
      read_is (λ r. SoundPosted (send_text text) (put_text r b.outbox)) _ _ text
      (stays (λ g. refl) refl refl refl) (text_sound text)
      (λ f. put_sound (send_text text) _ _ refl refl (stays (λ g. refl) refl refl refl))
  posts_sound (take tick) = take_sound tick b.outbox.register
  posts_sound (done tick) = done_sound tick b.outbox.register
  posts_sound (abort tick) = succeeds refl refl

  -- ---- the calls that print

  -- a line is printed, or its refusal answered: room, then the Align, then n
  line_sound : (ns : List ℕ) (need n : ℕ) (line : List ℕ) → among 0 ns ≡ true → among 3 ns ≡ true → Other ns n
      → Answered ns (line_said (pick (ltb room need) 3 (pick (leb b.shared.align 3) n 1)) line)
  unfolding is_refusal
  line_sound ns need n line success three h =
      let r : ℕ = pick (ltb room need) 3 (pick (leb b.shared.align 3) n 1) in
      pick_is (Answered ns) (eqb r 0) (λ e. succeeds refl success)
      (λ e. stays (λ g. room_align ns _ room need n three h (good_align b.shared g) e) refl refl refl)

  -- every call that prints
  shows_sound : (x : PrintCall) → SoundCall (on_align x) (step i room (on_align x) b)
  unfolding step shows usual beside message_record_refusal event_record_refusal message_refusal
  shows_sound (print_message_record s) =
      line_sound _ message_room (pick (is_message s) 0 14) (message_line _ (message_in s)) refl refl
      (either (Other (3 ∷ 14 ∷ 0 ∷ [])) (is_message s) (λ z. refl) (λ z. refl))
  shows_sound (print_event_record s) =
      line_sound _ event_room (pick (is_event s) 0 14) (event_line _ (event_in s)) refl refl
      (either (Other (3 ∷ 14 ∷ 0 ∷ [])) (is_event s) (λ z. refl) (λ z. refl))
  shows_sound (print_message m) =
      line_sound _ message_room (header_refusal m.header) (message_line _ m) refl refl
      (header_number (Other (3 ∷ 13 ∷ 8 ∷ 9 ∷ 10 ∷ 0 ∷ [])) m.header
      (λ z. refl) (λ z. refl) (λ z. refl) (λ z. refl) (λ z. refl))

  -- every call
  pub step_sound : (x : Call) → SoundCall x (step i room x b)
  unfolding step
  step_sound (on_device x) = does_sound x
  step_sound (on_receive x) = receives_sound x
  step_sound (on_send x) = posts_sound x
  step_sound (on_align x) = shows_sound x

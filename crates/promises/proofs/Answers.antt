-- The code over its tables answers exactly what the model answers, call after call.
use Prim.Native.Nat.{ℕ, ◌+◌}
use mathlib.Core.Path.{◌≡◌, refl, sym, ap, subst, ◌∙◌}
use mathlib.Core.Bool.{Bool, true, false}
use mathlib.Core.List.{List, [], ◌∷◌, ◌++◌, map, map-append, append-nil}
use lib.ListN.{length}
use lib.Dec.{ltb, eqb}
use Rattle.std.specs.Prelude.{Option, Some, None}
use Rattle.common.specs.All.{All}
use Rattle.common.specs.Choice.{pick}
use Rattle.common.proofs.Choices.{pick_is}
use Rattle.filters.specs.EventMask.{mask_lets, is_mask}
use Rattle.messages.specs.Records.{message_bytes, no_message}
use Rattle.events.specs.Records.{event_size, code_of, event_bytes}
use Rattle.events.specs.Raised.{frame_refusal, event_of, filtered}
use Rattle.events.specs.declared.Event.{Event}
use Rattle.event_text.specs.Lines.{event_room, event_line}
use Rattle.sites.specs.Sites.{good_site}
use Rattle.settings.specs.Ranges.{good_shared}
use Rattle.settings.specs.declared.Settings.{Settings}
use Rattle.settings.specs.declared.Shared.{Shared}
use Rattle.queue.specs.Channel.{queue_limit}
use Rattle.device.specs.Outcomes.{Lent, lends, Outcome}
use Rattle.device.specs.Opening.{opened}
use Rattle.device.specs.declared.Device.{Device}
use Rattle.model.specs.Said.{Said, says, says_zeros, hands, prints}
use Rattle.model.specs.Inbox.{Kept, Inbox, Met, arrival, ReceiveCall, read_record, read_text, look, set_filter}
use Rattle.model.specs.Inbox.{set_event_mask, identifiers_through, with_filter, with_mask, Received, received, takes_oldest}
use Rattle.model.specs.Inbox.{receives}
use Rattle.model.specs.Outbox.{posts}
use Rattle.model.specs.Box.{Box, box, Step, DeviceCall, raise, set_mode, set_format, set_site, noted, does, Call, on_device}
use Rattle.model.specs.Box.{on_receive, on_send, on_align, step, fresh}
use Rattle.model.specs.Box as Model
use Rattle.model.proofs.Lasting.{step_any}
use Rattle.promises.specs.Typed.{Typed, Made, asked, TypedSettings}
use Rattle.promises.specs.Calls.{outcome}
use Rattle.promises.specs.Runs.{Run, queued_events, waiting, read_by, read_out, answered, next, run, started}
use Rattle.promises.specs.Stands.{SoundKept, Holds, kept_bytes, Stands, RunStands, Says, Answered}
use Rattle.promises.proofs.Holding.{all_snoc, holds_rest}
use Rattle.promises.proofs.Agreeing.{Agrees}
use Rattle.promises.proofs.ReceiveCalls.{receive_agrees}
use Rattle.promises.proofs.SendCalls.{send_agrees}
use Rattle.promises.proofs.DeviceCalls.{device_agrees, print_agrees}
use Rattle.promises.proofs.Opening.{opens}

-- ---- one call

-- THEOREM. A call on a device that stands for a box says what the model says, and leaves a device that stands for
-- the box that the model leaves
pub refines : (x : Call) (i : ℕ) (d : Device) (q t out : List ℕ) (b : Box) → Typed x → Stands d q t b
    → Agrees (outcome x d (lends q t out)) out (step i (length out) x b)
refines x i d q t out b ty h =
    subst (λ (s : Shared). Agrees (outcome x d (lends q t out)) out
    (step i (length out) x (box s b.inbox b.outbox))) h.shared
    (by x ty)
  where
    same : Stands d q t (box d.shared b.inbox b.outbox)
    same = record { possible = h.possible; shared = refl; inbox = h.inbox; outbox = h.outbox }

    by : (x : Call) → Typed x
        → Agrees (outcome x d (lends q t out)) out (step i (length out) x (box d.shared b.inbox b.outbox))
    by (on_device x) ty = device_agrees d q t out i b.inbox b.outbox same x ty
    by (on_receive x) ty = receive_agrees d q t out i b.inbox b.outbox same x ty
    by (on_send x) ty = send_agrees d q t out i b.inbox b.outbox same x ty
    by (on_align x) ty = print_agrees d q t out i b.inbox b.outbox same x

-- ---- what a call reads

-- an event that arrives is not read
arrival_read : (s : Shared) (i : ℕ) (e : Event) (b : Inbox) → (arrival s i e b).inbox.read ≡ b.read
unfolding arrival
arrival_read s i e b =
    let P : Met → Type 0 = λ m. m.inbox.read ≡ b.read in
    pick_is P (filtered s.mode s.align b.filter e) (λ z. refl)
    (λ z. pick_is P (mask_lets b.mask (code_of e.kind))
    (λ y. pick_is P (ltb (length b.queue) b.places) (λ x. refl) (λ x. refl))
    (λ y. refl))

noted_read : (s : Shared) (i : ℕ) (e : Option Event) (b : Inbox) → (noted s i e b).read ≡ b.read
noted_read s i None b = refl
noted_read s i (Some e) b = arrival_read s i e b

-- no call on the device reads
does_read : (i : ℕ) (x : DeviceCall) (b : Box) → (does i x b).after.inbox.read ≡ b.inbox.read
unfolding does
does_read i (raise code tick m) b =
    pick_is (λ (s : Step). s.after.inbox.read ≡ b.inbox.read) (eqb (frame_refusal code m) 0)
    (λ z. arrival_read b.shared i (event_of b.shared.site code tick m) b.inbox) (λ z. refl)
does_read i (set_mode mode tick) b =
    pick_is (λ (s : Step). s.after.inbox.read ≡ b.inbox.read) (good_shared _)
    (λ z. arrival_read _ i (event_of _ 5 tick no_message) b.inbox) (λ z. refl)
does_read i (set_format format tick) b =
    pick_is (λ (s : Step). s.after.inbox.read ≡ b.inbox.read) (good_shared _)
    (λ z. arrival_read _ i (event_of _ 5 tick no_message) b.inbox) (λ z. refl)
does_read i (set_site site) b =
    pick_is (λ (s : Step). s.after.inbox.read ≡ b.inbox.read) (good_site site) (λ z. refl) (λ z. refl)

module _ (r : Run) (o : Outcome) (out : List ℕ) (b : Inbox)
    (h : Holds kept_bytes event_size queue_limit r.device.receive.ring r.queue b.queue) where
  -- what was read after a call is what was read before it and, where it answers 0, these bytes
  abbrev Grows : List (List ℕ) → Received → Type 0
  Grows got x =
      Says o out x.said
      → map kept_bytes x.inbox.read ≡ map kept_bytes b.read ++ pick (eqb o.number 0) got []

  -- a call that reads nothing
  still : (a : Said) (c : Inbox) → c.read ≡ b.read → Grows [] (received a c)
  still a c e s = rw e (by (eqb o.number 0))
    where
      by : (t : Bool) → map kept_bytes b.read ≡ map kept_bytes b.read ++ pick t [] []
      by true = sym (append-nil (map kept_bytes b.read))
      by false = sym (append-nil (map kept_bytes b.read))

  -- a read that is refused
  refused : (got : List (List ℕ)) (a : Said) → eqb a.number 0 ≡ false → Grows got (received a b)
  refused got a z s = rw (s.number, z) (sym (append-nil (map kept_bytes b.read)))

  -- a read of the oldest, which says `empty` where there is none
  oldest : (empty : Said) (shows : Event → Said) (got : List (List ℕ)) → eqb empty.number 0 ≡ false
      → ((e : Event) → (shows e).number ≡ 0)
      → ((k : Kept) (rest : List Kept) → b.queue ≡ k ∷ rest → Says o out (shows k.event) → got ≡ kept_bytes k ∷ [])
      → (ks : List Kept) → b.queue ≡ ks → Grows got (takes_oldest empty shows ks b)
  oldest empty shows got z zero_is is [] e = refused got empty z
  oldest empty shows got z zero_is is (k ∷ rest) e = λ s.
      rw (s.number, zero_is k.event, is k rest e s) (map-append kept_bytes b.read (k ∷ []))

  -- every call on a receive channel
  receive_read : (x : ReceiveCall) (s : Shared) → Grows (read_by x r o) (receives x (length out) s b)
  unfolding receives
  receive_read read_record s =
      oldest (says_zeros event_size 4) (λ (e : Event). hands (event_bytes e)) (o.bytes ∷ []) refl (λ e. refl)
      (λ k rest e w. ap (λ (l : List ℕ). l ∷ []) w.bytes) b.queue refl
  receive_read read_text s =
      pick_is (Grows (read_by read_text r o)) (ltb (length out) event_room) (λ z. refused _ (says 3) refl)
      (λ z. oldest (says 4) (λ (e : Event). prints (event_line s.align e)) _ refl (λ e. refl)
      (λ k rest e w.
      ap (λ (l : List ℕ). l ∷ [])
      (holds_rest kept_bytes event_size queue_limit r.device.receive.ring r.queue k rest (rw e at h)).0)
      b.queue refl)
  receive_read (look p) s = still _ b refl
  receive_read (set_filter code mask) s = still _ (with_filter code mask b) refl
  receive_read (set_event_mask mask) s =
      pick_is (Grows []) (is_mask mask) (λ z. still _ (with_mask mask b) refl) (λ z. still _ b refl)
  receive_read (identifiers_through format) s = still _ b refl

-- ---- one call of a run

module _ (x : Made) (r : Run) (b : Box) (h : RunStands r b) where
  agrees : (i : ℕ) → Agrees (answered x r) x.out (step i (length x.out) x.call b)
  agrees i = refines x.call i r.device r.queue r.send x.out b x.typed h.stands

  -- nothing is read by a call on anything but the receive channel
  not_read : (ks : List Kept) → ks ≡ b.inbox.read → r.read ++ [] ≡ map kept_bytes ks
  not_read ks e = append-nil r.read ∙ h.read ∙ sym (ap (map kept_bytes) e)

  reads : (i : ℕ) (y : Call) → Says (answered x r) x.out (step i (length x.out) y b).said
      → r.read ++ read_out y r (answered x r) ≡ map kept_bytes (step i (length x.out) y b).after.inbox.read
  unfolding step
  reads i (on_device y) s = not_read _ (does_read i y b)
  reads i (on_receive y) s =
      ap (λ (l : List (List ℕ)). l ++ read_out (on_receive y) r (answered x r)) h.read
      ∙ sym (receive_read r (answered x r) x.out b.inbox h.stands.inbox.events y b.shared s)
  reads i (on_send y) s = not_read _ (noted_read b.shared i (posts y b.shared b.outbox).raises b.inbox)
  reads i (on_align y) s = not_read _ refl

  -- what is read was queued, and is sound
  read_sound : (i room : ℕ) (y : Call) → All SoundKept (step i room y b).after.inbox.read
  read_sound i room y =
      step_any i b (λ c. All SoundKept c.read)
      (record {
        kept = h.sound;
        recorded = λ e any free. h.sound;
        lost = λ e any full. h.sound;
        read = λ k rest q.
            all_snoc SoundKept b.inbox.read k h.sound (subst (All SoundKept) q h.stands.inbox.sound).0;
        filter = λ code mask. h.sound;
        mask = λ mask. h.sound;
      })
      room y

  -- the run with one call more stands for the box after it
  pub next_stands : (i : ℕ) → RunStands (next x r) (step i (length x.out) x.call b).after
  unfolding next
  next_stands i = record {
    stands = (agrees i).1;
    read = reads i x.call (agrees i).0;
    sound = read_sound i (length x.out) x.call;
  }

  -- and the call says what the model says
  pub says_model : (i : ℕ) → Says (answered x r) x.out (step i (length x.out) x.call b).said
  says_model i = (agrees i).0

-- ---- sequences of calls

-- THEOREM. In a run that stands for a box every call says what the model says, and at the end the run stands for the
-- model's box
pub answers_from : (xs : List Made) (i : ℕ) (r : Run) (b : Box) → RunStands r b
    → Answered xs r (Model.answers i (map asked xs) b) × RunStands (run xs r) (Model.run i (map asked xs) b)
unfolding run Model.answers Model.run
answers_from [] i r b h = (tt, h)
answers_from (x ∷ xs) i r b h =
    let rest = answers_from xs (i + 1) (next x r) (step i (length x.out) x.call b).after
    (next_stands x r b h i) in
    ((says_model x r b h i, rest.0), rest.1)

-- THEOREM. From every opening that answers 0, for every list of calls: every answer and every output buffer is the
-- model's, and the device with its tables stands for the model's box
pub answers : (s : Settings) (l : Lent) (xs : List Made) → TypedSettings s → (opened s l).number ≡ 0
    → Answered xs (started s l) (Model.answers 0 (map asked xs) (fresh s))
    × RunStands (run xs (started s l)) (Model.run 0 (map asked xs) (fresh s))
answers s l xs ty e = answers_from xs 0 (started s l) (fresh s) (opens s l ty e)

-- THEOREM. After any calls from such an opening the event table holds the bytes of the events that the model has
-- queued, and no others, oldest first
pub queued_bytes : (s : Settings) (l : Lent) (xs : List Made) → TypedSettings s → (opened s l).number ≡ 0
    → queued_events (run xs (started s l)) ≡ map kept_bytes (Model.run 0 (map asked xs) (fresh s)).inbox.queue
queued_bytes s l xs ty e = (answers s l xs ty e).1.stands.inbox.events.slots

-- THEOREM. The message table holds the bytes of the messages that wait in the model
pub waiting_bytes : (s : Settings) (l : Lent) (xs : List Made) → TypedSettings s → (opened s l).number ≡ 0
    → waiting (run xs (started s l)) ≡ map message_bytes (Model.run 0 (map asked xs) (fresh s)).outbox.buffer
waiting_bytes s l xs ty e = (answers s l xs ty e).1.stands.outbox.messages.slots

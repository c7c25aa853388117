-- One call at a time: what all that can happen to a receive channel leaves true is true after every sequence of calls.
use Prim.Native.Nat.{ℕ, ◌+◌, ◌≤◌, ◌<◌}
use mathlib.Core.Path.{◌≡◌, refl}
use mathlib.Core.List.{List, [], ◌∷◌}
use lib.ListN.{length}
use lib.Dec.{ltb, eqb}
use borrow.Author.Tests.{ltb-true, ltb-false}
use Rattle.std.specs.Prelude.{Option, Some, None}
use Rattle.common.proofs.Choices.{pick_is}
use Rattle.filters.specs.EventMask.{mask_lets, is_mask}
use Rattle.events.specs.Records.{code_of}
use Rattle.messages.specs.Records.{no_message}
use Rattle.events.specs.Raised.{filtered, frame_refusal, event_of}
use Rattle.events.specs.declared.Event.{Event}
use Rattle.messages.specs.declared.Message.{Message}
use Rattle.event_text.specs.Lines.{event_room}
use Rattle.sites.specs.Sites.{good_site}
use Rattle.settings.specs.Ranges.{good_shared}
use Rattle.settings.specs.declared.Shared.{Shared}
use Rattle.model.specs.Said.{Said}
use Rattle.model.specs.Inbox.{Kept, Inbox, recording, losing, Met, meets, arrival, reading, with_filter}
use Rattle.model.specs.Inbox.{with_mask, ReceiveCall, read_record, read_text, look, set_filter, set_event_mask}
use Rattle.model.specs.Inbox.{identifiers_through, Received, takes_oldest, receives}
use Rattle.model.specs.Outbox.{SendCall, posts}
use Rattle.model.specs.Box.{Box, Step, DeviceCall, raise, set_mode, set_format, set_site, noted, changes, does, Call}
use Rattle.model.specs.Box.{on_device, on_receive, on_send, on_align, step, Asked, run}

-- what holds of each way that an event can meet a channel holds of what it meets
pub arrival_is : (R : Met → Type 0) (s : Shared) (i : ℕ) (e : Event) (b : Inbox) → R (meets 101 b) → R (meets 102 b)
    → (length b.queue < b.places → R (meets 100 (recording i e b)))
    → (b.places ≤ length b.queue → R (meets 103 (losing i e b))) → R (arrival s i e b)
unfolding arrival
arrival_is R s i e b away masked recorded lost =
    pick_is R (filtered s.mode s.align b.filter e) (λ t. away)
    (λ t. pick_is R (mask_lets b.mask (code_of e.kind))
    (λ m. pick_is R (ltb (length b.queue) b.places)
    (λ h. recorded (ltb-true _ _ h)) (λ h. lost (ltb-false _ _ h)))
    (λ m. masked))

-- ---- all that a call can make of a receive channel

-- an event, if there is one, is such an event
abbrev pub IfAny : (Event → Type 0) → Option Event → Type 0
IfAny E None = Unit {0}
IfAny E (Some e) = E e

-- Q holds of all that call i, which raises an event E, can make of channel b: all stays, the event is recorded, lost,
-- one is read; filter or mask change
pub record Turns (i : ℕ) (b : Inbox) (E : Event → Type 0) (Q : Inbox → Type 0) : Type 0 where
  pub kept : Q b
  pub recorded : (e : Event) → E e → length b.queue < b.places → Q (recording i e b)
  pub lost : (e : Event) → E e → b.places ≤ length b.queue → Q (losing i e b)
  pub read : (k : Kept) (rest : List Kept) → b.queue ≡ k ∷ rest → Q (reading k rest b)
  pub filter : (code mask : ℕ) → Q (with_filter code mask b)
  pub mask : (mask : ℕ) → Q (with_mask mask b)

module _ (i : ℕ) (b : Inbox) (E : Event → Type 0) (Q : Inbox → Type 0) (w : Turns i b E Q) where
  -- the event that a call raises beside its answer, if any
  noted_turns : (s : Shared) (e : Option Event) → IfAny E e → Q (noted s i e b)
  noted_turns s None h = w.kept
  noted_turns s (Some e) h =
      arrival_is (λ m. Q m.inbox) s i e b w.kept w.kept (w.recorded e h) (w.lost e h)

  -- the oldest is taken, if there is one
  oldest_turns : (empty : Said) (shows : Event → Said) (q : List Kept) → b.queue ≡ q
      → Q (takes_oldest empty shows q b).inbox
  oldest_turns empty shows [] e = w.kept
  oldest_turns empty shows (k ∷ rest) e = w.read k rest e

  -- every call on a receive channel
  receives_turns : (x : ReceiveCall) (room : ℕ) (s : Shared) → Q (receives x room s b).inbox
  unfolding receives
  receives_turns read_record room s = oldest_turns _ _ b.queue refl
  receives_turns read_text room s =
      pick_is (λ (r : Received). Q r.inbox) (ltb room event_room)
      (λ h. w.kept) (λ h. oldest_turns _ _ b.queue refl)
  receives_turns (look p) room s = w.kept
  receives_turns (set_filter code mask) room s = w.filter code mask
  receives_turns (set_event_mask mask) room s =
      pick_is (λ (r : Received). Q r.inbox) (is_mask mask) (λ h. w.mask mask) (λ h. w.kept)
  receives_turns (identifiers_through format) room s = w.kept

module _ (i : ℕ) (b : Box) (E : Event → Type 0) (Q : Inbox → Type 0) (w : Turns i b.inbox E Q)
    (own : (code tick : ℕ) (m : Message) → E (event_of b.shared.site code tick m))
    (sent : (x : SendCall) → IfAny E (posts x b.shared b.outbox).raises) where
  -- what a call leaves in the receive channel
  abbrev Left : Step → Type 0
  Left r = Q r.after.inbox

  -- a change of mode or format
  changes_turns : (s : Shared) (tick : ℕ) → E (event_of s.site 5 tick no_message) → Left (changes s tick i b)
  changes_turns s tick e =
      pick_is Left (good_shared s)
      (λ h. noted_turns i b.inbox E Q w s (Some (event_of s.site 5 tick no_message)) e) (λ h. w.kept)

  -- every call on the device
  does_turns : (x : DeviceCall) → Left (does i x b)
  unfolding does
  does_turns (raise code tick m) =
      pick_is Left (eqb (frame_refusal code m) 0)
      (λ h. noted_turns i b.inbox E Q w b.shared (Some (event_of b.shared.site code tick m)) (own code tick m))
      (λ h. w.kept)
  does_turns (set_mode mode tick) = changes_turns _ tick (own 5 tick no_message)
  does_turns (set_format format tick) = changes_turns _ tick (own 5 tick no_message)
  does_turns (set_site site) = pick_is Left (good_site site) (λ h. w.kept) (λ h. w.kept)

  -- every call
  pub step_turns : (room : ℕ) (x : Call) → Left (step i room x b)
  unfolding step
  step_turns room (on_device x) = does_turns x
  step_turns room (on_receive x) = receives_turns i b.inbox E Q w x room b.shared
  step_turns room (on_send x) =
      noted_turns i b.inbox E Q w b.shared (posts x b.shared b.outbox).raises (sent x)
  step_turns room (on_align x) = w.kept

-- any event
abbrev pub Any : Event → Type 0
Any e = Unit {0}

any : (e : Option Event) → IfAny Any e
any None = tt
any (Some e) = tt

-- every call, whatever events it raises
pub step_any : (i : ℕ) (b : Box) (Q : Inbox → Type 0) → Turns i b.inbox Any Q → (room : ℕ) (x : Call)
    → Q (step i room x b).after.inbox
step_any i b Q w room x =
    step_turns i b Any Q w (λ code tick m. tt) (λ y. any (posts y b.shared b.outbox).raises) room x

-- ---- what lasts

-- all that can happen to a receive channel leaves P true: an event is recorded, lost, read; filter or mask change
pub record Lasting (P : Inbox → Type 0) : Type 0 where
  pub recorded : (i : ℕ) (e : Event) (b : Inbox) → length b.queue < b.places → P b → P (recording i e b)
  pub lost : (i : ℕ) (e : Event) (b : Inbox) → b.places ≤ length b.queue → P b → P (losing i e b)
  pub read : (k : Kept) (rest : List Kept) (b : Inbox) → b.queue ≡ k ∷ rest → P b → P (reading k rest b)
  pub filter : (code mask : ℕ) (b : Inbox) → P b → P (with_filter code mask b)
  pub mask : (mask : ℕ) (b : Inbox) → P b → P (with_mask mask b)

module _ (P : Inbox → Type 0) (l : Lasting P) where
  -- all that a call can make of a channel
  lasting_turns : (i : ℕ) (b : Inbox) → P b → Turns i b Any P
  lasting_turns i b p = record {
    kept = p;
    recorded = λ e any room. l.recorded i e b room p;
    lost = λ e any full. l.lost i e b full p;
    read = λ k rest q. l.read k rest b q p;
    filter = λ code mask. l.filter code mask b p;
    mask = λ mask. l.mask mask b p;
  }

  -- every call
  pub step_keeps : (i room : ℕ) (x : Call) (b : Box) → P b.inbox → P (step i room x b).after.inbox
  step_keeps i room x b p = step_any i b P (lasting_turns i b.inbox p) room x

  -- every sequence of calls
  pub run_keeps : (i : ℕ) (xs : List Asked) (b : Box) → P b.inbox → P (run i xs b).inbox
  unfolding run
  run_keeps i [] b p = p
  run_keeps i (x ∷ xs) b p =
      run_keeps (i + 1) xs (step i x.room x.call b).after (step_keeps i x.room x.call b p)

-- A larger queue has recorded everything, in order, that a smaller one has.
use Prim.Native.Nat.{ℕ, ◌+◌, ◌≤◌, ◌<◌}
use mathlib.Core.Path.{◌≡◌, refl, ap, subst₂}
use mathlib.Core.Bool.{Bool, true, false}
use mathlib.Core.List.{List, [], ◌∷◌, map, append-nil}
use native.Mathlib.Omega.{arith}
use lib.ListN.{length}
use lib.Dec.{ltb, eqb}
use borrow.Author.Tests.{ltb-true, ltb-false}
use Rattle.std.specs.Prelude.{Option, Some, None as no-event}
use Rattle.common.specs.Choice.{pick}
use Rattle.common.specs.Sublist.{none, keep, skip}
use Rattle.common.proofs.Sublists.{sublist_append}
use Rattle.filters.specs.EventMask.{mask_lets, is_mask}
use Rattle.filters.specs.declared.Filter.{Filter}
use Rattle.events.specs.Records.{code_of}
use Rattle.messages.specs.Records.{no_message}
use Rattle.events.specs.Raised.{filtered, frame_refusal, event_of}
use Rattle.events.specs.declared.Event.{Event}
use Rattle.event_text.specs.Lines.{event_room}
use Rattle.sites.specs.Sites.{good_site}
use Rattle.settings.specs.Ranges.{good_shared}
use Rattle.settings.specs.declared.Shared.{Shared}
use Rattle.settings.specs.declared.Settings.{Settings}
use Rattle.model.specs.Said.{Said}
use Rattle.model.specs.Inbox.{Kept, Inbox, recording, losing, Met, meets, arrival, reading, ReceiveCall}
use Rattle.model.specs.Inbox.{read_record, read_text, look, set_filter, set_event_mask, identifiers_through, Received}
use Rattle.model.specs.Inbox.{takes_oldest, receives}
use Rattle.model.specs.Outbox.{Outbox, posts}
use Rattle.model.specs.Box.{Box, box, fresh, Step, DeviceCall, raise, set_mode, set_format, set_site, noted}
use Rattle.model.specs.Box.{changes, does, Call, on_device, on_receive, on_send, on_align, step, Asked, run}
use Rattle.model.specs.Promised.{recorded, apart, Within, with_places}
use Rattle.model.proofs.Choices.{both, alongside}
use Rattle.model.proofs.Recorded.{recorded_more, recorded_same, queue_more}

-- ---- two channels

-- the same filter and mask, and the second has no fewer places
abbrev pub Tuned : Inbox → Inbox → Type 0
Tuned a b = (a.filter ≡ b.filter) × (a.mask ≡ b.mask) × (a.places ≤ b.places)

-- and the second is freer: no fewer places free, all recorded that the first has
pub record Freer (a b : Inbox) : Type 0 where
  pub tuned : Tuned a b
  pub free : a.places + length b.queue ≤ b.places + length a.queue
  pub within : Within a b

module _ (i : ℕ) (e : Event) (a b : Inbox) (f : Freer a b) where
  -- both record it
  both_record : Freer (recording i e a) (recording i e b)
  both_record = record {
    tuned = f.tuned;
    free = omega (arith, queue_more i e a, queue_more i e b, f.free);
    within = rw (recorded_more i e a, recorded_more i e b) (sublist_append f.within (keep none));
  }

  -- the first loses it, the second does not
  one_records : a.places ≤ length a.queue → length b.queue < b.places
      → Freer (losing i e a) (recording i e b)
  one_records full room = record {
    tuned = f.tuned;
    free = omega (arith, queue_more i e b);
    within = rw (recorded_more i e b, ← (append-nil (map apart (recorded a)))) (sublist_append f.within (skip none));
  }

  -- both lose it
  both_lose : Freer (losing i e a) (losing i e b)
  both_lose = record { tuned = f.tuned; free = f.free; within = f.within }

  -- the channels that an event leaves
  abbrev Freed : Met → Met → Type 0
  Freed m n = Freer m.inbox n.inbox

  -- an event arrives in both
  pub freer_arrival : (s : Shared) → Freed (arrival s i e a) (arrival s i e b)
  unfolding arrival
  freer_arrival s = alongside Freed _ _ away f (alongside Freed _ _ lets (by _ _ refl refl) f)
    where
      away : filtered s.mode s.align a.filter e ≡ filtered s.mode s.align b.filter e
      away = ap (λ (q : Filter). filtered s.mode s.align q e) f.tuned.0

      lets : mask_lets a.mask (code_of e.kind) ≡ mask_lets b.mask (code_of e.kind)
      lets = ap (λ (n : ℕ). mask_lets n (code_of e.kind)) f.tuned.1

      by : (t u : Bool) → ltb (length a.queue) a.places ≡ t → ltb (length b.queue) b.places ≡ u
          → Freed (pick t (meets 100 (recording i e a)) (meets 103 (losing i e a)))
          (pick u (meets 100 (recording i e b)) (meets 103 (losing i e b)))
      by true true h g = both_record
      by true false h g =
          let room = ltb-true (length a.queue) a.places h in
          let full = ltb-false (length b.queue) b.places g in
          absurd (omega (arith, f.free))
      by false true h g = one_records (ltb-false _ _ h) (ltb-true _ _ g)
      by false false h g = both_lose

-- the event that a call raises, if any, arrives in both
pub freer_noted : (s : Shared) (i : ℕ) (e : Option Event) (a b : Inbox) → Freer a b
    → Freer (noted s i e a) (noted s i e b)
freer_noted s i no-event a b f = f
freer_noted s i (Some e) a b f = freer_arrival i e a b f s

-- ---- a read of both, or of the second alone

-- a read of the second alone
pub freer_extra : (k : Kept) (rest : List Kept) (a b : Inbox) → b.queue ≡ k ∷ rest → Freer a b
    → Freer a (reading k rest b)
freer_extra k rest a b g f = record {
  tuned = f.tuned;
  free = omega (arith, f.free, ap length g);
  within = rw (recorded_same k rest b g) f.within;
}

-- a read takes the oldest of both, where there is one
pub freer_oldest : (empty : Said) (shows : Event → Said) (p q : List Kept) (a b : Inbox) → a.queue ≡ p → b.queue ≡ q
    → Freer a b → Freer (takes_oldest empty shows p a).inbox (takes_oldest empty shows q b).inbox
freer_oldest empty shows [] [] a b e g f = f
freer_oldest empty shows [] (k ∷ rest) a b e g f = freer_extra k rest a b g f
freer_oldest empty shows (k ∷ rest) [] a b e g f = record {
  tuned = f.tuned;
  free = omega (arith, f.tuned.2, ap length g);
  within = rw (recorded_same k rest a e) f.within;
}
freer_oldest empty shows (k ∷ rest) (l ∷ more) a b e g f = record {
  tuned = f.tuned;
  free = omega (arith, f.free, ap length e, ap length g);
  within = rw (recorded_same k rest a e, recorded_same l more b g) f.within;
}

-- the channels that two calls on receive channels leave
abbrev pub FreerAfter : Received → Received → Type 0
FreerAfter r q = Freer r.inbox q.inbox

-- the same call on both channels
pub freer_receives : (x : ReceiveCall) (room : ℕ) (s : Shared) (a b : Inbox) → Freer a b
    → FreerAfter (receives x room s a) (receives x room s b)
unfolding receives
freer_receives read_record room s a b f = freer_oldest _ _ a.queue b.queue a b refl refl f
freer_receives read_text room s a b f =
    both FreerAfter (ltb room event_room) f (freer_oldest _ _ a.queue b.queue a b refl refl f)
freer_receives (look p) room s a b f = f
freer_receives (set_filter code mask) room s a b f = record {
  tuned = (
    ap (λ (g : Filter). record { active = g.active; code = code; mask = mask }) f.tuned.0,
    f.tuned.1,
    f.tuned.2,
  );
  free = f.free;
  within = f.within;
}
freer_receives (set_event_mask mask) room s a b f =
    both FreerAfter (is_mask mask)
    (record { tuned = (f.tuned.0, refl, f.tuned.2); free = f.free; within = f.within }) f
freer_receives (identifiers_through format) room s a b f = f

-- ---- two boxes that differ in their receive channels alone

pub record Alike (b c : Box) : Type 0 where
  pub shared : b.shared ≡ c.shared
  pub outbox : b.outbox ≡ c.outbox
  pub inbox : Freer b.inbox c.inbox

-- any two channels of which the second is freer
pub alike : (s : Shared) (o : Outbox) (a b : Inbox) → Freer a b → Alike (box s a o) (box s b o)
alike s o a b f = record { shared = refl; outbox = refl; inbox = f }

-- the boxes that two calls leave
abbrev AlikeAfter : Step → Step → Type 0
AlikeAfter r q = Alike r.after q.after

module _ (i : ℕ) (s : Shared) (o : Outbox) (a b : Inbox) (f : Freer a b) where
  -- a change of mode or format
  changes_alike : (t : Shared) (tick : ℕ) → AlikeAfter (changes t tick i (box s a o)) (changes t tick i (box s b o))
  changes_alike t tick =
      both AlikeAfter (good_shared t)
      (alike t o _ _ (freer_arrival i (event_of t.site 5 tick no_message) a b f t)) (alike s o a b f)

  -- the same call on the device
  does_alike : (x : DeviceCall) → AlikeAfter (does i x (box s a o)) (does i x (box s b o))
  unfolding does
  does_alike (raise code tick m) =
      both AlikeAfter (eqb (frame_refusal code m) 0)
      (alike s o _ _ (freer_arrival i (event_of s.site code tick m) a b f s)) (alike s o a b f)
  does_alike (set_mode mode tick) = changes_alike _ tick
  does_alike (set_format format tick) = changes_alike _ tick
  does_alike (set_site site) = both AlikeAfter (good_site site) (alike _ o a b f) (alike s o a b f)

  -- the same call
  step_same : (room : ℕ) (x : Call) → AlikeAfter (step i room x (box s a o)) (step i room x (box s b o))
  unfolding step
  step_same room (on_device x) = does_alike x
  step_same room (on_receive x) = alike s o _ _ (freer_receives x room s a b f)
  step_same room (on_send x) = alike s (posts x s o).outbox _ _ (freer_noted s i (posts x s o).raises a b f)
  step_same room (on_align x) = alike s o a b f

-- the same call on both
pub step_alike : (i room : ℕ) (x : Call) (b c : Box) → Alike b c → AlikeAfter (step i room x b) (step i room x c)
step_alike i room x b c l =
    subst₂ (λ (s : Shared) (o : Outbox). AlikeAfter (step i room x b) (step i room x (box s c.inbox o)))
    l.shared l.outbox
    (step_same i b.shared b.outbox b.inbox c.inbox l.inbox room x)

-- the same calls on both
pub run_alike : (i : ℕ) (xs : List Asked) (b c : Box) → Alike b c → Alike (run i xs b) (run i xs c)
unfolding run
run_alike i [] b c l = l
run_alike i (x ∷ xs) b c l = run_alike (i + 1) xs _ _ (step_alike i x.room x.call b c l)

-- fresh boxes
pub fresh_alike : (s : Settings) (c d : ℕ) → c ≤ d → Alike (fresh (with_places s c)) (fresh (with_places s d))
fresh_alike s c d h = alike _ _ _ _ (record { tuned = (refl, refl, h); free = omega arith; within = none })

-- THEOREM. A larger queue has recorded everything, in order, that a smaller one has, apart from lost counts
pub larger : (s : Settings) (c d : ℕ) → c ≤ d → (xs : List Asked)
    → Within (run 0 xs (fresh (with_places s c))).inbox (run 0 xs (fresh (with_places s d))).inbox
larger s c d h xs = (run_alike 0 xs _ _ (fresh_alike s c d h)).inbox.within

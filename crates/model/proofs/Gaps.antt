-- Exactly which events are recorded; every gap has a certain count; the number of a raise tells what became of its
-- event.
use Prim.Native.Nat.{ℕ, ◌+◌, min}
use mathlib.Core.Path.{◌≡◌, refl, sym}
use mathlib.Core.Bool.{Bool, true, false, not, ◌&&◌}
use mathlib.Core.List.{List, [], ◌∷◌, ◌++◌, append_assoc, append-nil}
use native.Mathlib.Omega.{arith}
use lib.ListN.{length}
use lib.Dec.{ltb, eqb}
use Rattle.common.specs.Choice.{pick}
use Rattle.common.proofs.Bools.{apart}
use Rattle.common.proofs.Choices.{by_test, pick_is}
use Rattle.filters.specs.EventMask.{mask_lets}
use Rattle.events.specs.Records.{code_of, stamped}
use Rattle.events.specs.Raised.{frame_refusal, event_of, filtered}
use Rattle.events.specs.declared.Event.{Event}
use Rattle.messages.specs.declared.Message.{Message}
use Rattle.settings.specs.declared.Shared.{Shared}
use Rattle.settings.specs.declared.Settings.{Settings}
use Rattle.model.specs.Inbox.{keeps, Inbox, recording, losing, meets, arrival}
use Rattle.model.specs.Box.{Box, fresh, Step, raise, does, on_device, step, Asked, run}
use Rattle.model.specs.Promised.{recorded, nothing, kept, lost, GapsCounted, RaiseTold}
use Rattle.model.proofs.Lasting.{arrival_is, Lasting, run_keeps}
use Rattle.model.proofs.Recorded.{one_more_lem, recorded_one, recorded_same}
use Rattle.model.proofs.Numbers.{frame_number}

-- ---- which events are recorded

module _ (s : Shared) (i : ℕ) (e : Event) (b : Inbox) where
  -- THEOREM. An event past filter and mask is recorded, behind all others and with the pending count,
  -- where a place is free, and else lost
  pub recorded_exactly : filtered s.mode s.align b.filter e ≡ false
      → mask_lets b.mask (code_of e.kind) ≡ true
      → recorded (arrival s i e b).inbox
      ≡ recorded b ++ pick (ltb (length b.queue) b.places) (keeps i (stamped e b.pending) ∷ []) []
  unfolding arrival
  recorded_exactly f m =
      rw (f, m)
      (by_test (ltb (length b.queue) b.places)
      (λ z. rw z (sym (append_assoc b.read b.queue (keeps i (stamped e b.pending) ∷ []))))
      (λ z. rw z (sym (append-nil (recorded b)))))

  -- THEOREM. An event that filter or mask turns away leaves the channel as it was: it is not lost and not counted
  pub turned_away : (not (filtered s.mode s.align b.filter e) && mask_lets b.mask (code_of e.kind)) ≡ false
      → (arrival s i e b).inbox ≡ b
  unfolding arrival
  turned_away h = by (filtered s.mode s.align b.filter e) (mask_lets b.mask (code_of e.kind)) h
    where
      by : (f m : Bool) → (not f && m) ≡ false
          → (pick f (meets 101 b) (pick m (pick (ltb (length b.queue) b.places) (meets 100 (recording i e b))
          (meets 103 (losing i e b))) (meets 102 b))).inbox
          ≡ b
      by true m h = refl
      by false false h = refl
      by false true h = absurd (apart h)

-- ---- gaps

-- an event is recorded, with the number lost since the last that was
gaps_recorded : (i : ℕ) (e : Event) (b : Inbox) → GapsCounted b → GapsCounted (recording i e b)
gaps_recorded i e b g = record {
  since = 0;
  gaps =
      rw (g.pending, ← (append_assoc b.read b.queue (keeps i (stamped e (min g.since 4294967295)) ∷ [])))
      (kept i e g.gaps);
  pending = omega arith;
}

-- whatever happens to the channel
gaps_last : Lasting GapsCounted
gaps_last = record {
  recorded = λ i e b room g. gaps_recorded i e b g;
  lost = λ i e b full g.
      record { since = g.since + 1; gaps = lost i e g.gaps; pending = omega (arith, g.pending) };
  read = λ k rest b q g.
      record { since = g.since; gaps = rw (recorded_same k rest b q) g.gaps; pending = g.pending };
  filter = λ code mask b g. record { since = g.since; gaps = g.gaps; pending = g.pending };
  mask = λ mask b g. record { since = g.since; gaps = g.gaps; pending = g.pending };
}

-- THEOREM. After any calls: each lost count is the number of events lost since the last recorded, up to 4,294,967,295
pub gaps_counted : (s : Settings) (xs : List Asked) → GapsCounted (run 0 xs (fresh s)).inbox
gaps_counted s xs =
    run_keeps GapsCounted gaps_last 0 xs (fresh s) (record { since = 0; gaps = nothing; pending = refl })

-- ---- what a raise tells

-- a number that tells neither
abbrev Neither : ℕ → Type 0
Neither n = (eqb n 100 ≡ false) × (eqb n 103 ≡ false)

-- it is told where the channel stays
tells_neither : (b : Inbox) (n : ℕ) → Neither n → RaiseTold n b b
tells_neither b n h = record { recorded_is = rw h.0 (omega arith); arrived_is = rw (h.0, h.1) (omega arith) }

-- THEOREM. A raise that answers 100 has one more recorded; 103, one more has arrived and is lost; else neither
pub raise_told : (i room code tick : ℕ) (m : Message) (b : Box)
    → let r : Step = step i room (on_device (raise code tick m)) b in
    RaiseTold r.said.number b.inbox r.after.inbox
unfolding step does
raise_told i room code tick m b =
    pick_is (λ (r : Step). RaiseTold r.said.number b.inbox r.after.inbox) (eqb (frame_refusal code m) 0)
    (λ h. arrival_is (λ r. RaiseTold r.number b.inbox r.inbox) b.shared i e b.inbox
    (tells_neither b.inbox 101 (refl, refl)) (tells_neither b.inbox 102 (refl, refl))
    (λ room. record { recorded_is = recorded_one i e b.inbox; arrived_is = one_more_lem _ b.inbox.arrived })
    (λ full. record { recorded_is = omega arith; arrived_is = one_more_lem _ b.inbox.arrived }))
    (λ h. tells_neither b.inbox (frame_refusal code m)
    (frame_number Neither code m (refl, refl) (refl, refl) (refl, refl) (refl, refl) (refl, refl)))
  where
    e : Event
    e = event_of b.shared.site code tick m

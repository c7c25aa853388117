-- Every event carries the site that was set last before the call that raised it.
use Prim.Native.Nat.{ℕ, zero, suc, ◌+◌}
use mathlib.Core.Path.{◌≡◌, refl, ap, subst, ◌∙◌}
use mathlib.Core.Bool.{Bool, true, false}
use mathlib.Core.List.{List, [], ◌∷◌}
use native.Mathlib.Nat.{add-zero}
use native.Mathlib.Omega.{arith}
use lib.Dec.{eqb}
use Rattle.std.specs.Prelude.{Option, Some, None}
use Rattle.common.specs.All.{All}
use Rattle.common.proofs.All.{all_append}
use Rattle.common.proofs.Choices.{by_test, pick_is}
use Rattle.sites.specs.Sites.{good_site}
use Rattle.sites.specs.declared.Site.{Site}
use Rattle.messages.specs.declared.Message.{Message}
use Rattle.events.specs.Records.{stamped}
use Rattle.events.specs.Raised.{frame_refusal}
use Rattle.events.specs.declared.Event.{Event}
use Rattle.events.proofs.OfCode.{event_site}
use Rattle.settings.specs.Ranges.{good_shared}
use Rattle.settings.specs.TxMode.{raises_at_take, raises_at_done}
use Rattle.settings.specs.declared.Shared.{Shared}
use Rattle.settings.specs.declared.Settings.{Settings}
use Rattle.model.specs.Inbox.{Kept, keeps, Inbox}
use Rattle.model.specs.Outbox.{Outbox, SendCall, raised_if, aborts, posts}
use Rattle.model.specs.Box.{Box, fresh, Step, DeviceCall, raise, set_mode, set_format, set_site, does, Call}
use Rattle.model.specs.Box.{on_device, on_receive, on_send, on_align, step, Asked, run}
use Rattle.model.specs.Promised.{sets_site, site_after, site_before, Carries, SitesCarried}
use Rattle.model.proofs.Lasting.{IfAny, Turns, step_turns}
use Rattle.model.proofs.Posting.{posts_is}

-- ---- the events that a call raises

-- an event of a site
abbrev Of : Site → Event → Type 0
Of site e = e.site ≡ site

-- what an abort raises
aborts_of : (site : Site) (tick : ℕ) (register : Option Message) → IfAny (Of site) (aborts register site tick)
aborts_of site tick None = tt
aborts_of site tick (Some m) = event_site site 3 tick m

-- a call on the send channel raises an event of the shared site, or none
posts_of : (s : Shared) (o : Outbox) (x : SendCall) → IfAny (Of s.site) (posts x s o).raises
posts_of s o =
    posts_is s o (λ p. IfAny (Of s.site) p.raises)
    (record {
      kept = λ a. tt;
      put_in = λ a m z room. tt;
      taken = λ tick m rest e g. sent_if (raises_at_take o.tx) tick m;
      finished = λ tick m e. sent_if (raises_at_done o.tx) tick m;
      aborted = λ tick. aborts_of s.site tick o.register;
    })
  where
    sent_if : (test : Bool) (tick : ℕ) (m : Message) → IfAny (Of s.site) (raised_if s.site 2 tick m test)
    sent_if true tick m = event_site s.site 2 tick m
    sent_if false tick m = tt

-- ---- one call

-- P holds of every event of a channel: arrived, queued or read
abbrev Every : (Kept → Type 0) → Inbox → Type 0
Every P b = All P b.arrived × All P b.queue × All P b.read

-- a call leaves it so where P holds of its own event
module _ (P : Kept → Type 0) (i : ℕ) (b : Box) (h : Every P b.inbox)
    (new : (e : Event) → Of b.shared.site e → P (keeps i e)) where
  every_turns : Turns i b.inbox (Of b.shared.site) (Every P)
  every_turns = record {
    kept = h;
    recorded = λ e f room. (
      all_append P b.inbox.arrived (keeps i e ∷ []) h.0 (new e f, tt),
      all_append P b.inbox.queue _ h.1 (new (stamped e b.inbox.pending) f, tt),
      h.2,
    );
    lost = λ e f full. (all_append P b.inbox.arrived (keeps i e ∷ []) h.0 (new e f, tt), h.1, h.2);
    read = λ k rest q.
        let held : All P (k ∷ rest) = subst (All P) q h.1 in
        (h.0, held.1, all_append P b.inbox.read (k ∷ []) h.2 (held.0, tt));
    filter = λ code mask. h;
    mask = λ mask. h;
  }

  every_step : (room : ℕ) (x : Call) → Every P (step i room x b).after.inbox
  every_step room x =
      step_turns i b (Of b.shared.site) (Every P) every_turns
      (λ code tick m. event_site b.shared.site code tick m) (posts_of b.shared b.outbox) room x

-- and the site after it is the one that it sets
does_site : (i : ℕ) (x : DeviceCall) (b : Box) → (does i x b).after.shared.site ≡ sets_site x b.shared.site
unfolding does
does_site i x b = by x
  where
    Same : Site → Step → Type 0
    Same site r = r.after.shared.site ≡ site

    by : (x : DeviceCall) → Same (sets_site x b.shared.site) (does i x b)
    by (raise code tick m) = pick_is (Same _) (eqb (frame_refusal code m) 0) (λ h. refl) (λ h. refl)
    by (set_mode mode tick) = pick_is (Same _) (good_shared _) (λ h. refl) (λ h. refl)
    by (set_format format tick) = pick_is (Same _) (good_shared _) (λ h. refl) (λ h. refl)
    by (set_site site) = by_test (good_site site) (λ h. rw h) (λ h. rw h)

step_site : (i room : ℕ) (x : Call) (b : Box) → (step i room x b).after.shared.site ≡ site_after x b.shared.site
unfolding step
step_site i room (on_device x) b = does_site i x b
step_site i room (on_receive x) b = refl
step_site i room (on_send x) b = refl
step_site i room (on_align x) b = refl

-- ---- any calls

-- P holds after calls from index i on where it holds of events that carry the site set last before their call
every_run : (P : Kept → Type 0) (xs : List Asked) (i : ℕ) (b : Box) → Every P b.inbox
    → ((j : ℕ) (e : Event) → e.site ≡ site_before j xs b.shared.site → P (keeps (i + j) e))
    → Every P (run i xs b).inbox
unfolding run
every_run P [] i b h new = h
every_run P (x ∷ xs) i b h new =
    every_run P xs (i + 1) _
    (every_step P i b h (λ e f. subst (λ (n : ℕ). P (keeps n e)) (add-zero i) (new zero e f)) x.room x.call)
    (λ j e f.
    let n : i + suc j ≡ i + 1 + j = omega arith in
    subst (λ (n : ℕ). P (keeps n e)) n
    (new (suc j) e (f ∙ ap (site_before j xs) (step_site i x.room x.call b))))

-- THEOREM. After any calls, every event that has arrived and every event recorded carries the site that was set last
-- before the call that raised it
pub sites_carried : (s : Settings) (xs : List Asked) → SitesCarried xs s.site (run 0 xs (fresh s)).inbox
sites_carried s xs =
    let P = Carries xs s.site in
    let r = every_run P xs 0 (fresh s) (tt, tt, tt) (λ j e f. subst (λ (n : ℕ). P (keeps n e)) (from_zero j) f) in
    let b = (run 0 xs (fresh s)).inbox in
    (r.0, all_append P b.read b.queue r.2 r.1)
  where
    from_zero : (j : ℕ) → j ≡ 0 + j
    from_zero j = omega arith

-- THEOREM. set_site changes nothing in the receive channel, no queued event either, and nothing in the send channel
pub site_leaves : (i room : ℕ) (site : Site) (b : Box)
    → let r : Step = step i room (on_device (set_site site)) b in
    (r.after.inbox ≡ b.inbox) × (r.after.outbox ≡ b.outbox)
unfolding step does
site_leaves i room site b =
    pick_is (λ (r : Step). (r.after.inbox ≡ b.inbox) × (r.after.outbox ≡ b.outbox)) (good_site site)
    (λ h. (refl, refl)) (λ h. (refl, refl))

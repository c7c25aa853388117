-- Raising, the changes of mode and format, and the prints answer and leave what the model says.
use Prim.Native.Nat.{ℕ}
use mathlib.Core.Path.{◌≡◌, refl}
use mathlib.Core.Bool.{true}
use mathlib.Core.List.{List, []}
use native.Mathlib.Omega.{arith}
use lib.ListN.{length}
use lib.Dec.{eqb}
use borrow.Author.Tests.{eqb-true}
use Rattle.common.proofs.Choices.{by_test}
use Rattle.messages.specs.Records.{no_message}
use Rattle.events.specs.Records.{holds_frame}
use Rattle.events.specs.Raised.{event_of, frame_refusal}
use Rattle.messages.specs.declared.Message.{Message}
use Rattle.sites.specs.Sites.{good_site}
use Rattle.sites.specs.declared.Site.{Site}
use Rattle.settings.proofs.Laws.{site_in_range, site_set_good}
use Rattle.settings.specs.Ranges.{good_shared, with_mode, with_format, with_site}
use Rattle.settings.specs.declared.Shared.{Shared}
use Rattle.queue.specs.Channel.{queue_fits}
use Rattle.inbox.specs.Refusals.{ready, raise_refusal}
use Rattle.inbox.specs.Calls as Queue
use Rattle.buffer.specs.Channel.{good_send}
use Rattle.device.specs.State.{good, with_shared}
use Rattle.device.specs.Outcomes.{Lent, lends, ends}
use Rattle.recorder.specs.Receiving.{raised}
use Rattle.recorder.specs.Changes.{changed, site_set}
use Rattle.recorder.specs.Printing.{line_printed}
use Rattle.device.specs.declared.Device.{Device}
use Rattle.model.specs.Said.{says}
use Rattle.model.specs.Inbox.{Inbox}
use Rattle.model.specs.Outbox.{Outbox}
use Rattle.model.specs.Box.{box, steps, DeviceCall, raise, set_mode, set_format, set_site, changes, does, PrintCall}
use Rattle.model.specs.Box.{print_message_record, print_event_record, print_message, line_said, shows, Call, on_device}
use Rattle.model.specs.Box.{on_align, step}
use Rattle.promises.specs.Typed.{Word, TypedDevice}
use Rattle.promises.specs.Calls.{outcome}
use Rattle.promises.specs.Stands.{Stands}
use Rattle.promises.proofs.Sound.{event_sound}
use Rattle.promises.proofs.Agreeing.{arrival_is, device_possible, send_possible, inbox_ready, Agrees}
use Rattle.promises.proofs.Agreeing.{agree_ways, notes, told}

module _ (d : Device) (q t out : List ℕ) (i : ℕ) (b : Inbox) (o : Outbox) (h : Stands d q t (box d.shared b o)) where
  abbrev l : Lent
  l = lends q t out

  -- what is asked of every call
  abbrev Doing : Call → Type 0
  Doing x = Agrees (outcome x d l) out (step i (length out) x (box d.shared b o))

  possible : good d ≡ true
  possible = device_possible d q t (box d.shared b o) h

  long : queue_fits d.receive (length q) ≡ true
  long = h.inbox.events.long

  sends : good_send d.send ≡ true
  sends = send_possible d.send t o h.outbox

  prepared : ready d.shared d.receive (length q) ≡ true
  prepared = inbox_ready d q t (box d.shared b o) h

  -- a raise answers what its event meets
  raise_is : (code tick : ℕ) (m : Message) → TypedDevice (raise code tick m) → Doing (on_device (raise code tick m))
  unfolding outcome raised Queue.raised raise_refusal step does
  raise_is code tick m ty =
      rw (sends, prepared)
      (by_test (eqb (frame_refusal code m) 0)
      (λ z. rw z (
      let g = site_in_range d.shared h.possible in
      let f = eqb-true (frame_refusal code m) 0 z in
      let s = event_sound d.shared.site tick m g ty.1 ty.2.eight code ty.0 f in
      let e = arrival_is d.receive q b h.inbox d.shared i (event_of d.shared.site code tick m) s in (
        record { number = e.0; value = refl; bytes = refl; line = refl },
        record { possible = h.possible; shared = refl; inbox = e.1; outbox = h.outbox },
      )))
      (λ z. rw z (told (says (frame_refusal code m)) d q t out, h)))

  -- a change of the shared settings
  change_is : (s : Shared) (tick : ℕ) → Word tick
      → Agrees (changed s tick d l) out (changes s tick i (box d.shared b o))
  unfolding changed
  change_is s tick ty =
      rw (possible, long)
      (agree_ways (good_shared s) out
      (λ z.
      notes (event_of s.site 5 tick no_message) i (ends 0 0 [] (with_shared d s) l) out (says 0) (box s b o)
      (event_sound s.site tick no_message (site_in_range s z) ty refl 5 (omega arith) (unfold holds_frame in refl)) (
        told (says 0) (with_shared d s) q t out,
        record { possible = z; shared = refl; inbox = h.inbox; outbox = h.outbox },
      ))
      (λ z. (told (says 1) d q t out, h)))

  -- another site: nothing is raised
  site_is : (site : Site) → Doing (on_device (set_site site))
  unfolding outcome site_set step does
  site_is site =
      rw possible
      (agree_ways (good_site site) out
      (λ z. (
        told (says 0) (with_shared d (with_site d.shared site)) q t out,
        record {
          possible = site_set_good d.shared h.possible site z;
          shared = refl;
          inbox = h.inbox;
          outbox = h.outbox;
        },
      ))
      (λ z. (told (says 1) d q t out, h)))

  -- every call on the device
  pub device_agrees : (x : DeviceCall) → TypedDevice x → Doing (on_device x)
  unfolding outcome step does
  device_agrees (raise code tick m) ty = raise_is code tick m ty
  device_agrees (set_mode mode tick) ty =
      change_is (with_mode d.shared mode) tick ty.1
  device_agrees (set_format format tick) ty =
      change_is (with_format d.shared format) tick ty.1
  device_agrees (set_site site) ty = site_is site

  -- a line, or its refusal
  print_is : (n : ℕ) (line : List ℕ)
      → Agrees (line_printed n line d l) out (steps (line_said n line) (box d.shared b o))
  unfolding line_printed
  print_is n line =
      rw possible (by_test (eqb n 0) (λ z. rw z (told _ _ _ _ _, h)) (λ z. rw z (told (says n) d q t out, h)))

  -- every call that prints
  pub print_agrees : (x : PrintCall) → Doing (on_align x)
  unfolding outcome step shows
  print_agrees (print_message_record s) = print_is _ _
  print_agrees (print_event_record s) = print_is _ _
  print_agrees (print_message m) = print_is _ _

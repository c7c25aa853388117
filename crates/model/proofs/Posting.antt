-- The ways a call on a send channel can go: all stays, a message is put in or taken, the register or all is emptied.
use Prim.Native.Nat.{ℕ, ◌+◌, ◌<◌}
use mathlib.Core.Path.{◌≡◌, refl}
use mathlib.Core.List.{List, [], ◌∷◌, ◌++◌, map}
use lib.ListN.{length}
use lib.Dec.{ltb, eqb}
use borrow.Author.Tests.{ltb-true}
use Rattle.std.specs.Prelude.{Option, Some, None, Result, Ok, Err}
use Rattle.common.specs.declared.refusals.Refusal.{Refusal}
use Rattle.common.proofs.Choices.{pick_is}
use Rattle.messages.specs.Records.{message_size}
use Rattle.events.specs.Raised.{frame_refusal}
use Rattle.messages.specs.declared.Message.{Message}
use Rattle.message_text.specs.Reading.{read_message}
use Rattle.message_text.specs.declared.Said.{Said as TextSaid}
use Rattle.settings.specs.Ranges.{good_shared, format_of}
use Rattle.settings.specs.Binary.{binary_refusal, sent_message}
use Rattle.sites.specs.Sites.{good_site}
use Rattle.sites.specs.declared.Site.{Site}
use Rattle.settings.specs.declared.Shared.{Shared}
use Rattle.model.specs.Said.{Said, says, says_zeros, counts}
use Rattle.model.specs.Outbox.{purged, Outbox, holding, SendCall, send, send_text, take, done, abort, Posted}
use Rattle.model.specs.Outbox.{posted, put, put_text, takes, takes_into, finishes, aborts, posts}
use Rattle.model.specs.Box.{Box, Step, DeviceCall, raise, set_mode, set_format, set_site, does, Call, on_device}
use Rattle.model.specs.Box.{on_receive, on_send, on_align, step, Asked, run}

-- Q holds of each way that a call on channel o can go, at a site
pub record Ways (site : Site) (o : Outbox) (Q : Posted → Type 0) : Type 0 where
  pub kept : (a : Said) → Q (posted a o None)
  pub put_in : (a : Said) (m : Message) → a.number ≡ 0 → length o.buffer < o.places
      → Q (posted a (holding o (o.buffer ++ m ∷ []) o.register (o.sent ++ m ∷ []) o.gone) None)
  pub taken : (tick : ℕ) (m : Message) (rest : List Message) → o.register ≡ None → o.buffer ≡ m ∷ rest
      → Q (takes site tick (m ∷ rest) o)
  pub finished : (tick : ℕ) (m : Message) → o.register ≡ Some m → Q (finishes (Some m) site tick o)
  pub aborted : (tick : ℕ)
      → Q (posted (counts (length o.buffer)) (holding o [] None o.sent (o.gone ++ map purged o.buffer))
      (aborts o.register site tick))

module _ (s : Shared) (o : Outbox) (Q : Posted → Type 0) (w : Ways s.site o Q) where
  -- a message is put in where there is a place
  put_is : (a : Said) (m : Message) → a.number ≡ 0 → Q (put a m o)
  put_is a m z =
      pick_is Q (ltb (length o.buffer) o.places) (λ h. w.put_in a m z (ltb-true _ _ h)) (λ h. w.kept (says 5))

  -- what a text says
  text_is : (said : Result Message Refusal) (used : ℕ) → Q (put_text (record { said = said; used = used }) o)
  text_is (Ok m) used = put_is (counts used) m refl
  text_is (Err why) used = w.kept _

  -- the oldest is taken, if there is one
  oldest_is : (tick : ℕ) (ms : List Message) → o.register ≡ None → o.buffer ≡ ms → Q (takes s.site tick ms o)
  oldest_is tick [] e g = w.kept (says_zeros message_size 4)
  oldest_is tick (m ∷ rest) e g = w.taken tick m rest e g

  -- take
  take_is : (tick : ℕ) (register : Option Message) → o.register ≡ register → Q (takes_into register s.site tick o)
  take_is tick None e = oldest_is tick o.buffer e refl
  take_is tick (Some m) e = w.kept (says_zeros message_size 5)

  -- done
  done_is : (tick : ℕ) (register : Option Message) → o.register ≡ register → Q (finishes register s.site tick o)
  done_is tick None e = w.kept (says 4)
  done_is tick (Some m) e = w.finished tick m e

  -- what holds of each way holds of every call
  pub posts_is : (x : SendCall) → Q (posts x s o)
  unfolding posts
  posts_is (send m) =
      pick_is Q (eqb (binary_refusal s m) 0)
      (λ h. put_is (says 0) (sent_message s m) refl) (λ h. w.kept (says (binary_refusal s m)))
  posts_is (send_text text) =
      let r : TextSaid = read_message s.align (format_of s s.format) text in
      text_is r.said r.used
  posts_is (take tick) = take_is tick o.register refl
  posts_is (done tick) = done_is tick o.register refl
  posts_is (abort tick) = w.aborted tick

-- ---- what every way leaves true, every call and every sequence of calls leaves true

-- a call on the device leaves the send channel
does_outbox : (i : ℕ) (x : DeviceCall) (b : Box) → (does i x b).after.outbox ≡ b.outbox
unfolding does
does_outbox i x b = by x
  where
    Same : Step → Type 0
    Same r = r.after.outbox ≡ b.outbox

    by : (x : DeviceCall) → Same (does i x b)
    by (raise code tick m) = pick_is Same (eqb (frame_refusal code m) 0) (λ h. refl) (λ h. refl)
    by (set_mode mode tick) = pick_is Same (good_shared _) (λ h. refl) (λ h. refl)
    by (set_format format tick) = pick_is Same (good_shared _) (λ h. refl) (λ h. refl)
    by (set_site site) = pick_is Same (good_site site) (λ h. refl) (λ h. refl)

module _ (P : Outbox → Type 0) (w : (site : Site) (o : Outbox) → P o → Ways site o (λ p. P p.outbox)) where
  -- every call
  pub sends_keep : (i room : ℕ) (x : Call) (b : Box) → P b.outbox → P (step i room x b).after.outbox
  unfolding step
  sends_keep i room (on_device x) b p = rw (does_outbox i x b) p
  sends_keep i room (on_receive x) b p = p
  sends_keep i room (on_send x) b p =
      posts_is b.shared b.outbox (λ q. P q.outbox) (w b.shared.site b.outbox p) x
  sends_keep i room (on_align x) b p = p

  -- every sequence of calls
  pub sends_run : (i : ℕ) (xs : List Asked) (b : Box) → P b.outbox → P (run i xs b).outbox
  unfolding run
  sends_run i [] b p = p
  sends_run i (x ∷ xs) b p =
      sends_run (i + 1) xs (step i x.room x.call b).after (sends_keep i x.room x.call b p)

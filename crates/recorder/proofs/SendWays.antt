-- The event that a call on the send channel raises, carried to the queue.
use mathlib.Core.Path.{◌≡◌, refl, ◌∙◌}
use mathlib.Core.Bool.{Bool, true, false}
use mathlib.Core.List.{List}
use Prim.Native.Nat.{ℕ}
use Rattle.std.specs.Prelude.{Option, Some, None}
use Rattle.common.specs.Choice.{pick}
use Rattle.messages.specs.declared.Message.{Message}
use Rattle.events.specs.Raised.{event_of}
use Rattle.events.specs.declared.Raise.{Raise}
use Rattle.settings.specs.declared.Shared.{Shared}
use Rattle.queue.specs.declared.Receive.{Receive}
use Rattle.inbox.proofs.Laws.{no_filter}
use Rattle.outbox.specs.Calls as Outbox
use Rattle.outbox.proofs.Laws.{Other}
use Rattle.buffer.specs.declared.Send.{Send}
use Rattle.device.specs.State.{with_send}
use Rattle.device.specs.Outcomes.{Lent, Outcome}
use Rattle.recorder.specs.Outcomes.{noted, QueueMet}
use Rattle.recorder.specs.Sending.{lifted}
use Rattle.recorder.specs.Register.{carried_over, carried_past, Carried, carrying}
use Rattle.device.specs.declared.Device.{Device}
use Rattle.recorder.proofs.Ready.{other_code}

-- an event of another code than 1 is carried over past the filter
pub carried_past_lem : (e : Option Raise) (h : Shared) (r : Receive) (q : List ℕ) → Other e
    → carried_over e h r q ≡ carried_past e h.site r q
carried_past_lem None h r q other = refl
carried_past_lem (Some e) h r q other =
    no_filter h r (event_of h.site e.code e.tick e.frame) q (other_code h.site e.code e.tick e.frame other)

-- the receive side was judged, and the outbox has answered o
module _ (o : Outbox.Outcome) (d : Device) (l : Lent) (w : Outcome) {ok : Bool} (z : ok ≡ true) {n : ℕ} (k : n ≡ o.number)
    {s : Send} (m : s ≡ o.send) where
  -- refused: nothing is raised
  pub carrying_refused : o.raised ≡ None → QueueMet (pick ok (carrying o d l) w) n (with_send d s) l.queue
  carrying_refused e = rw (z, e) (record { leaves = record { number = k; device = rw m }; queue_bytes = refl })

  -- not refused: the event, if any, went past the filter
  pub carrying_done : Other o.raised → {e : Option Raise} → e ≡ o.raised → {x : Device} {q : List ℕ}
      → Carried (with_send d s) (carried_past e d.shared.site d.receive l.queue) x q
      → QueueMet (pick ok (carrying o d l) w) n x q
  carrying_done other e a =
      let past = carried_past_lem o.raised d.shared d.receive l.queue other in
      rw (z, past) (record {
        leaves = record { number = k; device = a.device ∙ rw (m, e) };
        queue_bytes = a.queue_bytes ∙ rw e;
      })

-- an event that the outbox raises where a test holds is one raised beside the answer
pub carries_as : (test : Bool) (code tick : ℕ) (m : Message)
    → (n v : ℕ) (b : List ℕ) (s : Send) (t : List ℕ) (d : Device) (l : Lent)
    → let o : Outbox.Outcome = Outbox.ends n v b s t (Outbox.raised_if test code tick m) in
    carrying o d l ≡ pick test (noted (event_of d.shared.site code tick m) (lifted o d l)) (lifted o d l)
unfolding noted
carries_as true code tick m n v b s t d l = refl
carries_as false code tick m n v b s t d l = refl

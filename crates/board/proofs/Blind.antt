-- What a call is not lent it does not see, and leaves.
use mathlib.Core.Path.{◌≡◌, refl}
use mathlib.Core.Bool.{Bool, true, false}
use mathlib.Core.List.{List, []}
use Prim.Native.Nat.{ℕ}
use lib.Dec.{eqb}
use Rattle.common.specs.Choice.{pick}
use Rattle.messages.specs.declared.Message.{Message}
use Rattle.settings.specs.Ranges.{good_shared}
use Rattle.settings.specs.declared.Shared.{Shared}
use Rattle.queue.specs.Channel.{good_receive, usable}
use Rattle.inbox.specs.Refusals.{record_refusal, filter_refusal, mask_refusal, through_refusal}
use Rattle.inbox.specs.Calls as Inbox
use Rattle.buffer.specs.Channel.{good_send}
use Rattle.outbox.specs.Refusals.{done_refusal, abort_refusal}
use Rattle.outbox.specs.Calls as Outbox
use Rattle.sites.specs.Sites.{good_site}
use Rattle.sites.specs.declared.Site.{Site}
use Rattle.device.specs.State.{good}
use Rattle.device.specs.Outcomes.{Lent, Outcome, refuses}
use Rattle.recorder.specs.Outcomes.{queue_ready, noted}
use Rattle.recorder.specs.Receiving.{lifted, on_receiving, raised, record_read, text_read, look_said, through}
use Rattle.recorder.specs.Changes.{changed, site_set, filter_set, event_mask_set}
use Rattle.recorder.specs.Register.{carrying, taken, finished, aborted}
use Rattle.recorder.specs.Sending.{sent, text_sent}
use Rattle.recorder.specs.Printing.{line_printed}
use Rattle.device.specs.declared.Device.{Device}
use Rattle.model.specs.Inbox.{read_record, read_text, look, set_filter, set_event_mask, identifiers_through}
use Rattle.model.specs.Outbox.{send, send_text, take, done, abort}
use Rattle.model.specs.Box.{raise, set_mode, set_format, set_site, print_message_record, print_event_record, print_message}
use Rattle.model.specs.Box.{Call, on_device, on_receive, on_send, on_align}
use Rattle.promises.specs.Calls.{outcome}
use Rattle.board.specs.Board.{Borrows, borrows, borrowed, lent_to, whole}

-- a choice, each of whose ways is blind
both : (f : Outcome → Outcome) (c : Bool) {a b u v : Outcome} → f a ≡ u → f b ≡ v → f (pick c a b) ≡ pick c u v
both f true x y = x
both f false x y = y

-- an outcome of the outbox with another message table
abbrev on_table_of : Outbox.Outcome → List ℕ → Outbox.Outcome
on_table_of o t = Outbox.ends o.number o.value o.bytes o.send t o.raised

module _ (d : Device) (l : Lent) where
  -- an outcome over what a call is lent is the outcome over everything
  abbrev Blind : Borrows → (Lent → Outcome) → Type 0
  Blind v o = whole v l (o (lent_to v l)) ≡ o l

  -- ---- the calls that see the event table

  -- lent the event table
  abbrev on_queue : Borrows
  on_queue = borrows true false false

  abbrev Q : Outcome → Outcome
  Q o = whole on_queue l o

  -- a change of mode or format
  changed_blind : (s : Shared) (tick : ℕ) → Blind on_queue (changed s tick d)
  unfolding changed noted
  changed_blind s tick = both Q (queue_ready d l) (both Q (good_shared s) refl refl) refl

  -- a raise
  raised_blind : (code tick : ℕ) (m : Message) → Blind on_queue (raised code tick m d)
  unfolding raised
  raised_blind code tick m = both Q (good_send d.send) refl refl

  -- a choice of what the inbox answers
  either : (v : Borrows) (c : Bool) (a b : Inbox.Outcome) → Blind v (lifted a d) → Blind v (lifted b d)
      → Blind v (lifted (pick c a b) d)
  either v true a b x y = x
  either v false a b x y = y

  -- a read as bytes
  record_blind : Blind on_queue (record_read d)
  unfolding record_read Inbox.record_read
  record_blind =
      let n = record_refusal d.shared d.receive l.queue in
      both Q (good_send d.send) (either on_queue (eqb n 0) _ _ refl refl) refl

  -- the register is emptied, or not: the message table stays
  emptied_blind : (n : ℕ) (effect : List ℕ → Outbox.Outcome) → ((t : List ℕ) → effect t ≡ on_table_of (effect []) t)
      → Blind on_queue (λ m. carrying (Outbox.settled n 0 [] d.send m.send (effect m.send)) d m)
  emptied_blind n effect e = by (eqb n 0)
    where
      by : (c : Bool)
          → Q (carrying (pick c (effect []) (Outbox.refused n 0 [] d.send [])) d (lent_to on_queue l))
          ≡ carrying (pick c (effect l.send) (Outbox.refused n 0 [] d.send l.send)) d l
      by true = rw (e l.send)
      by false = refl

  -- done
  done_blind : (tick : ℕ) → Blind on_queue (finished tick d)
  unfolding finished Outbox.finished
  done_blind tick =
      both Q (usable d.receive l.queue)
      (emptied_blind (done_refusal d.shared d.send) (Outbox.finishes d.send tick) (λ t. refl)) refl

  -- abort
  abort_blind : (tick : ℕ) → Blind on_queue (aborted tick d)
  unfolding aborted Outbox.aborted
  abort_blind tick =
      both Q (usable d.receive l.queue)
      (emptied_blind (abort_refusal d.shared d.send) (Outbox.aborts d.send tick) (λ t. refl)) refl

  -- ---- and the output buffer, or the message table

  -- a read as text: the event table and the buffer
  text_blind : Blind (borrows true false true) (text_read d)
  unfolding text_read
  text_blind = both (λ o. whole (borrows true false true) l o) (good_send d.send) refl refl

  -- take: both tables
  take_blind : (tick : ℕ) → Blind (borrows true true false) (taken tick d)
  unfolding taken
  take_blind tick = both (λ o. whole (borrows true true false) l o) (usable d.receive l.queue) refl refl

  -- ---- the calls that see the message table

  -- lent the message table
  abbrev on_table : Borrows
  on_table = borrows false true false

  abbrev S : Outcome → Outcome
  S o = whole on_table l o

  -- a binary send
  send_blind : (m : Message) → Blind on_table (sent m d)
  unfolding sent
  send_blind m = both S (good_receive d.receive) refl refl

  -- a text send
  send_text_blind : (text : List ℕ) → Blind on_table (text_sent text d)
  unfolding text_sent
  send_text_blind text = both S (good_receive d.receive) refl refl

  -- ---- the calls that see the output buffer, or nothing lent

  -- a line is printed: the buffer
  print_blind : (n : ℕ) (line : List ℕ) → Blind (borrows false false true) (line_printed n line d)
  unfolding line_printed
  print_blind n line =
      let f : Outcome → Outcome = λ o. whole (borrows false false true) l o in
      both f (good d) (both f (eqb n 0) refl refl) refl

  -- a call on the receive channel that is lent nothing, or not refused
  unlent : (v : Borrows) (c : Bool) (a b : Inbox.Outcome) → Blind v (lifted a d) → Blind v (lifted b d)
      → Blind v (refuses 2 d) → Blind v (on_receiving (pick c a b) d)
  unlent v c a b x y z = both (λ o. whole v l o) (good_send d.send) (either v c a b x y) z

  -- another site
  site_blind : (site : Site) → Blind (borrows false false false) (site_set site d)
  unfolding site_set
  site_blind site =
      let f : Outcome → Outcome = λ o. whole (borrows false false false) l o in
      both f (good d) (both f (good_site site) refl refl) refl

  -- a change of the filter
  filter_blind : (code mask : ℕ) → Blind (borrows false false false) (filter_set code mask d)
  unfolding filter_set Inbox.filter_set
  filter_blind code mask =
      unlent (borrows false false false) (eqb (filter_refusal d.shared d.receive) 0) _ _ refl refl refl

  -- a change of the event mask
  mask_blind : (mask : ℕ) → Blind (borrows false false false) (event_mask_set mask d)
  unfolding event_mask_set Inbox.event_mask_set
  mask_blind mask =
      unlent (borrows false false false) (eqb (mask_refusal d.shared d.receive mask) 0) _ _ refl refl refl

  -- the identifiers let through
  through_blind : (format : ℕ) → Blind (borrows false false false) (through format d)
  unfolding through Inbox.through
  through_blind format =
      unlent (borrows false false false) (eqb (through_refusal d.shared d.receive format) 0) _ _ refl refl refl

-- THEOREM. A call sees nothing of what it is not lent, and leaves it
pub blind : (x : Call) (d : Device) (l : Lent)
    → whole (borrowed x) l (outcome x d (lent_to (borrowed x) l)) ≡ outcome x d l
unfolding outcome borrowed look_said
blind (on_device (raise code tick m)) d l = raised_blind d l code tick m
blind (on_device (set_mode mode tick)) d l = changed_blind d l _ tick
blind (on_device (set_format format tick)) d l = changed_blind d l _ tick
blind (on_device (set_site site)) d l = site_blind d l site
blind (on_receive read_record) d l = record_blind d l
blind (on_receive read_text) d l = text_blind d l
blind (on_receive (look p)) d l = refl
blind (on_receive (set_filter code mask)) d l = filter_blind d l code mask
blind (on_receive (set_event_mask mask)) d l = mask_blind d l mask
blind (on_receive (identifiers_through format)) d l = through_blind d l format
blind (on_send (send m)) d l = send_blind d l m
blind (on_send (send_text text)) d l = send_text_blind d l text
blind (on_send (take tick)) d l = take_blind d l tick
blind (on_send (done tick)) d l = done_blind d l tick
blind (on_send (abort tick)) d l = abort_blind d l tick
blind (on_align (print_message_record s)) d l = print_blind d l _ _
blind (on_align (print_event_record s)) d l = print_blind d l _ _
blind (on_align (print_message m)) d l = print_blind d l _ _

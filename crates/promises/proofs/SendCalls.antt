-- The calls on a send channel answer and leave what the model says.
use Prim.Native.Nat.{ℕ}
use mathlib.Core.Path.{◌≡◌, refl, sym, ap, ◌∙◌}
use mathlib.Core.Bool.{true, false}
use mathlib.Core.List.{List, [], ◌∷◌, ◌++◌, map}
use native.Mathlib.Omega.{arith}
use lib.ListN.{length, replicate}
use lib.Dec.{ltb, eqb}
use borrow.Author.Tests.{eq-eqb, ne_eqb, eqb-true}
use Rattle.std.specs.Prelude.{Option, Some, None}
use Rattle.common.specs.Choice.{pick}
use Rattle.common.specs.Refusals.{refusal_number}
use Rattle.common.proofs.Refused.{refused}
use Rattle.common.proofs.Choices.{by_test}
use Rattle.messages.specs.Records.{message_size, message_bytes, no_message}
use Rattle.events.specs.Raised.{event_of}
use Rattle.messages.specs.declared.Message.{Message}
use Rattle.messages.proofs.RoundTrip.{message_bytes_length}
use Rattle.message_text.specs.Reading.{used_of, read_message}
use Rattle.message_text.proofs.Cases.{read_is}
use Rattle.message_text.proofs.Taken.{taken_good}
use Rattle.sites.specs.Sites.{good_site}
use Rattle.settings.proofs.Laws.{site_in_range}
use Rattle.settings.specs.Ranges.{format_of}
use Rattle.settings.specs.TxMode.{raises_at_take, raises_at_done}
use Rattle.settings.specs.Binary.{binary_refusal, sent_message}
use Rattle.queue.specs.Channel.{good_receive}
use Rattle.queue.specs.Channel as Queue
use Rattle.buffer.specs.Channel.{send_limit, oldest, after_take, after_done, after_abort}
use Rattle.outbox.specs.Refusals.{possible, ready, put_refusal, wait_refusal, take_refusal, done_refusal, abort_refusal}
use Rattle.outbox.specs.Calls as Wire
use Rattle.buffer.specs.declared.Send.{Send}
use Rattle.device.specs.State.{with_send}
use Rattle.device.specs.Outcomes.{Lent, lends, ends}
use Rattle.recorder.specs.Outcomes as Ended
use Rattle.recorder.specs.Sending.{lifted, sent, text_sent}
use Rattle.recorder.specs.Register.{carrying, taken, finished, aborted}
use Rattle.device.specs.declared.Device.{Device}
use Rattle.recorder.proofs.SendWays.{carries_as}
use Rattle.model.specs.Said.{says, says_zeros, counts, hands}
use Rattle.model.specs.Inbox.{Inbox}
use Rattle.model.specs.Outbox.{took, purged, Outbox, holding, SendCall, send, send_text, take, done, abort, Posted}
use Rattle.model.specs.Outbox.{posted, put_text, takes, takes_into, finishes, aborts, posts}
use Rattle.model.specs.Outbox as Model
use Rattle.model.specs.Box.{box, Step, steps, noted, on_send, step}
use Rattle.promises.specs.Typed.{Framed, Word, TypedSend}
use Rattle.promises.specs.Calls.{outcome}
use Rattle.promises.specs.Stands.{Holds, SoundMessage, Register, Sends, Stands}
use Rattle.promises.proofs.Holding.{all_snoc, holds_count, holds_more, holds_rest, holds_none}
use Rattle.promises.proofs.Sound.{message_is, message_event_sound, sent_sound}
use Rattle.promises.proofs.Agreeing.{receive_usable, receive_possible, send_possible, Agrees, agrees_as}
use Rattle.promises.proofs.Agreeing.{notes, notes_if, told}

-- a step of the box that a send call makes
abbrev Mailed : Device → ℕ → Inbox → Posted → Step
Mailed d i b p = steps p.said (box d.shared (noted d.shared i p.raises b) p.outbox)

module _ (d : Device) (q t out : List ℕ) (i : ℕ) (b : Inbox) (o : Outbox) (h : Stands d q t (box d.shared b o)) where
  abbrev l : Lent
  l = lends q t out

  -- what is asked of every call
  abbrev Doing : SendCall → Type 0
  Doing x = Agrees (outcome (on_send x) d l) out (step i (length out) (on_send x) (box d.shared b o))

  receive : good_receive d.receive ≡ true
  receive = receive_possible d.receive q b h.inbox

  both : Queue.usable d.receive q ≡ true
  both = receive_usable d.receive q b h.inbox

  able : possible d.shared d.send ≡ true
  unfolding possible
  able = rw (h.possible, send_possible d.send t o h.outbox)

  send_ready_lem : ready d.shared d.send (length t) ≡ true
  unfolding ready
  send_ready_lem = rw (able, h.outbox.messages.long)

  count_is : d.send.ring.count ≡ length o.buffer
  count_is = holds_count message_bytes message_size send_limit d.send.ring t o.buffer h.outbox.messages

  -- the buffer has room where the list has
  room_is : ltb d.send.ring.count d.send.ring.capacity ≡ ltb (length o.buffer) o.places
  room_is = λ j. ltb (count_is j) (h.outbox.places j)

  -- another send channel over the same tables, or over another message table
  with_send_lem : (c : Send) (u : List ℕ) (p : Outbox) → Sends c u p → Stands (with_send d c) q u (box d.shared b p)
  with_send_lem c u p s = record { possible = h.possible; shared = refl; inbox = h.inbox; outbox = s }

  -- ---- sending

  -- a message with its own refusal, or 0, and what stands beside a refusal
  abbrev Put : ℕ → (ℕ → ℕ) → Message → ℕ → Wire.Outcome
  Put own beside m v =
      let n : ℕ = put_refusal d.shared d.send (length t) own in
      Wire.settled n (beside n) [] d.send t (Wire.puts d.send m v t)

  -- refused by its own refusal
  put_not : (own : ℕ) (beside : ℕ → ℕ) (m : Message) (v : ℕ) → eqb own 0 ≡ false
      → Put own beside m v ≡ Wire.refused own (beside own) [] d.send t
  unfolding put_refusal
  put_not own beside m v z = rw (send_ready_lem, z, z)

  -- put behind the newest, beside a value, or there is no place
  put_is : (beside : ℕ → ℕ) (m : Message) (v : ℕ) → beside 5 ≡ 0 → SoundMessage m
      → Agrees (lifted (Put 0 beside m v) d l) out (Mailed d i b (Model.put (counts v) m o))
  unfolding put_refusal
  put_is beside m v five s =
      rw send_ready_lem
      (by_test (ltb d.send.ring.count d.send.ring.capacity)
      (λ z. rw (z, sym room_is ∙ z) (
        told _ _ _ _ _,
        with_send_lem _ _ _
            (record {
              possible = h.outbox.possible;
              tx = h.outbox.tx;
              places = h.outbox.places;
              messages =
                  holds_more message_bytes message_size send_limit d.send.ring t o.buffer m h.outbox.messages z
                  (message_bytes_length m s.eight);
              sound = all_snoc SoundMessage o.sent m h.outbox.sound s;
              waits = all_snoc SoundMessage o.buffer m h.outbox.waits s;
              register = h.outbox.register;
            }),
      ))
      (λ z. rw (z, sym room_is ∙ z, five) (told (says 5) d q t out, h)))

  -- a binary send
  send_is : (m : Message) → Framed m → Doing (send m)
  unfolding outcome sent Wire.sent step posts
  send_is m f =
      let n = binary_refusal d.shared m in
      rw receive
      (by_test (eqb n 0)
      (λ z. rw (z, eqb-true n 0 z) (put_is (λ k. 0) (sent_message d.shared m) 0 refl
      (sent_sound d.shared m f (eqb-true n 0 z))))
      (λ z. rw (z, put_not n (λ k. 0) (sent_message d.shared m) 0 z) (told (says n) d q t out, h)))

  -- a text send
  text_is : (text : List ℕ) → Doing (send_text text)
  unfolding outcome text_sent Wire.text_sent step posts
  text_is text =
      let align = d.shared.align in
      let f = format_of d.shared d.shared.format in
      rw receive
      (read_is (λ a. read_message align f text ≡ a
      → Agrees (lifted (Wire.read_sent d.shared d.send a t) d l) out (Mailed d i b (put_text a o)))
      align f text
      (λ e. rw (put_not 6 (beside 6 0) no_message 0 refl) (told (says 6) d q t out, h))
      (λ why r e.
      let n = refusal_number why in
      let z = refused why n refl in
      rw (put_not n (beside n (used_of text)) no_message (used_of text) z, eq-eqb n n refl) (told _ _ _ _ _, h))
      (λ facts e.
      let g = taken_good align f text (ap (λ a. a.said) e) in
      put_is (beside 0 (used_of text)) _ _ refl (record { eight = g.1; bytes = g.2; whole = g.0 }))
      refl)
    where
      beside : ℕ → ℕ → ℕ → ℕ
      beside own used n = pick (eqb n own) used 0

  -- ---- the register

  abbrev After : ℕ → Wire.Outcome
  After tick = Wire.taken d.shared d.send tick t

  taken_5 : (tick : ℕ) → d.send.held ≡ true → After tick ≡ Wire.refused 5 0 (replicate message_size 0) d.send t
  unfolding Wire.taken take_refusal wait_refusal
  taken_5 tick e = rw (send_ready_lem, e)

  taken_4 : (tick : ℕ) → d.send.held ≡ false → o.buffer ≡ []
      → After tick ≡ Wire.refused 4 0 (replicate message_size 0) d.send t
  unfolding Wire.taken take_refusal wait_refusal
  taken_4 tick e n = rw (send_ready_lem, e, eq-eqb d.send.ring.count 0 (count_is ∙ ap length n))

  module _ (m : Message) (rest : List Message) (e : o.buffer ≡ m ∷ rest) where
    first : SoundMessage m
    first = (rw e at h.outbox.waits).0

    behind : Holds message_bytes message_size send_limit d.send.ring t (m ∷ rest)
    behind = rw e at h.outbox.messages

    oldest_is : oldest d.send t ≡ message_bytes m
    oldest_is = (holds_rest message_bytes message_size send_limit d.send.ring t m rest behind).0

    taken_0 : (tick : ℕ) → d.send.held ≡ false → After tick ≡ Wire.takes d.send tick m t
    unfolding Wire.taken take_refusal wait_refusal
    taken_0 tick z =
        rw (send_ready_lem, z, ne_eqb d.send.ring.count 0 (λ y. omega (arith, count_is, ap length e)), oldest_is)
        (rw ((message_is m first).0, (message_is m first).1))

    after_take_lem : Sends (after_take d.send m) t (holding o rest (Some m) o.sent (o.gone ++ took m ∷ []))
    after_take_lem = record {
      possible = h.outbox.possible;
      tx = h.outbox.tx;
      places = h.outbox.places;
      messages = (holds_rest message_bytes message_size send_limit d.send.ring t m rest behind).1;
      sound = h.outbox.sound;
      waits = (rw e at h.outbox.waits).1;
      register = (refl, refl, first);
    }

  finished_4 : (tick : ℕ) → d.send.held ≡ false
      → Wire.finished d.shared d.send tick t ≡ Wire.refused 4 0 [] d.send t
  unfolding Wire.finished done_refusal
  finished_4 tick e = rw (able, e)

  finished_0 : (tick : ℕ) (m : Message) → d.send.held ≡ true → d.send.message ≡ m
      → Wire.finished d.shared d.send tick t
      ≡ Wire.ends 0 0 [] (after_done d.send) t (Wire.raised_if (raises_at_done d.send.tx) 2 tick m)
  unfolding Wire.finished done_refusal
  finished_0 tick m e q =
      rw (able, e)
      (ap (λ (x : Message). Wire.ends 0 0 [] (after_done d.send) t
      (Wire.raised_if (raises_at_done d.send.tx) 2 tick x)) q)

  aborted_0 : (tick : ℕ) → Wire.aborted d.shared d.send tick t ≡ Wire.aborts d.send tick t
  unfolding Wire.aborted abort_refusal
  aborted_0 tick = rw able

  site_good : good_site d.shared.site ≡ true
  site_good = site_in_range d.shared h.possible

  -- a take
  take_is : (tick : ℕ) → Word tick → Doing (take tick)
  unfolding outcome taken step posts
  take_is tick ty = rw both (by o.register h.outbox.register)
    where
      Result : Posted → Type 0
      Result p = Agrees (carrying (After tick) d l) out (Mailed d i b p)

      waits : (ms : List Message) → d.send.held ≡ false → o.buffer ≡ ms → Result (takes d.shared.site tick ms o)
      waits [] z e = rw (taken_4 tick z e) (told (says_zeros message_size 4) d q t out, h)
      waits (m ∷ rest) z e =
          agrees_as
          (ap (λ (w : Wire.Outcome). carrying w d l) (taken_0 m rest e tick z)
          ∙ carries_as (raises_at_take d.send.tx) 2 tick m 0 0 (message_bytes m) (after_take d.send m) t d l)
          (notes_if (raises_at_take d.send.tx) (raises_at_take o.tx) (rw h.outbox.tx)
          (event_of d.shared.site 2 tick m) i _ out (hands (message_bytes m)) _
          (message_event_sound d.shared.site tick m site_good ty (first m rest e) 2 (omega arith))
          (told _ _ _ _ _, with_send_lem _ t _ (after_take_lem m rest e)))

      by : (r : Option Message) → Register d.send.held d.send.message r
          → Result (takes_into r d.shared.site tick o)
      by None z = waits o.buffer z.0 refl
      by (Some m) r = rw (taken_5 tick r.0) (told (says_zeros message_size 5) d q t out, h)

  -- a done
  done_is : (tick : ℕ) → Word tick → Doing (done tick)
  unfolding outcome finished step posts
  done_is tick ty = rw both (by o.register h.outbox.register)
    where
      empty : Sends (after_done d.send) t (holding o o.buffer None o.sent o.gone)
      empty = record {
        possible = h.outbox.possible;
        tx = h.outbox.tx;
        places = h.outbox.places;
        messages = h.outbox.messages;
        sound = h.outbox.sound;
        waits = h.outbox.waits;
        register = (refl, refl);
      }

      by : (r : Option Message) → Register d.send.held d.send.message r
          → Agrees (carrying (Wire.finished d.shared d.send tick t) d l) out
          (Mailed d i b (finishes r d.shared.site tick o))
      by None z = rw (finished_4 tick z.0) (told (says 4) d q t out, h)
      by (Some m) r =
          agrees_as
          (ap (λ (w : Wire.Outcome). carrying w d l) (finished_0 tick m r.0 r.1)
          ∙ carries_as (raises_at_done d.send.tx) 2 tick m 0 0 [] (after_done d.send) t d l)
          (notes_if (raises_at_done d.send.tx) (raises_at_done o.tx) (rw h.outbox.tx)
          (event_of d.shared.site 2 tick m) i _ out (says 0) _
          (message_event_sound d.shared.site tick m site_good ty r.2 2 (omega arith))
          (told _ _ _ _ _, with_send_lem _ t _ empty))

  -- an abort
  abort_is : (tick : ℕ) → Word tick → Doing (abort tick)
  unfolding outcome aborted step posts
  abort_is tick ty =
      rw both
      (agrees_as
      (ap (λ (w : Wire.Outcome). carrying w d l) (aborted_0 tick)
      ∙ carries_as d.send.held 3 tick d.send.message 0 d.send.ring.count []
      (after_abort d.send) t d l)
      (by o.register h.outbox.register))
    where
      after : Outbox
      after = holding o [] None o.sent (o.gone ++ map purged o.buffer)

      purge : Agrees (ends 0 d.send.ring.count [] (with_send d (after_abort d.send)) l) out
          (steps (counts (length o.buffer)) (box d.shared b after))
      purge = (
        record { number = refl; value = count_is; bytes = refl; line = refl },
        with_send_lem _ t _
            (record {
              possible = h.outbox.possible;
              tx = h.outbox.tx;
              places = h.outbox.places;
              messages =
                  holds_none message_bytes message_size send_limit d.send.ring t o.buffer h.outbox.messages;
              sound = h.outbox.sound;
              waits = tt;
              register = (refl, refl);
            }),
      )

      by : (r : Option Message) → Register d.send.held d.send.message r
          → Agrees
          (pick d.send.held
          (Ended.noted (event_of d.shared.site 3 tick d.send.message)
          (ends 0 d.send.ring.count [] (with_send d (after_abort d.send)) l))
          (ends 0 d.send.ring.count [] (with_send d (after_abort d.send)) l))
          out (Mailed d i b (posted (counts (length o.buffer)) after (aborts r d.shared.site tick)))
      by None z = rw z.0 purge
      by (Some m) r =
          rw (r.0, r.1) (notes (event_of d.shared.site 3 tick m) i _ out _ _
          (message_event_sound d.shared.site tick m site_good ty r.2 3 (omega arith)) purge)

  -- every call
  pub send_agrees : (x : SendCall) → TypedSend x → Doing x
  send_agrees (send m) ty = send_is m ty
  send_agrees (send_text text) ty = text_is text
  send_agrees (take tick) ty = take_is tick ty
  send_agrees (done tick) ty = done_is tick ty
  send_agrees (abort tick) ty = abort_is tick ty

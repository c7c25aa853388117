-- What a call leaves as it was, and the ways out of the calls: not refused, a printed line, a raise, a look.
use mathlib.Core.Path.{◌≡◌, refl, sym, ap, subst, ◌∙◌}
use mathlib.Core.List.{List, []}
use mathlib.Core.Bool.{Bool, true, false}
use Prim.Native.Nat.{ℕ, ◌*◌, ◌<◌}
use lib.ListN.{length}
use lib.Dec.{eqb}
use Rattle.std.specs.Prelude.{Result, Ok, Err, IfOk, OnErr}
use Rattle.common.specs.Choice.{pick}
use Rattle.common.specs.Numbers.{Bytes}
use Rattle.common.specs.Refusals.{is_refusal, number_in, Answers}
use Rattle.common.specs.declared.refusals.Refusal.{Refusal}
use Rattle.common.proofs.Choices.{by_test, pick_is, passed}
use Rattle.common.specs.Rings.{slot_of}
use Rattle.events.specs.Records.{event_size}
use Rattle.messages.specs.declared.Message.{Message}
use Rattle.queue.specs.Channel.{usable, good_receive}
use Rattle.queue.specs.Recording.{Raising, RaiseMet, met_number}
use Rattle.queue.specs.declared.Receive.{Receive}
use Rattle.queue.specs.declared.Met.{Met}
use Rattle.queue.specs.declared.Met.TheVariants.{Recorded, Filtered, Masked, Lost}
use Rattle.inbox.specs.Refusals.{through_refusal, look_refusal}
use Rattle.inbox.proofs.Laws.{look_free, look_good, ready_fits}
use Rattle.inbox.specs.Calls.{looked_at}
use Rattle.inbox.specs.Calls as Inbox
use Rattle.buffer.specs.Channel.{good_send}
use Rattle.outbox.specs.Refusals.{take_refusal}
use Rattle.outbox.specs.Calls as Outbox
use Rattle.device.specs.State.{good, with_receive}
use Rattle.device.specs.Outcomes.{Lent, Outcome, lends}
use Rattle.recorder.specs.Outcomes.{PrintMet}
use Rattle.recorder.specs.Receiving.{raised, raised_on, record_read, text_read, look_said, through}
use Rattle.recorder.specs.Register.{taken}
use Rattle.recorder.specs.Printing.{line_printed}
use Rattle.device.specs.declared.Device.{Device}
use Rattle.model.specs.Inbox.{look}
use Rattle.model.specs.Box.{on_receive, Call, on_device, on_align, raise, PrintCall, print_message_record, print_event_record, print_message}
use Rattle.promises.specs.Calls.{outcome, print_outcome}
use Rattle.kept.specs.State.{state_bytes, device_in, is_state, is_possible, counted}
use Rattle.kept.specs.Handing.{left}
use Rattle.kept.proofs.Judged.{possible_state, possible_good, impossible_good, good_send_lem, raise_impossible}
use Rattle.kept.proofs.Moves.{Counts, raise_moves, counted_left}
use Rattle.kept.proofs.Laws.{refused_left, zero_left, kept_still}
use Rattle.board.specs.Board.{Borrows, borrowed, lent_to, hands_back, whole, on, called, Called, CalledWith}

-- what a call is lent, handed back as it was, is everything
pub hands_back_lem : (v : Borrows) (l : Lent) → hands_back v l (lent_to v l) ≡ l
hands_back_lem v l = λ i. lends (same v.queue l.queue i) (same v.send l.send i) (same v.out l.out i)
  where
    same : (b : Bool) (xs : List ℕ) → pick b (pick b xs []) xs ≡ xs
    same true xs = refl
    same false xs = refl

-- a table that a call only reads stays
pub record_still : (d : Device) (l : Lent) → (record_read d l).lent.queue ≡ l.queue
unfolding record_read
record_still d l = pick_is (λ (o : Outcome). o.lent.queue ≡ l.queue) (good_send d.send) (λ a. refl) (λ a. refl)

pub text_still : (d : Device) (l : Lent) → (text_read d l).lent.queue ≡ l.queue
unfolding text_read
text_still d l = pick_is (λ (o : Outcome). o.lent.queue ≡ l.queue) (good_send d.send) (λ a. refl) (λ a. refl)

pub take_still : (tick : ℕ) (d : Device) (l : Lent) → (taken tick d l).lent.send ≡ l.send
unfolding taken Outbox.taken
take_still tick d l =
    pick_is (λ (o : Outcome). o.lent.send ≡ l.send) (usable d.receive l.queue)
    (λ a. pick_is (λ (o : Outbox.Outcome). o.table ≡ l.send) (eqb (take_refusal d.shared d.send l.send) 0)
    (λ b. refl) (λ b. refl)) (λ a. refl)

-- a printed line and the count of identifiers leave the device
pub line_still : (n : ℕ) (line : List ℕ) (d : Device) (l : Lent) → (line_printed n line d l).device ≡ d
unfolding line_printed
line_still n line d l =
    let Same : Outcome → Type 0 = λ o. o.device ≡ d in
    pick_is Same (good d) (λ a. pick_is Same (eqb n 0) (λ b. refl) (λ b. refl)) (λ a. refl)

print_still : (y : PrintCall) (d : Device) (l : Lent) → (print_outcome y d l).device ≡ d
print_still (print_message_record r) d l = line_still _ _ d l
print_still (print_event_record r) d l = line_still _ _ d l
print_still (print_message m) d l = line_still _ _ d l

pub through_still : (format : ℕ) (d : Device) (l : Lent) → (through format d l).device ≡ d
unfolding through Inbox.through
through_still format d l =
    pick_is (λ (o : Outcome). o.device ≡ d) (good_send d.send)
    (λ a. pick_is (λ (o : Inbox.Outcome). with_receive d o.receive ≡ d)
    (eqb (through_refusal d.shared d.receive format) 0) (λ b. refl) (λ b. refl))
    (λ a. refl)

-- ---- a call over a state that was not refused: the device that it leaves is kept

module _ (x : Call) (s : List ℕ) (l : Lent) (h : is_state s ≡ true) {d : Device} (a : d ≡ device_in s) where
  abbrev o : Outcome
  o = outcome x d (lent_to (borrowed x) l)

  told : called x s l ≡ whole (borrowed x) l o
  unfolding called on
  told = rw (h, a)

  -- whatever its number
  pub settled : {n : ℕ} {t : List ℕ} {m : Lent} → n ≡ o.number → t ≡ left n s (state_bytes o.device)
      → m ≡ hands_back (borrowed x) l o.lent → Called (called x s l) s n t m
  settled k w b = rw told (record { number = k; state_is = w ∙ rw k; lent_bytes = b })

  module _ {e : Device} {t : List ℕ} {m : Lent} (k : 0 ≡ o.number) (n : e ≡ o.device) (w : t ≡ state_bytes e)
      (b : m ≡ hands_back (borrowed x) l o.lent) where
    pub went : Called (called x s l) s 0 t m
    went = settled k (w ∙ ap state_bytes n ∙ sym (zero_left s (state_bytes o.device))) b

    -- with a place for what f says of the outcome
    pub went_with : {A : Type 0} (f : Outcome → A) {was v : A} → v ≡ f (whole (borrowed x) l o)
        → CalledWith (called x s l) s was (f (called x s l)) 0 t m v
    went_with f {was} u =
        let new = f (called x s l) in
        let e = sym (zero_left was new) ∙ ap (λ (n : ℕ). left n was new) went.number in
        record { call = went; value_is = u ∙ sym (ap f told) ∙ e }

-- what hand_answer writes where a call of the number n answers r, the value new if it is not refused
handed : {n : ℕ} (was : ℕ) {new v : ℕ} (r : Result ℕ Refusal) → Answers n new r → IfOk r (λ x. v ≡ x) → OnErr r (v ≡ was)
    → v ≡ left n was new
handed was {new = new} (Ok x) a w k =
    w ∙ a.value ∙ sym (zero_left was new) ∙ ap (λ (m : ℕ). left m was new) a.number
handed was {new = new} (Err e) a w k =
    k ∙ sym (refused_left e was new) ∙ ap (λ (m : ℕ). left m was new) a.number

-- a printed line
pub print_called : (y : PrintCall) (s out : List ℕ) → Bytes s → is_state s ≡ true → {d : Device} → d ≡ device_in s
    → {r : Result ℕ Refusal} {new : List ℕ} {n was v : ℕ} → PrintMet (print_outcome y d (lends [] [] out)) r new
    → n ≡ number_in r → IfOk r (λ x. v ≡ x) → OnErr r (v ≡ was)
    → let o : Outcome = called (on_align y) s (lends [] [] out) in
    CalledWith o s was o.value n s (lends [] [] new) v
unfolding outcome borrowed
print_called y s out g h {d} a {r} {n = n} {was = was} p e w k =
    let x = on_align y in
    let l = lends [] [] out in
    let number = e ∙ p.answer.number in
    let still = print_still y d l ∙ a in
    let state = kept_still n s g h ∙ rw still in
    record {
      call = settled x s l h a number state (ap (λ (q : List ℕ). lends [] [] q) p.out_bytes);
      value_is = handed was r p.answer w k ∙ rw (told x s l h a);
    }

-- ---- a raise, whose state is judged where it stands

-- what an event meets is no refusal
pub met_left : (m : Met) (old new : List ℕ) → left (met_number m) old new ≡ new
unfolding is_refusal
met_left Recorded old new = refl
met_left Filtered old new = refl
met_left Masked old new = refl
met_left Lost old new = refl

module _ (s : List ℕ) (code tick : ℕ) (m : Message) (q : List ℕ) where
  abbrev raising : Call
  raising = on_device (raise code tick m)

  abbrev table : Lent
  table = lends q [] []

  -- a state whose device is not possible
  impossible : is_state s ≡ true → is_possible s ≡ false → Called (called raising s table) s 2 s table
  unfolding outcome borrowed is_refusal
  impossible t h =
      let is-2 = raise_impossible code tick m (device_in s) table (impossible_good s h t) in
      settled raising s table t refl (sym (ap (λ (o : Outcome). o.number) is-2)) refl
      (sym (ap (λ (o : Outcome). lends o.lent.queue [] []) is-2))

  pub not_raised : is_possible s ≡ false → Called (called raising s table) s 2 s table
  unfolding called on is_refusal
  not_raised h =
      by_test (is_state s) (λ t. impossible t h)
      (λ f. rw f (record { number = refl; state_is = refl; lent_bytes = sym (hands_back_lem (borrowed raising) table) }))

  module _ (h : is_possible s ≡ true) {d : Device} (a : d ≡ device_in s) where
    abbrev meeting : Raising
    meeting = Inbox.raised d.shared d.receive code tick m q

    able : raised code tick m d table ≡ raised_on meeting d table
    unfolding raised
    able = rw (good_send_lem d (rw a (possible_good s h)))

    pub raised_called : {n : ℕ} {next : Receive} {new t : List ℕ} → RaiseMet meeting n next new
        → t ≡ left n s (state_bytes (with_receive d next)) → Called (called raising s table) s n t (lends new [] [])
    unfolding outcome borrowed
    raised_called g w =
        settled raising s table (possible_state s h) a (g.number ∙ sym (ap (λ (o : Outcome). o.number) able))
        (w ∙ rw (able, ← g.receive))
        (ap (λ (u : List ℕ). lends u [] []) g.table ∙ sym (ap (λ (o : Outcome). lends o.lent.queue [] []) able))

    -- count and pending are all that it moved
    pub raised_left : {next : Receive} {t : List ℕ} → next ≡ meeting.receive
        → t ≡ state_bytes (counted (device_in s) next.ring.count next.pending) → t ≡ state_bytes (with_receive d next)
    raised_left {next} e w =
        let y = with_receive d next in
        let device : (raised code tick m d table).device ≡ y = ap (λ (o : Outcome). o.device) able ∙ ap (with_receive d) (sym e) in
        counted_left s {e = y} a (subst (λ (x : Device). Counts d x) device (raise_moves d table code tick m)) w

-- ---- a look

-- one that answers 0 is one that the inbox takes
look_taken : (p : ℕ) (d : Device) (t : List ℕ) → 0 ≡ look_said p d (lends t [] [])
    → look_refusal d.shared d.receive (length t) p ≡ 0
unfolding look_said
look_taken p d t h = (passed (good_send d.send) (look_refusal d.shared d.receive (length t) p) 2 refl (sym h)).1

-- so there is an event at its position
pub look_may : (p : ℕ) (d : Device) (t : List ℕ) → 0 ≡ look_said p d (lends t [] [])
    → (good_receive d.receive ≡ true) × (p < d.receive.ring.count)
look_may p d t h = look_good d.shared d.receive (length t) p _ refl (look_taken p d t h)

-- and the slot's place is handed back
pub look_shown : (p : ℕ) (s t : List ℕ) → Bytes s → is_state s ≡ true → {d : Device} → d ≡ device_in s
    → 0 ≡ look_said p d (lends t [] []) → {was i : ℕ} → i ≡ event_size * slot_of d.receive.ring p
    → CalledWith (called (on_receive (look p)) s (lends t [] [])) s was (looked_at (device_in s).receive t p) 0 s
    (lends t [] []) i
unfolding outcome borrowed looked_at is_refusal
look_shown p s t g h {d} a z e =
    let f = look_free d.shared d.receive (length t) p _ refl (look_taken p d t z) in
    let fits = ready_fits d.shared d.receive (length t) f.0 in
    let c = settled (on_receive (look p)) s (lends t [] []) h a z (kept_still 0 s g h ∙ rw (← a)) refl in
    record { call = c; value_is = rw (← c.number, ← a, fits, f.1) e }

-- Sequences of sv_ calls over the state bytes are the promises' runs: the device is kept in its bytes, call after call.
use mathlib.Core.Path.{◌≡◌, refl, sym, ap, subst, subst₂, ◌∙◌}
use mathlib.Core.Bool.{true}
use mathlib.Core.List.{List, [], ◌∷◌, map}
use Prim.Native.Nat.{ℕ, ◌+◌, ◌≤◌}
use native.Mathlib.Omega.{arith}
use lib.ListN.{length, take, drop}
use lib.Dec.{eqb}
use Rattle.common.specs.Choice.{pick}
use Rattle.common.specs.Refusals.{is_refusal}
use Rattle.common.specs.Slots.{slot}
use Rattle.common.specs.Sublist.{Sublist}
use Rattle.common.proofs.Bools.{and_left, and_right}
use Rattle.common.proofs.Choices.{by_test, pick_is, passed}
use Rattle.events.specs.Records.{event_size}
use Rattle.settings.specs.Ranges.{good_shared}
use Rattle.settings.specs.declared.Settings.{Settings}
use Rattle.queue.specs.Channel.{good_receive, queue_fits}
use Rattle.inbox.specs.Refusals.{possible, ready, look_refusal}
use Rattle.inbox.specs.Calls.{looked, looked_at}
use Rattle.inbox.proofs.Laws.{look_free, ready_fits}
use Rattle.buffer.specs.Channel.{good_send}
use Rattle.device.specs.State.{good}
use Rattle.device.specs.Outcomes.{Lent, lends, Outcome}
use Rattle.device.specs.Opening.{opened}
use Rattle.recorder.specs.Receiving.{look_said}
use Rattle.device.specs.declared.Device.{Device}
use Rattle.model.specs.Said.{Said}
use Rattle.model.specs.Inbox.{Inbox, look}
use Rattle.model.specs.Box.{Box, Call, on_receive, step, fresh}
use Rattle.model.specs.Box as Model
use Rattle.model.specs.Promised.{recorded, with_places}
use Rattle.promises.specs.Typed.{Made, asked, TypedSettings}
use Rattle.promises.specs.Calls.{outcome}
use Rattle.promises.specs.Runs.{Run, queued_events, recorded_bytes, answered}
use Rattle.promises.specs.Runs as Promises
use Rattle.promises.specs.Stands.{RunStands, Says}
use Rattle.promises.specs.Stands as Promised
use Rattle.promises.specs.Promised.{lost_bytes, entries}
use Rattle.promises.proofs.Harmless.{harmless}
use Rattle.promises.proofs.Opening.{opens}
use Rattle.promises.proofs.Answers.{next_stands, answers}
use Rattle.promises.proofs.Carried.{sum_of_bytes, larger_queue}
use Rattle.layout.specs.Parts.{word}
use Rattle.kept.specs.State.{state_size, receive_at, state_bytes, device_in, is_state}
use Rattle.kept.specs.Handing.{left}
use Rattle.settings.specs.Given.{settings_size, settings_in}
use Rattle.board.specs.Board.{borrowed, on, called, opened_on}
use Rattle.board.specs.Runs.{BoardRun, as_run, called_next, next, run, started, Answered}
use Rattle.board.proofs.Blind.{blind}
use Rattle.board.proofs.Words.{stands_back}

-- ---- one call

-- what stands in the state after a call are the bytes of the device that the call leaves
state_after : (x : Call) (d : Device) (l : Lent)
    → let o : Outcome = outcome x d l in
    left o.number (state_bytes d) (state_bytes o.device) ≡ state_bytes o.device
state_after x d l =
    let o : Outcome = outcome x d l in
    pick_is (λ (b : List ℕ). b ≡ state_bytes o.device) (is_refusal o.number)
    (λ e. ap state_bytes (sym ((harmless x d l).device_kept e))) (λ e. refl)

-- a run with its device kept in bytes
abbrev kept : Run → BoardRun
kept r = record { state = state_bytes r.device; queue = r.queue; send = r.send; index = r.index; read = r.read }

module _ (r : Run) (b : Box) (h : RunStands r b) where
  -- the device's bytes are a state, and stand for it
  back : (is_state (state_bytes r.device) ≡ true) × (device_in (state_bytes r.device) ≡ r.device)
  back = stands_back r.device r.queue r.send b h.stands

  -- read from its bytes it is the same run
  kept_back : as_run (kept r) ≡ r
  kept_back = λ i. record { device = back.1 i; queue = r.queue; send = r.send; index = r.index; read = r.read }

  -- the next call answers and leaves what it does on the device itself
  called_is : (x : Made) → called_next x (kept r) ≡ answered x r
  unfolding called on
  called_is x = rw (back.0, back.1) (blind x.call r.device (lends r.queue r.send x.out))

  -- and the run after it is kept
  next_is : (x : Made) → next x (kept r) ≡ kept (Promises.next x r)
  unfolding next Promises.next
  next_is x = rw (called_is x, kept_back, state_after x.call r.device (lends r.queue r.send x.out))

-- ---- sequences of calls

-- a run that is kept stays kept, whatever calls are made
runs_from : (xs : List Made) (r : Run) (b : Box) → RunStands r b → run xs (kept r) ≡ kept (Promises.run xs r)
unfolding run Promises.run
runs_from [] r b h = refl
runs_from (x ∷ xs) r b h =
    let after = (step 0 (length x.out) x.call b).after in
    ap (run xs) (next_is r b h x) ∙ runs_from xs (Promises.next x r) after (next_stands x r b h 0)

-- and its calls say what those of the run say
says_from : (xs : List Made) (r : Run) (b : Box) → RunStands r b
    → (said : List Said) → Promised.Answered xs r said → Answered xs (kept r) said
says_from [] r b h [] w = w
says_from [] r b h (a ∷ rest) w = w
says_from (x ∷ xs) r b h [] w = w
says_from (x ∷ xs) r b h (a ∷ rest) w =
    let after = (step 0 (length x.out) x.call b).after in
    let later = says_from xs (Promises.next x r) after (next_stands x r b h 0) rest w.1 in
    let says = subst (λ (o : Outcome). Says o x.out a) (sym (called_is r b h x)) w.0 in
    (says, subst (λ (r : BoardRun). Answered xs r rest) (sym (next_is r b h x)) later)

-- ---- from an sv_open that answers 0

-- thirteen settings, and it is the recorder's opening
same_opening : (given s : List ℕ) (l : Lent) → (opened_on given s l).number ≡ 0
    → opened_on given s l ≡ opened (settings_in given) l
unfolding opened_on
same_opening given s l =
    let o : Outcome = opened (settings_in given) l in
    let Same : Outcome → Type 0 = λ p. p.number ≡ 0 → p ≡ o in
    pick_is Same (eqb (length given) settings_size)
    (λ w. pick_is Same (eqb o.number 0)
    (λ z. pick_is Same (eqb (length s) state_size) (λ y x. refl) (λ y x. absurd (omega (arith, x))))
    (λ z x. refl))
    (λ w x. absurd (omega (arith, x)))

module _ (given s : List ℕ) (l : Lent) (e : (opened_on given s l).number ≡ 0) where
  -- which answers 0
  opens_0 : (opened (settings_in given) l).number ≡ 0
  opens_0 = sym (ap (λ (o : Outcome). o.number) (same_opening given s l e)) ∙ e

  -- it leaves the bytes of the recorder's device, and the tables
  started_is : started given s l ≡ kept (Promises.started (settings_in given) l)
  unfolding is_refusal
  started_is = rw (same_opening given s l e, opens_0)

  module _ (ty : TypedSettings (settings_in given)) where
    -- it stands for the fresh box
    stands : RunStands (Promises.started (settings_in given) l) (fresh (settings_in given))
    stands = opens (settings_in given) l ty opens_0

    -- so every run from there on is kept
    kept_run : (xs : List Made)
        → run xs (started given s l) ≡ kept (Promises.run xs (Promises.started (settings_in given) l))
    kept_run xs =
        let g = settings_in given in
        ap (run xs) started_is ∙ runs_from xs (Promises.started g l) (fresh g) stands

-- THEOREM. After any calls from an sv_open that answers 0 the state is the bytes of the device of the promises' run
pub board_state : (given s : List ℕ) (l : Lent) (xs : List Made) → TypedSettings (settings_in given)
    → (opened_on given s l).number ≡ 0
    → (run xs (started given s l)).state ≡ state_bytes (Promises.run xs (Promises.started (settings_in given) l)).device
board_state given s l xs ty e = ap (λ (r : BoardRun). r.state) (kept_run given s l e ty xs)

-- THEOREM. The run over the state bytes is then the promises' run: device, tables, index, bytes of all events read
pub board_runs : (given s : List ℕ) (l : Lent) (xs : List Made) → TypedSettings (settings_in given)
    → (opened_on given s l).number ≡ 0
    → as_run (run xs (started given s l)) ≡ Promises.run xs (Promises.started (settings_in given) l)
board_runs given s l xs ty e =
    let g = settings_in given in
    let r = Promises.run xs (Promises.started g l) in
    let h = (answers g l xs ty (opens_0 given s l e)).1 in
    let b = Model.run 0 (map asked xs) (fresh g) in
    ap (λ (r : BoardRun). as_run r) (kept_run given s l e ty xs) ∙ kept_back r b h

-- THEOREM, demand 2. Every answer and every output buffer of such a run is the model's
pub board_answers : (given s : List ℕ) (l : Lent) (xs : List Made) → TypedSettings (settings_in given)
    → (opened_on given s l).number ≡ 0
    → Answered xs (started given s l) (Model.answers 0 (map asked xs) (fresh (settings_in given)))
board_answers given s l xs ty e =
    let g = settings_in given in
    let said = Model.answers 0 (map asked xs) (fresh g) in
    let w = (answers g l xs ty (opens_0 given s l e)).0 in
    subst (λ (r : BoardRun). Answered xs r said) (sym (started_is given s l e))
    (says_from xs (Promises.started g l) (fresh g) (stands given s l e ty) said w)

-- THEOREM, demand 2. Up to 4,294,967,295 events past filter and mask: events read + events queued + the lost counts in
-- the bytes of both + the pending count, bytes 40..43 of the state = those events
pub board_sum : (given s : List ℕ) (l : Lent) (xs : List Made) → TypedSettings (settings_in given)
    → (opened_on given s l).number ≡ 0
    → let r : BoardRun = run xs (started given s l) in
    let b : Inbox = (Model.run 0 (map asked xs) (fresh (settings_in given))).inbox in
    length b.arrived ≤ 4294967295
    → length r.read + length (queued_events (as_run r))
    + (lost_bytes r.read + lost_bytes (queued_events (as_run r)) + word r.state (receive_at + 28))
    ≡ length b.arrived
unfolding device_in
board_sum given s l xs ty e bound =
    let n = length (Model.run 0 (map asked xs) (fresh (settings_in given))).inbox.arrived in
    subst
    (λ (r : Run).
    length r.read + length (queued_events r)
    + (lost_bytes r.read + lost_bytes (queued_events r) + r.device.receive.pending)
    ≡ n)
    (sym (board_runs given s l xs ty e)) (sum_of_bytes (settings_in given) l xs ty (opens_0 given s l e) bound)

-- what the smaller of two runs has recorded, place by place and byte by byte apart from lost counts, the larger has
abbrev Within : List Made → Settings → Run → Settings → Run → Type 0
Within xs f p g r =
    Sublist (entries (recorded (Model.run 0 (map asked xs) (fresh f)).inbox) (recorded_bytes p))
    (entries (recorded (Model.run 0 (map asked xs) (fresh g)).inbox) (recorded_bytes r))

-- THEOREM, demand 3. Two boards opened with settings f and g, which are the same but for the event places, f's no more
-- than g's, each over its own state bytes and tables of any bytes, given the same calls: what the smaller has recorded,
-- place by place and byte by byte apart from lost counts, the larger has, in the same order
pub board_larger : (f g s t : List ℕ) (l m : Lent) (xs : List Made) → (settings_in f).queue ≤ (settings_in g).queue
    → settings_in g ≡ with_places (settings_in f) (settings_in g).queue → TypedSettings (settings_in f)
    → (opened_on f s l).number ≡ 0 → (opened_on g t m).number ≡ 0
    → let small : Inbox = (Model.run 0 (map asked xs) (fresh (settings_in f))).inbox in
    let large : Inbox = (Model.run 0 (map asked xs) (fresh (settings_in g))).inbox in
    Sublist (entries (recorded small) (recorded_bytes (as_run (run xs (started f s l)))))
    (entries (recorded large) (recorded_bytes (as_run (run xs (started g t m)))))
board_larger f g s t l m xs le same ty e k =
    let small = settings_in f in
    let large = settings_in g in
    let p = Promises.run xs (Promises.started small l) in
    let typed : TypedSettings (with_places small large.queue) = record { code = ty.code; mask = ty.mask } in
    subst₂ (λ (p r : Run). Within xs small p large r)
    (sym (board_runs f s l xs ty e)) (sym (board_runs g t m xs (subst TypedSettings (sym same) typed) k))
    (subst
    (λ (h : Settings). (opened h m).number ≡ 0 → Within xs small p h (Promises.run xs (Promises.started h m)))
    (sym same) (larger_queue small small.queue large.queue l m xs le ty (opens_0 f s l e)) (opens_0 g t m k))

-- ---- the look

-- THEOREM. Beside 0 what sv_look shows are the slot's bytes at its offset in the event table
pub look_shows : (p : ℕ) (s : List ℕ) (l : Lent)
    → let o : Outcome = called (on_receive (look p)) s l in
    o.number ≡ 0 → o.bytes ≡ take event_size (drop (looked_at (device_in s).receive l.queue p) l.queue)
unfolding called borrowed on outcome look_said looked looked_at slot good ready possible
look_shows p s l =
    by_test (is_state s) (λ x. rw x shown)
    (λ x. rw x (λ h. absurd (omega (arith, h))))
  where
    d : Device
    d = device_in s

    q : List ℕ
    q = l.queue

    shown : look_said p d (lends q [] []) ≡ 0
        → pick (good d) (looked d.receive q p) [] ≡ take event_size (drop (looked_at d.receive q p) q)
    shown h =
        let z = passed (good_send d.send) (look_refusal d.shared d.receive (length q) p) 2 refl h in
        let f = look_free d.shared d.receive (length q) p _ refl z.1 in
        let able = and_left (possible d.shared d.receive) (queue_fits d.receive (length q)) f.0 in
        let shared = and_left (good_shared d.shared) (good_receive d.receive) able in
        let receive = and_right (good_shared d.shared) (good_receive d.receive) able in
        rw (shared, receive, z.0, ready_fits d.shared d.receive (length q) f.0, f.1)

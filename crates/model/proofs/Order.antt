-- Order: of what arrived and of what is recorded; the queue has room for what it holds.
use Prim.Native.Nat.{ℕ, ◌+◌, ◌≤◌}
use mathlib.Core.Path.{◌≡◌, refl, ap}
use mathlib.Core.List.{List, [], ◌∷◌, ◌++◌, map, map-append, append-nil}
use native.Mathlib.Omega.{arith}
use lib.ListN.{length}
use Rattle.common.specs.Sublist.{Sublist, none, keep, skip}
use Rattle.common.proofs.Sublists.{sublist_append}
use Rattle.events.specs.declared.Event.{Event}
use Rattle.settings.specs.declared.Settings.{Settings}
use Rattle.model.specs.Inbox.{Kept, keeps, Inbox}
use Rattle.model.specs.Box.{Box, fresh, Call, step, Asked, run}
use Rattle.model.specs.Promised.{recorded, apart, RecordedInOrder, AtMostOne, same, one, Rising}
use Rattle.model.proofs.Lasting.{step_any, Lasting, run_keeps}
use Rattle.model.proofs.Recorded.{recorded_more, recorded_same, queue_more}

-- ---- what is recorded is, in order, among what arrived

-- whatever happens to the channel
in_order_lasts : Lasting RecordedInOrder
in_order_lasts = record {
  recorded = λ i e b room p.
      rw (recorded_more i e b, map-append apart b.arrived (keeps i e ∷ [])) (sublist_append p (keep none));
  lost = λ i e b full p.
      rw (map-append apart b.arrived (keeps i e ∷ []), ← (append-nil (map apart (recorded b))))
      (sublist_append p (skip none));
  read = λ k rest b q p. rw (recorded_same k rest b q) p;
  filter = λ code mask b p. p;
  mask = λ mask b p. p;
}

-- THEOREM. After any calls: what is recorded, apart from lost counts, is in what arrived, in the same order
pub recorded_in_order : (s : Settings) (xs : List Asked) → RecordedInOrder (run 0 xs (fresh s)).inbox
recorded_in_order s xs = run_keeps RecordedInOrder in_order_lasts 0 xs (fresh s) none

-- ---- the queue is bounded

-- of n places no more than n are filled
abbrev Fits : ℕ → Inbox → Type 0
Fits n b = (b.places ≡ n) × (length b.queue ≤ n)

-- whatever happens to the channel
fits_lasts : (n : ℕ) → Lasting (Fits n)
fits_lasts n = record {
  recorded = λ i e b room p. (p.0, let z = p.0 in omega (arith, queue_more i e b));
  lost = λ i e b full p. p;
  read = λ k rest b q p. (p.0, let z = p.1 in omega (arith, ap length q));
  filter = λ code mask b p. p;
  mask = λ mask b p. p;
}

-- THEOREM. After any calls: no more events are queued than there are places
pub queue_bounded : (s : Settings) (xs : List Asked) → length (run 0 xs (fresh s)).inbox.queue ≤ s.queue
queue_bounded s xs = (run_keeps (Fits s.queue) (fits_lasts s.queue) 0 xs (fresh s) (refl, omega arith)).1

-- ---- a call lets at most one event arrive, and its place is the call's index

-- THEOREM. A call on any box lets at most one event past filter and mask, the last; its place is the call's index
pub one_event : (i room : ℕ) (x : Call) (b : Box)
    → AtMostOne b.inbox.arrived (step i room x b).after.inbox.arrived i
one_event i room x b =
    step_any i b (λ c. AtMostOne b.inbox.arrived c.arrived i)
    (record {
      kept = same refl;
      recorded = λ e any room. one e refl;
      lost = λ e any full. one e refl;
      read = λ k rest q. same refl;
      filter = λ code mask. same refl;
      mask = λ mask. same refl;
    })
    room x

-- ---- places strictly increase

-- one call more
rising_more : (n i : ℕ) (ks : List Kept) → Rising n i ks → Rising n (i + 1) ks
rising_more n i [] r = omega arith
rising_more n i (k ∷ ks) r = (r.0, rising_more (k.place + 1) i ks r.1)

-- one event more, of the last call
rising_snoc : (n i : ℕ) (e : Event) (ks : List Kept) → Rising n i ks → Rising n (i + 1) (ks ++ keeps i e ∷ [])
rising_snoc n i e [] r = (r, omega arith)
rising_snoc n i e (k ∷ ks) r = (r.0, rising_snoc (k.place + 1) i e ks r.1)

-- at most one event more
rising_step : (i : ℕ) (before after : List Kept) → AtMostOne before after i
    → Rising 0 i before → Rising 0 (i + 1) after
rising_step i before after (same e) r = rw e (rising_more 0 i before r)
rising_step i before after (one ev e) r = rw e (rising_snoc 0 i ev before r)

-- every sequence of calls
run_rising : (i : ℕ) (xs : List Asked) (b : Box) → Rising 0 i b.inbox.arrived
    → Rising 0 (i + length xs) (run i xs b).inbox.arrived
unfolding run
run_rising i [] b r = let e : i + 0 ≡ i = omega arith in rw e r
run_rising i (x ∷ xs) b r =
    let c = (step i x.room x.call b).after in
    let e : i + length (x ∷ xs) ≡ i + 1 + length xs = omega arith in
    let a = one_event i x.room x.call b in
    rw e (run_rising (i + 1) xs c (rising_step i b.inbox.arrived c.inbox.arrived a r))

-- THEOREM. After any calls: the places of what arrived strictly increase, each the index of a call
pub arrived_rising : (s : Settings) (xs : List Asked) → Rising 0 (length xs) (run 0 xs (fresh s)).inbox.arrived
arrived_rising s xs =
    let e : 0 + length xs ≡ length xs = omega arith in
    rw e at (run_rising 0 xs (fresh s) (omega arith))

-- a later start
rising_from : (n m i : ℕ) (ks : List Kept) → n ≤ m → Rising m i ks → Rising n i ks
rising_from n m i [] h r = omega arith
rising_from n m i (k ∷ ks) h r = let l = r.0 in (omega arith, r.1)

-- a part of a list
rising_part : {ks ls : List Kept} (n i : ℕ) → Sublist ks ls → Rising n i ls → Rising n i ks
rising_part n i none r = r
rising_part n i (keep {a} p) r = (r.0, rising_part (a.place + 1) i p r.1)
rising_part {ks} n i (skip {a} p) r =
    let l = r.0 in
    rising_from n (a.place + 1) i ks (omega arith) (rising_part (a.place + 1) i p r.1)

-- lost counts do not matter
rising_apart : (n i : ℕ) (ks : List Kept) → Rising n i ks → Rising n i (map apart ks)
rising_apart n i [] r = r
rising_apart n i (k ∷ ks) r = (r.0, rising_apart (k.place + 1) i ks r.1)

-- nor the other way round
apart_rising : (n i : ℕ) (ks : List Kept) → Rising n i (map apart ks) → Rising n i ks
apart_rising n i [] r = r
apart_rising n i (k ∷ ks) r = (r.0, apart_rising (k.place + 1) i ks r.1)

-- THEOREM. And so do the places of what was read and then of what is queued: no event is recorded twice
pub recorded_rising : (s : Settings) (xs : List Asked) → Rising 0 (length xs) (recorded (run 0 xs (fresh s)).inbox)
recorded_rising s xs =
    let b = (run 0 xs (fresh s)).inbox in
    apart_rising 0 (length xs) (recorded b)
    (rising_part 0 (length xs) (recorded_in_order s xs) (rising_apart 0 (length xs) b.arrived (arrived_rising s xs)))

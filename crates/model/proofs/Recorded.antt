-- What is recorded after an event was recorded, and after a read.
use Prim.Native.Nat.{ℕ, ◌+◌}
use mathlib.Core.Path.{◌≡◌}
use mathlib.Core.List.{List, [], ◌∷◌, ◌++◌, map, map-append, append_assoc}
use native.Mathlib.Omega.{arith}
use lib.ListN.{length, length-append}
use Rattle.events.specs.Records.{stamped}
use Rattle.events.specs.declared.Event.{Event}
use Rattle.model.specs.Inbox.{Kept, keeps, Inbox, recording, reading}
use Rattle.model.specs.Promised.{recorded, apart}

-- what was recorded, and one event more
pub recorded_more : (i : ℕ) (e : Event) (b : Inbox)
    → map apart (recorded (recording i e b)) ≡ map apart (recorded b) ++ apart (keeps i e) ∷ []
recorded_more i e b =
    let k = keeps i (stamped e b.pending) in
    rw (← (append_assoc b.read b.queue (k ∷ [])), map-append apart (recorded b) (k ∷ []))

-- a read moves an event, and none is recorded or forgotten
pub recorded_same : (k : Kept) (rest : List Kept) (b : Inbox) → b.queue ≡ k ∷ rest
    → recorded (reading k rest b) ≡ recorded b
recorded_same k rest b q = rw (q, append_assoc b.read (k ∷ []) rest)

-- a list and one entry more
pub one_more_lem : {A : Type 0} (x : A) (xs : List A) → length (xs ++ x ∷ []) ≡ length xs + 1
one_more_lem x xs = omega (arith, length-append xs (x ∷ []))

-- one event more is queued
pub queue_more : (i : ℕ) (e : Event) (b : Inbox) → length (recording i e b).queue ≡ length b.queue + 1
queue_more i e b = one_more_lem _ b.queue

-- one event more is recorded
pub recorded_one : (i : ℕ) (e : Event) (b : Inbox) → length (recorded (recording i e b)) ≡ length (recorded b) + 1
recorded_one i e b =
    let k = keeps i (stamped e b.pending) in
    rw (← (append_assoc b.read b.queue (k ∷ []))) (one_more_lem k (recorded b))

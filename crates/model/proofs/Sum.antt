-- The sum: events read, events queued, the lost counts of both and the pending one are all the events that arrived.
use Prim.Native.Nat.{ℕ, ◌+◌, ◌≤◌}
use mathlib.Core.Path.{◌≡◌, refl, ap}
use mathlib.Core.List.{List, [], ◌∷◌, ◌++◌}
use native.Mathlib.Omega.{arith}
use lib.ListN.{length}
use Rattle.events.specs.Records.{stamped}
use Rattle.settings.specs.declared.Settings.{Settings}
use Rattle.model.specs.Inbox.{Kept, keeps, Inbox}
use Rattle.model.specs.Box.{Asked, run, fresh}
use Rattle.model.specs.Promised.{lost_sum, AddsUp}
use Rattle.model.proofs.Recorded.{one_more_lem}
use Rattle.model.proofs.Lasting.{Lasting, run_keeps}

-- events and their lost counts
abbrev worth : List Kept → ℕ
worth ks = length ks + lost_sum ks

-- one list behind the other
worth_append : (ks ls : List Kept) → worth (ks ++ ls) ≡ worth ks + worth ls
worth_append [] ls = omega arith
worth_append (k ∷ ks) ls = omega (arith, worth_append ks ls)

-- all the events of a channel: each recorded one with those that it counts, and those lost since
abbrev weight : Inbox → ℕ
weight b = worth b.read + worth b.queue + b.pending

-- while the count of lost events has not stopped, nothing is missing
abbrev Summed : Inbox → Type 0
Summed b = length b.arrived ≤ 4294967295 → weight b ≡ length b.arrived

-- whatever happens to the channel keeps the weight: an arrival adds 1 to it, recorded or lost; a read moves it
summed_lasts : Lasting Summed
summed_lasts = record {
  recorded = λ i e b room p bound.
      let a = one_more_lem (keeps i e) b.arrived in
      omega (arith, p (omega arith), worth_append b.queue (keeps i (stamped e b.pending) ∷ []));
  lost = λ i e b full p bound. let a = one_more_lem (keeps i e) b.arrived in let w = p (omega arith) in omega arith;
  read = λ k rest b q p bound. omega (arith, p bound, ap worth q, worth_append b.read (k ∷ []));
  filter = λ code mask b p. p;
  mask = λ mask b p. p;
}

-- THEOREM. After any calls: of up to 4,294,967,295 events that arrived, each is read, queued or in a lost count
pub sum : (s : Settings) (xs : List Asked) → length (run 0 xs (fresh s)).inbox.arrived ≤ 4294967295
    → AddsUp (run 0 xs (fresh s)).inbox
sum s xs bound = let w = run_keeps Summed summed_lasts 0 xs (fresh s) (λ h. refl) bound in omega arith

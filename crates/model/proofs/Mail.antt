-- Messages: every one sent is taken or purged, in order, or waits; a take moves the oldest to the register.
use Prim.Native.Nat.{ℕ, ◌≤◌}
use mathlib.Core.Path.{◌≡◌, refl, ap, ◌∙◌}
use mathlib.Core.List.{List, [], ◌∷◌, ◌++◌, map, map-append, append_assoc, append-nil}
use native.Mathlib.Omega.{arith}
use lib.ListN.{length}
use Rattle.std.specs.Prelude.{Option, Some, None}
use Rattle.std.proofs.lemmas.Option.{none-some}
use Rattle.messages.specs.declared.Message.{Message}
use Rattle.sites.specs.declared.Site.{Site}
use Rattle.settings.specs.declared.Shared.{Shared}
use Rattle.settings.specs.declared.Settings.{Settings}
use Rattle.model.specs.Outbox.{Gone, took, purged, Outbox, take, takes, takes_into, posts}
use Rattle.model.specs.Box.{fresh, Asked, run}
use Rattle.model.specs.Promised.{message_of, last_taken, Mailed, TakeMoves}
use Rattle.model.proofs.Recorded.{one_more_lem}
use Rattle.model.proofs.Posting.{Ways, sends_run}

-- ---- what was sent

-- the messages purged are those of the list
purged_are : (ms : List Message) → map message_of (map purged ms) ≡ ms
purged_are [] = refl
purged_are (m ∷ ms) = ap (λ (l : List Message). m ∷ l) (purged_are ms)

-- the last message taken is the one taken last
last_took : (last : Option Message) (gs : List Gone) (m : Message) → last_taken last (gs ++ took m ∷ []) ≡ Some m
last_took last [] m = refl
last_took last (took n ∷ gs) m = last_took (Some n) gs m
last_took last (purged n ∷ gs) m = last_took last gs m

-- every way that a call on a send channel can go
mailed_posts : (site : Site) (o : Outbox) → Mailed o → Ways site o (λ p. Mailed p.outbox)
mailed_posts site o p = record {
  kept = λ a. p;
  put_in = λ a m z room. record {
    in_order = rw (p.in_order, append_assoc (map message_of o.gone) o.buffer (m ∷ []));
    last = p.last;
  };
  taken = λ tick m rest e g. record {
    in_order = rw (
      p.in_order,
      g,
      map-append message_of o.gone (took m ∷ []),
      append_assoc (map message_of o.gone) (m ∷ []) rest,
    );
    last = λ n h. last_took None o.gone m ∙ h;
  };
  finished = λ tick m e. record { in_order = p.in_order; last = λ n h. absurd (none-some n h) };
  aborted = λ tick. record {
    in_order = rw (
      p.in_order,
      map-append message_of o.gone (map purged o.buffer),
      purged_are o.buffer,
      append-nil (map message_of o.gone ++ o.buffer),
    );
    last = λ n h. absurd (none-some n h);
  };
}

-- THEOREM. After any calls: messages sent are taken or purged, in order, or wait; a full register holds the last taken
pub mailed : (s : Settings) (xs : List Asked) → Mailed (run 0 xs (fresh s)).outbox
mailed s xs =
    sends_run Mailed mailed_posts 0 xs (fresh s)
    (record { in_order = refl; last = λ m e. absurd (none-some m e) })

-- ---- the buffer is bounded

-- of n places no more than n are filled
abbrev Fits : ℕ → Outbox → Type 0
Fits n o = (o.places ≡ n) × (length o.buffer ≤ n)

-- every way that a call on a send channel can go
fits_posts : (n : ℕ) (site : Site) (o : Outbox) → Fits n o → Ways site o (λ p. Fits n p.outbox)
fits_posts n site o p = record {
  kept = λ a. p;
  put_in = λ a m z room. (p.0, let q = p.0 in omega (arith, one_more_lem m o.buffer));
  taken = λ tick m rest e g. (p.0, let q = p.1 in omega (arith, ap length g));
  finished = λ tick m e. p;
  aborted = λ tick. (p.0, omega arith);
}

-- THEOREM. After any calls: no more messages wait than there are places
pub buffer_bounded : (s : Settings) (xs : List Asked) → length (run 0 xs (fresh s)).outbox.buffer ≤ s.buffer
buffer_bounded s xs = (sends_run (Fits s.buffer) (fits_posts s.buffer) 0 xs (fresh s) (refl, omega arith)).1

-- ---- a take

-- from an empty register
oldest_moves : (site : Site) (tick : ℕ) (o : Outbox) (ms : List Message) → o.register ≡ None → o.buffer ≡ ms
    → (takes site tick ms o).said.number ≡ 0 → TakeMoves o (takes site tick ms o)
oldest_moves site tick o [] e g z = absurd (omega arith)
oldest_moves site tick o (m ∷ rest) e g z =
    record { message = m; was_empty = e; was_oldest = g; holds = refl; bytes = refl }

-- from any register
register_moves : (site : Site) (tick : ℕ) (o : Outbox) (register : Option Message) → o.register ≡ register
    → (takes_into register site tick o).said.number ≡ 0 → TakeMoves o (takes_into register site tick o)
register_moves site tick o None e z = oldest_moves site tick o o.buffer e refl z
register_moves site tick o (Some m) e z = absurd (omega arith)

-- THEOREM. A take that answers 0 has moved the oldest message to the register, which was empty, and answers its bytes
pub take_moves : (tick : ℕ) (s : Shared) (o : Outbox) → (posts (take tick) s o).said.number ≡ 0
    → TakeMoves o (posts (take tick) s o)
unfolding posts
take_moves tick s o z = register_moves s.site tick o o.register refl z

-- THEOREM. With an empty register, a take answers 0 where a message waits
pub take_answers : (tick : ℕ) (s : Shared) (o : Outbox) (m : Message) (rest : List Message) → o.register ≡ None
    → o.buffer ≡ m ∷ rest → (posts (take tick) s o).said.number ≡ 0
unfolding posts
take_answers tick s o m rest e g = rw (e, g)

-- What a possible send channel says of its ring.
use mathlib.Core.Path.{◌≡◌}
use mathlib.Core.Bool.{true, not, ◌&&◌, ◌||◌}
use Prim.Native.Nat.{ℕ, ◌*◌, ◌≤◌}
use borrow.Author.Tests.{leb-true}
use Rattle.common.specs.Rings.{good_ring}
use Rattle.common.proofs.Bools.{and_left, and_right}
use Rattle.common.proofs.RingFacts.{RingFacts, good_ring_lem}
use Rattle.messages.specs.Records.{message_size, good_message}
use Rattle.settings.specs.TxMode.{good_tx}
use Rattle.buffer.specs.Channel.{send_limit, good_send, send_fits}
use Rattle.buffer.specs.declared.Send.{Send}

-- a good send channel has a good ring
pub send_ring : (s : Send) → good_send s ≡ true → RingFacts send_limit s.ring
unfolding good_send
send_ring s h =
    good_ring_lem send_limit s.ring
    (and_right (good_tx s.tx) (good_ring send_limit s.ring)
    (and_left (good_tx s.tx && good_ring send_limit s.ring) (not s.held || good_message s.message) h))

-- a table that is long enough
pub table_in : (s : Send) (n : ℕ) → send_fits s n ≡ true → message_size * s.ring.capacity ≤ n
table_in s n h = leb-true (message_size * s.ring.capacity) n h

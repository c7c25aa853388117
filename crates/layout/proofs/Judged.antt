-- What the tests of the send channel in place show.
use mathlib.Core.Bool.{Bool, true, ◌&&◌}
use mathlib.Core.List.{List}
use Prim.Native.Nat.{ℕ, ◌+◌}
use lib.Dec.{leb, eqb}
use Rattle.common.specs.Choice.{pick}
use Rattle.common.specs.Rings.{good_ring}
use Rattle.messages.specs.Records.{good_message}
use Rattle.settings.specs.TxMode.{good_tx}
use Rattle.buffer.specs.Channel.{send_limit}
use Rattle.layout.specs.Parts.{word, register_in, send_in}

-- TxMode, and the ring behind it
abbrev pub buffer : List ℕ → ℕ → Bool
buffer s at = good_tx (send_in s at).tx && good_ring send_limit (send_in s at).ring

-- the register is held or not, and a message if it is
abbrev pub register : List ℕ → ℕ → Bool
register s at = pick (eqb (word s at) 0) true (leb (word s at) 1 && good_message (register_in s (at + 4)))

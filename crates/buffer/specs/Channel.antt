-- A send channel and its transmit register (01, "Sending").
use Rattle.std.specs.Prelude.{ℕ, ◌*◌, Bool, true, false, not, ◌&&◌, ◌||◌, List, leb}
use Rattle.common.specs.Slots.{slot}
use Rattle.common.specs.Rings.{good_ring, slot_of, without_oldest, purged}
use Rattle.common.specs.declared.Ring.{Ring}
use Rattle.messages.specs.Records.{message_size, good_message, no_message}
use Rattle.messages.specs.declared.Message.{Message}
use Rattle.settings.specs.TxMode.{good_tx}
use Rattle.buffer.specs.declared.Send.{Send}

-- send buffer 1 to 1,024 messages
abbrev pub send_limit : ℕ
send_limit = 1024

-- settings and numbers that a send channel can have: TxMode, a ring, and a held register that is a message
unfoldable pub good_send : Send → Bool
good_send s = good_tx s.tx && good_ring send_limit s.ring && (not s.held || good_message s.message)

-- a lent table of n bytes is as long as the capacity needs
abbrev pub send_fits : Send → ℕ → Bool
send_fits s n = leb (message_size * s.ring.capacity) n

-- the oldest slot
abbrev pub oldest : Send → List ℕ → List ℕ
oldest s t = slot message_size t (slot_of s.ring 0)

-- the channel with another ring
abbrev pub with_ring : Send → Ring → Send
with_ring s ring = record { tx = s.tx; ring = ring; held = s.held; message = s.message }

-- the oldest message moved to the register
abbrev pub after_take : Send → Message → Send
after_take s m = record { tx = s.tx; ring = without_oldest s.ring; held = true; message = m }

-- the register emptied
abbrev pub after_done : Send → Send
after_done s = record { tx = s.tx; ring = s.ring; held = false; message = no_message }

-- the register emptied and the buffer purged
abbrev pub after_abort : Send → Send
after_abort s = after_done (with_ring s (purged s.ring))

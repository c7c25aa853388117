-- The refusal of each call on a send channel: 0, or the first that applies (01, "Refusal numbers").
use Rattle.std.specs.Prelude.{ℕ, Bool, ◌&&◌, List, length, ltb, eqb}
use Rattle.common.specs.Choice.{pick}
use Rattle.messages.specs.Records.{is_message}
use Rattle.settings.specs.Ranges.{good_shared}
use Rattle.settings.specs.declared.Shared.{Shared}
use Rattle.buffer.specs.Channel.{good_send, send_fits, oldest}
use Rattle.buffer.specs.declared.Send.{Send}

-- settings and channel are possible: else 2
unfoldable pub possible : Shared → Send → Bool
possible h s = good_shared h && good_send s

-- and the lent table, of n bytes, is long enough: else 2
unfoldable pub ready : Shared → Send → ℕ → Bool
ready h s n = possible h s && send_fits s n

-- send and send_text: 2, the message's own refusal, 5 where the buffer is full
unfoldable pub put_refusal : Shared → Send → ℕ → ℕ → ℕ
put_refusal h s n own =
    pick (ready h s n) (pick (eqb own 0) (pick (ltb s.ring.count s.ring.capacity) 0 5) own) 2

-- take, before the oldest slot is looked at: 2, 5 where the register is occupied, 4 where nothing waits
unfoldable pub wait_refusal : Shared → Send → ℕ → ℕ
wait_refusal h s n = pick (ready h s n) (pick s.held 5 (pick (eqb s.ring.count 0) 4 0)) 2

-- take: 2, 5, 4, 14 for a damaged slot
unfoldable pub take_refusal : Shared → Send → List ℕ → ℕ
take_refusal h s t =
    pick (eqb (wait_refusal h s (length t)) 0) (pick (is_message (oldest s t)) 0 14) (wait_refusal h s (length t))

-- done: 2, 4 where the register is empty
unfoldable pub done_refusal : Shared → Send → ℕ
done_refusal h s = pick (possible h s) (pick s.held 0 4) 2

-- abort: 2
unfoldable pub abort_refusal : Shared → Send → ℕ
abort_refusal h s = pick (possible h s) 0 2

-- The numbers that the paper lists for each call, its refusals in their order, then its answers,
-- and what a refusal leaves (01, "Refusal numbers").
use Rattle.std.specs.Prelude.{ℕ, ◌≡◌, true, List, [], ◌∷◌, eqb}
use Rattle.common.specs.Choice.{pick}
use Rattle.common.specs.Numbers.{all_zero, among}
use Rattle.message_text.specs.Reading.{used_of}
use Rattle.model.specs.Inbox.{ReceiveCall, read_record, read_text, look}
use Rattle.model.specs.Inbox.{set_filter, set_event_mask, identifiers_through}
use Rattle.model.specs.Outbox.{SendCall, send, send_text, take, done, abort}
use Rattle.model.specs.Box.{DeviceCall, raise, set_mode, set_format, set_site}
use Rattle.model.specs.Box.{PrintCall, print_message_record, print_event_record, print_message}
use Rattle.model.specs.Box.{Box, Step, Call, on_device, on_receive, on_send, on_align}

abbrev pub listed_device : DeviceCall → List ℕ
listed_device (raise code tick m) = 2 ∷ 13 ∷ 8 ∷ 9 ∷ 10 ∷ 100 ∷ 101 ∷ 102 ∷ 103 ∷ []
listed_device (set_mode mode tick) = 2 ∷ 1 ∷ 0 ∷ []
listed_device (set_format format tick) = 2 ∷ 1 ∷ 0 ∷ []
listed_device (set_site site) = 2 ∷ 1 ∷ 0 ∷ []

abbrev pub listed_receive : ReceiveCall → List ℕ
listed_receive read_record = 2 ∷ 4 ∷ 14 ∷ 0 ∷ []
listed_receive read_text = 2 ∷ 3 ∷ 4 ∷ 14 ∷ 0 ∷ []
listed_receive (look p) = 2 ∷ 4 ∷ 0 ∷ []
listed_receive (set_filter code mask) = 2 ∷ 0 ∷ []
listed_receive (set_event_mask mask) = 2 ∷ 1 ∷ 0 ∷ []
listed_receive (identifiers_through format) = 2 ∷ 13 ∷ 0 ∷ []

abbrev pub listed_send : SendCall → List ℕ
listed_send (send m) = 2 ∷ 13 ∷ 8 ∷ 9 ∷ 10 ∷ 5 ∷ 0 ∷ []
listed_send (send_text text) = 2 ∷ 6 ∷ 7 ∷ 8 ∷ 9 ∷ 10 ∷ 11 ∷ 12 ∷ 5 ∷ 0 ∷ []
listed_send (take tick) = 2 ∷ 5 ∷ 4 ∷ 14 ∷ 0 ∷ []
listed_send (done tick) = 2 ∷ 4 ∷ 0 ∷ []
listed_send (abort tick) = 2 ∷ 0 ∷ []

abbrev pub listed_print : PrintCall → List ℕ
listed_print (print_message_record s) = 2 ∷ 3 ∷ 14 ∷ 0 ∷ []
listed_print (print_event_record s) = 2 ∷ 3 ∷ 14 ∷ 0 ∷ []
listed_print (print_message m) = 2 ∷ 3 ∷ 13 ∷ 8 ∷ 9 ∷ 10 ∷ 0 ∷ []

unfoldable pub listed : Call → List ℕ
listed (on_device x) = listed_device x
listed (on_receive x) = listed_receive x
listed (on_send x) = listed_send x
listed (on_align x) = listed_print x

-- a list but for one number
abbrev pub without : ℕ → List ℕ → List ℕ
without n [] = []
without n (m ∷ ms) = pick (eqb m n) (without n ms) (m ∷ without n ms)

-- the numbers of a call while only the calls write the tables: no 2, and 14 only for a record that the caller hands in
unfoldable pub usual : Call → List ℕ
usual (on_device x) = without 2 (listed_device x)
usual (on_receive x) = without 14 (without 2 (listed_receive x))
usual (on_send x) = without 14 (without 2 (listed_send x))
usual (on_align x) = without 2 (listed_print x)

-- the value beside refusal n of a call on the send channel: a refused text answers the bytes used, but 0 on 2, 5 and 6
abbrev pub beside_send : SendCall → ℕ → ℕ
beside_send (send_text text) n = pick (among n (2 ∷ 5 ∷ 6 ∷ [])) 0 (used_of text)
beside_send (send m) n = 0
beside_send (take tick) n = 0
beside_send (done tick) n = 0
beside_send (abort tick) n = 0

-- the value beside refusal n: 0 but for a refused text
unfoldable pub beside : Call → ℕ → ℕ
beside (on_device x) n = 0
beside (on_receive x) n = 0
beside (on_send x) n = beside_send x n
beside (on_align x) n = 0

-- a refused call leaves the box, prints nothing, and answers zero bytes and this value
pub record Untouched (b : Box) (value : ℕ) (r : Step) : Type 0 where
  pub box_kept : r.after ≡ b
  pub no_line : r.said.line ≡ []
  pub zero_bytes : all_zero r.said.bytes ≡ true
  pub value_is : r.said.value ≡ value

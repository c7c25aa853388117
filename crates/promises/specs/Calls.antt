-- What each call of the device answers and leaves: the very definitions that the contracts of the code cite. Demand 1.
use Rattle.std.specs.Prelude.{ℕ, ◌≡◌, true, List, []}
use Rattle.common.specs.Choice.{pick}
use Rattle.common.specs.Numbers.{all_zero, among}
use Rattle.common.specs.Refusals.{is_refusal}
use Rattle.inbox.specs.Calls.{looked}
use Rattle.device.specs.State.{good}
use Rattle.device.specs.Outcomes.{Lent, Outcome, ends}
use Rattle.recorder.specs.Changes.{mode_set, format_set, site_set, filter_set, event_mask_set}
use Rattle.recorder.specs.Receiving.{raised, record_read, text_read, look_said, through}
use Rattle.recorder.specs.Sending.{sent, text_sent}
use Rattle.recorder.specs.Register.{taken, finished, aborted}
use Rattle.recorder.specs.Printing.{message_record_printed, event_record_printed, message_printed}
use Rattle.device.specs.declared.Device.{Device}
use Rattle.model.specs.Inbox.{ReceiveCall, read_record, read_text, look, set_filter, set_event_mask, identifiers_through}
use Rattle.model.specs.Outbox.{SendCall, send, send_text, take, done, abort}
use Rattle.model.specs.Box.{DeviceCall, raise, set_mode, set_format, set_site, PrintCall, print_message_record}
use Rattle.model.specs.Box.{print_event_record, print_message, Call, on_device, on_receive, on_send, on_align}
use Rattle.model.specs.Listed.{listed, beside}

abbrev pub device_outcome : DeviceCall → Device → Lent → Outcome
device_outcome (raise code tick m) d l = raised code tick m d l
device_outcome (set_mode mode tick) d l = mode_set mode tick d l
device_outcome (set_format format tick) d l = format_set format tick d l
device_outcome (set_site site) d l = site_set site d l

-- a look changes nothing
abbrev pub receive_outcome : ReceiveCall → Device → Lent → Outcome
receive_outcome read_record d l = record_read d l
receive_outcome read_text d l = text_read d l
receive_outcome (look p) d l = ends (look_said p d l) 0 (pick (good d) (looked d.receive l.queue p) []) d l
receive_outcome (set_filter code mask) d l = filter_set code mask d l
receive_outcome (set_event_mask mask) d l = event_mask_set mask d l
receive_outcome (identifiers_through format) d l = through format d l

abbrev pub send_outcome : SendCall → Device → Lent → Outcome
send_outcome (send m) d l = sent m d l
send_outcome (send_text text) d l = text_sent text d l
send_outcome (take tick) d l = taken tick d l
send_outcome (done tick) d l = finished tick d l
send_outcome (abort tick) d l = aborted tick d l

abbrev pub print_outcome : PrintCall → Device → Lent → Outcome
print_outcome (print_message_record s) d l = message_record_printed s d l
print_outcome (print_event_record s) d l = event_record_printed s d l
print_outcome (print_message m) d l = message_printed m d l

unfoldable pub outcome : Call → Device → Lent → Outcome
outcome (on_device x) d l = device_outcome x d l
outcome (on_receive x) d l = receive_outcome x d l
outcome (on_send x) d l = send_outcome x d l
outcome (on_align x) d l = print_outcome x d l

-- demand 1 of an outcome: its number is among ns, and a refusal leaves device and lent bytes and answers zero bytes
-- and the value that stands beside it
pub record Harmless (ns : List ℕ) (value : ℕ → ℕ) (d : Device) (l : Lent) (o : Outcome) : Type 0 where
  pub in_list : among o.number ns ≡ true
  pub device_kept : is_refusal o.number ≡ true → o.device ≡ d
  pub bytes_kept : is_refusal o.number ≡ true → o.lent ≡ l
  pub zero_bytes : is_refusal o.number ≡ true → all_zero o.bytes ≡ true
  pub value_is : is_refusal o.number ≡ true → o.value ≡ value o.number

-- demand 1 of a call on any device with any lent bytes
abbrev pub CallHarmless : Call → Device → Lent → Type 0
CallHarmless x d l = Harmless (listed x) (beside x) d l (outcome x d l)

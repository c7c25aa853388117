-- Calls as a program can make them: what the machine types of their arguments give, and nothing else.
use Rattle.std.specs.Prelude.{ℕ, ◌<◌, ◌≡◌, List, length}
use Rattle.common.specs.Numbers.{Bytes}
use Rattle.messages.specs.declared.Message.{Message}
use Rattle.settings.specs.declared.Settings.{Settings}
use Rattle.model.specs.Inbox.{ReceiveCall, read_record, read_text, look, set_filter, set_event_mask, identifiers_through}
use Rattle.model.specs.Outbox.{SendCall, send, send_text, take, done, abort}
use Rattle.model.specs.Box.{DeviceCall, raise, set_mode, set_format, set_site, PrintCall, print_message_record}
use Rattle.model.specs.Box.{print_event_record, print_message, Call, on_device, on_receive, on_send, on_align, Asked}

-- a 32-bit number
abbrev pub Word : ℕ → Type 0
Word n = n < 4294967296

-- a 64-bit number
abbrev pub LongWord : ℕ → Type 0
LongWord n = n < 18446744073709551616

-- a frame: four numbers of 32 bits, and eight bytes
pub record Framed (m : Message) : Type 0 where
  pub id : Word m.header.id
  pub format : Word m.header.format
  pub rtr : Word m.header.rtr
  pub dlc : Word m.header.dlc
  pub eight : length m.bytes ≡ 8
  pub bytes : Bytes m.bytes

abbrev pub TypedDevice : DeviceCall → Type 0
TypedDevice (raise code tick m) = Word code × Word tick × Framed m
TypedDevice (set_mode mode tick) = Word mode × Word tick
TypedDevice (set_format format tick) = Word format × Word tick
TypedDevice (set_site site) = Word site.offset × LongWord site.second

abbrev pub TypedReceive : ReceiveCall → Type 0
TypedReceive read_record = Unit {0}
TypedReceive read_text = Unit {0}
TypedReceive (look p) = Word p
TypedReceive (set_filter code mask) = Word code × Word mask
TypedReceive (set_event_mask mask) = Word mask
TypedReceive (identifiers_through format) = Word format

abbrev pub TypedSend : SendCall → Type 0
TypedSend (send m) = Framed m
TypedSend (send_text text) = Bytes text
TypedSend (take tick) = Word tick
TypedSend (done tick) = Word tick
TypedSend (abort tick) = Word tick

abbrev pub TypedPrint : PrintCall → Type 0
TypedPrint (print_message_record s) = Bytes s
TypedPrint (print_event_record s) = Bytes s
TypedPrint (print_message m) = Framed m

abbrev pub Typed : Call → Type 0
Typed (on_device x) = TypedDevice x
Typed (on_receive x) = TypedReceive x
Typed (on_send x) = TypedSend x
Typed (on_align x) = TypedPrint x

-- a call of a sequence, with the output buffer that it is lent: any bytes, any room
pub record Made : Type 0 where
  pub call : Call
  pub out : List ℕ
  pub typed : Typed call

-- the same call as the model has it
abbrev pub asked : Made → Asked
asked x = record { call = x.call; room = length x.out }

-- what opening is given: code and mask are any 32-bit numbers, and opening judges all others
pub record TypedSettings (s : Settings) : Type 0 where
  pub code : Word s.code
  pub mask : Word s.mask

-- What each sv_ call over the bytes of a kept device answers and leaves.
use Rattle.std.specs.Prelude.{ℕ, ◌≡◌, Bool, true, false, List, [], length, eqb}
use Rattle.common.specs.Choice.{pick}
use Rattle.settings.specs.Given.{settings_size, settings_in}
use Rattle.device.specs.State.{no_device}
use Rattle.device.specs.Outcomes.{Lent, Outcome, lends, ends, refuses}
use Rattle.device.specs.Opening.{opened}
use Rattle.device.specs.declared.Device.{Device}
use Rattle.model.specs.Inbox.{ReceiveCall, read_record, read_text, look, set_filter, set_event_mask, identifiers_through}
use Rattle.model.specs.Outbox.{SendCall, send, send_text, take, done, abort}
use Rattle.model.specs.Box.{DeviceCall, raise, set_mode, set_format, set_site, Call, on_device, on_receive, on_send, on_align}
use Rattle.promises.specs.Calls.{outcome}
use Rattle.kept.specs.State.{state_size, state_bytes, device_in, is_state}
use Rattle.kept.specs.Handing.{left}

-- what an sv_ call is lent beside the state: the event table, the message table, the output buffer
pub record Borrows : Type 0 where
  pub queue : Bool
  pub send : Bool
  pub out : Bool

-- the three, in that order
abbrev pub borrows : Bool → Bool → Bool → Borrows
borrows q t o = record { queue = q; send = t; out = o }

-- what a call on the device is lent
abbrev pub device_borrows : DeviceCall → Borrows
device_borrows (raise code tick m) = borrows true false false
device_borrows (set_mode mode tick) = borrows true false false
device_borrows (set_format format tick) = borrows true false false
device_borrows (set_site site) = borrows false false false

-- what a call on the receive channel is lent
abbrev pub receive_borrows : ReceiveCall → Borrows
receive_borrows read_record = borrows true false false
receive_borrows read_text = borrows true false true
receive_borrows (look p) = borrows true false false
receive_borrows (set_filter code mask) = borrows false false false
receive_borrows (set_event_mask mask) = borrows false false false
receive_borrows (identifiers_through format) = borrows false false false

-- what a call on the send channel is lent
abbrev pub send_borrows : SendCall → Borrows
send_borrows (send m) = borrows false true false
send_borrows (send_text text) = borrows false true false
send_borrows (take tick) = borrows true true false
send_borrows (done tick) = borrows true false false
send_borrows (abort tick) = borrows true false false

-- what any call is lent
unfoldable pub borrowed : Call → Borrows
borrowed (on_device x) = device_borrows x
borrowed (on_receive x) = receive_borrows x
borrowed (on_send x) = send_borrows x
borrowed (on_align x) = borrows false false true

-- a call sees no byte of what it is not lent
abbrev pub lent_to : Borrows → Lent → Lent
lent_to v l = lends (pick v.queue l.queue []) (pick v.send l.send []) (pick v.out l.out [])

-- and what it is not lent stays
abbrev pub hands_back : Borrows → Lent → Lent → Lent
hands_back v l m =
    lends (pick v.queue m.queue l.queue) (pick v.send m.send l.send) (pick v.out m.out l.out)

-- an outcome, with what the call was not lent
abbrev pub whole : Borrows → Lent → Outcome → Outcome
whole v l o = ends o.number o.value o.bytes o.device (hands_back v l o.lent)

-- a call on the device that the state stands for: the recorder's outcome, or 2 for bytes that are no state
unfoldable pub on : (Device → Lent → Outcome) → List ℕ → Lent → Outcome
on call s l = pick (is_state s) (call (device_in s) l) (refuses 2 no_device l)

-- what the sv_ call of the model's call x answers and leaves over the state bytes s
unfoldable pub called : Call → List ℕ → Lent → Outcome
called x s l = whole (borrowed x) l (on (outcome x) s (lent_to (borrowed x) l))

-- a device that the state's bytes cannot keep
unfoldable pub opened_on : List ℕ → List ℕ → Lent → Outcome
opened_on given s l =
    let o : Outcome = opened (settings_in given) l in
    pick (eqb (length given) settings_size)
    (pick (eqb o.number 0) (pick (eqb (length s) state_size) o (refuses 2 no_device l)) o)
    (refuses 1 no_device l)

-- what every call promises over the state s: its number, every byte of the state, every byte that it was lent
pub record Called (o : Outcome) (s : List ℕ) (n : ℕ) (state : List ℕ) (lent : Lent) : Type 0 where
  pub number : n ≡ o.number
  pub state_is : state ≡ left o.number s (state_bytes o.device)
  pub lent_bytes : lent ≡ o.lent

-- and a call with a place for a value, in which `was` stood
pub record CalledWith {A : Type 0} (o : Outcome) (s : List ℕ) (was new : A) (n : ℕ) (state : List ℕ) (lent : Lent)
    (value : A) : Type 0 where
  pub call : Called o s n state lent
  pub value_is : value ≡ left o.number was new

-- an outcome leaves every byte of the state s, every lent byte, and whatever stands in a place for a value
pub record Unchanged (o : Outcome) (s : List ℕ) (l : Lent) : Type 1 where
  pub state_kept : left o.number s (state_bytes o.device) ≡ s
  pub lent_kept : o.lent ≡ l
  pub place_kept : {A : Type 0} (old new : A) → left o.number old new ≡ old

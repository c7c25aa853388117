-- The device kept in 100 bytes, part by part: what all channels share, the receive channel, the send channel.
use Rattle.std.specs.Prelude.{ℕ, ◌+◌, Bool, ◌&&◌, List, ◌++◌, length, leb, eqb}
use Rattle.queue.specs.Channel.{moved}
use Rattle.buffer.specs.declared.Send.{Send}
use Rattle.layout.specs.Parts.{shared_numbers, receive_numbers, send_numbers, word_bytes, word, shared_in, receive_in}
use Rattle.layout.specs.Parts.{send_in}
use Rattle.device.specs.State.{good, with_receive, with_send}
use Rattle.device.specs.declared.Device.{Device}

-- ---- the layout

-- the bytes of a state, and where its second and third part begin
abbrev pub state_size : ℕ
state_size = 100

abbrev pub receive_at : ℕ
receive_at = 24

abbrev pub send_at : ℕ
send_at = 56

-- all twenty-three numbers
abbrev pub state_numbers : Device → List ℕ
state_numbers d = shared_numbers d.shared ++ receive_numbers d.receive ++ send_numbers d.send

-- a device's bytes: its numbers, then the register's eight data bytes
unfoldable pub state_bytes : Device → List ℕ
state_bytes d = word_bytes (state_numbers d) ++ d.send.message.bytes

-- ---- the device that bytes stand for

-- each part at its place
unfoldable pub device_in : List ℕ → Device
device_in s = record { shared = shared_in s 0; receive = receive_in s receive_at; send = send_in s send_at }

-- bytes that are a state: as many, and the register held or not; all else is the recorder's to judge
unfoldable pub is_state : List ℕ → Bool
is_state s = eqb (length s) state_size && leb (word s (send_at + 16)) 1

-- and that device is possible
unfoldable pub is_possible : List ℕ → Bool
is_possible s = is_state s && good (device_in s)

-- ---- what a call moves

-- the device with another count and pending lost count of its queue: what a raise can change
abbrev pub counted : Device → ℕ → ℕ → Device
counted d count pending =
    let r = d.receive in
    with_receive d (moved r (record { capacity = r.ring.capacity; first = r.ring.first; count = count }) pending)

-- with another first and count: what a read can change
abbrev pub advanced : Device → ℕ → ℕ → Device
advanced d first count =
    let r = d.receive in
    with_receive d (moved r (record { capacity = r.ring.capacity; first = first; count = count }) r.pending)

-- with the first, count and register of another send channel: what take, done and abort can change there
abbrev pub transferred : Device → Send → Device
transferred d s = with_send d (record {
  tx = d.send.tx;
  ring = record { capacity = d.send.ring.capacity; first = s.ring.first; count = s.ring.count };
  held = s.held;
  message = s.message;
})

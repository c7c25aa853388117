-- No message's line is longer than 37 bytes, and 37 are reached: the room that is asked for is exact.
use Prim.Native.Nat.{ℕ, ◌≤◌}
use mathlib.Core.Path.{◌≡◌, refl}
use mathlib.Core.List.{List, [], ◌∷◌}
use native.Mathlib.Omega.{arith}
use lib.ListN.{length, take, length-append, length-take}
use Rattle.digits.specs.Digits.{hex, fields}
use Rattle.digits.proofs.Lengths.{hex_length, fields_length}
use Rattle.ids.specs.Frames.{carried, shown_id}
use Rattle.ids.specs.declared.Header.{Header}
use Rattle.ids.proofs.Frames.{carried_le}
use Rattle.messages.specs.declared.Message.{Message}
use Rattle.message_text.specs.Printing.{message_room, message_text, message_line}

taken_le : (n : ℕ) (b : List ℕ) → length (take n b) ≤ n
taken_le n b = rw (length-take n b) (omega arith)

-- no message's text is longer than 37 bytes, whatever is shown as its identifier
pub message_text_le : (id : ℕ) (h : Header) (b : List ℕ) → length (message_text id h b) ≤ message_room
unfolding message_text
message_text_le id h b =
    simp (length-append, hex_length, fields_length) (omega (arith, carried_le h, taken_le (carried h) b))

-- no message's line is longer than 37 bytes, be its header good or not
pub message_line_le : (align : ℕ) (m : Message) → length (message_line align m) ≤ message_room
unfolding message_line
message_line_le align m = message_text_le (shown_id align m.header) m.header m.bytes

-- an extended frame that carries eight bytes
abbrev pub longest : Message
longest =
    record {
      header = record { id = 0x1FFFFFFF; format = 2; rtr = 0; dlc = 15 };
      bytes = 1 ∷ 2 ∷ 3 ∷ 4 ∷ 5 ∷ 6 ∷ 7 ∷ 8 ∷ [];
    }

-- a line of 37 bytes
pub message_line_reached : length (message_line 0 longest) ≡ message_room
unfolding message_line message_text hex fields carried
message_line_reached = refl

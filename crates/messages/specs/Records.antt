-- Messages and their 16 bytes (01, "Frames and records").
use Rattle.std.specs.Prelude.{ℕ, ◌-◌, ◌%◌, Bool, ◌&&◌, List, [], ◌∷◌, ◌++◌, length, get_or, take, drop, replicate, eqb, Option, Some, None}
use Rattle.std.proofs.Math.Seq.{slice}
use Rattle.common.specs.Choice.{pick}
use Rattle.common.specs.Numbers.{bytes_of, number_of, all_zero}
use Rattle.ids.specs.Frames.{good_header, carried}
use Rattle.ids.specs.declared.Header.{Header}
use Rattle.messages.specs.declared.Message.{Message}

-- a message is 16 bytes
abbrev pub message_size : ℕ
message_size = 16

-- a frame as it is stored: bytes not carried are stored as zero
unfoldable pub stored : Message → Message
stored m = record {
  header = m.header;
  bytes = take (carried m.header) m.bytes ++ replicate (8 - carried m.header) 0;
}

-- a good message: a good header, and zeros for the bytes not carried
unfoldable pub good_message : Message → Bool
good_message m = good_header m.header && all_zero (drop (carried m.header) m.bytes)

-- raw identifier 0..3, format 4, rtr 5, dlc 6, zero 7
abbrev pub header_bytes : Header → List ℕ
header_bytes h = bytes_of 4 h.id ++ h.format % 256 ∷ h.rtr % 256 ∷ h.dlc % 256 ∷ 0 ∷ []

-- a message's 16 bytes: the header, data 8..15
unfoldable pub message_bytes : Message → List ℕ
message_bytes m = header_bytes m.header ++ m.bytes

-- the message that 16 bytes stand for
unfoldable pub message_in : List ℕ → Message
message_in s = record {
  header = record { id = number_of (slice 0 4 s); format = get_or s 4 0; rtr = get_or s 5 0; dlc = get_or s 6 0 };
  bytes = slice 8 16 s;
}

-- bytes that are no damaged record: 16 of them, byte 7 zero, a good message
unfoldable pub is_message : List ℕ → Bool
is_message s = eqb (length s) message_size && eqb (get_or s 7 0) 0 && good_message (message_in s)

-- a message's place with no message in it: 16 zeros
abbrev pub is_empty : List ℕ → Bool
is_empty s = eqb (length s) message_size && all_zero s

-- the zeros that stand beside a refusal
abbrev pub no_message : Message
no_message = record { header = record { id = 0; format = 0; rtr = 0; dlc = 0 }; bytes = replicate 8 0 }

-- what any bytes hold: their message, or none where they are damaged
unfoldable pub judge_message : List ℕ → Option Message
judge_message s = pick (is_message s) (Some (message_in s)) None

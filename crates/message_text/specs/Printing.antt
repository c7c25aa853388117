-- A message as it is printed (01, "The two texts").
use Rattle.std.specs.Prelude.{ℕ, List, [], ◌∷◌, ◌++◌, take, ltb, leb}
use Rattle.common.specs.Choice.{pick}
use Rattle.digits.specs.Digits.{hex, fields}
use Rattle.ids.specs.Frames.{header_refusal, carried, shown_id}
use Rattle.ids.specs.declared.Header.{Header}
use Rattle.messages.specs.Records.{is_message}
use Rattle.messages.specs.declared.Message.{Message}

-- text output needs room for the longest line: 37 bytes for a message, whatever the line
abbrev pub message_room : ℕ
message_room = 37

-- id as 8 digits, rtr, dlc as one digit, then the carried bytes as two digits each, one blank between, and LF
unfoldable pub message_text : ℕ → Header → List ℕ → List ℕ
message_text id h bytes =
    hex 8 id ++ (32 ∷ hex 1 h.rtr) ++ (32 ∷ hex 1 h.dlc) ++ fields 32 (take (carried h) bytes) ++ 10 ∷ []

-- a message's line under an Align
unfoldable pub message_line : ℕ → Message → List ℕ
message_line align m = message_text (shown_id align m.header) m.header m.bytes

-- a message given alone: 3, then 1 for an Align out of range (no channel has one), then 13, 8, 9, 10
unfoldable pub message_refusal : ℕ → Message → ℕ → ℕ
message_refusal align m room = pick (ltb room message_room) 3 (pick (leb align 3) (header_refusal m.header) 1)

-- a message record: 3, then 1 for an Align out of range, then 14 for a damaged record or one of a wrong length
unfoldable pub message_record_refusal : ℕ → List ℕ → ℕ → ℕ
message_record_refusal align s room = pick (ltb room message_room) 3 (pick (leb align 3) (pick (is_message s) 0 14) 1)

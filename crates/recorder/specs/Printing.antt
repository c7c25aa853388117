-- The three print calls: one outcome each; printing takes Align from the channel.
use Rattle.std.specs.Prelude.{ℕ, List, [], ◌++◌, length, drop, eqb}
use Rattle.common.specs.Choice.{pick}
use Rattle.messages.specs.Records.{message_in}
use Rattle.events.specs.Records.{event_in}
use Rattle.messages.specs.declared.Message.{Message}
use Rattle.message_text.specs.Printing.{message_line, message_refusal, message_record_refusal}
use Rattle.event_text.specs.Lines.{event_line, event_record_refusal}
use Rattle.device.specs.State.{good}
use Rattle.device.specs.Outcomes.{Lent, Outcome, ends, refuses}
use Rattle.recorder.specs.Outcomes.{with_out}
use Rattle.device.specs.declared.Device.{Device}

-- a line with its first refusal, or 0, is printed by a device that is good: else 2
unfoldable pub line_printed : ℕ → List ℕ → Device → Lent → Outcome
line_printed number line d l =
    pick (good d)
    (pick (eqb number 0) (ends 0 (length line) [] d (with_out l (line ++ drop (length line) l.out)))
    (refuses number d l))
    (refuses 2 d l)

-- a message record: 2, 3, 14
abbrev pub message_record_printed : List ℕ → Device → Lent → Outcome
message_record_printed s d l =
    line_printed (message_record_refusal d.shared.align s (length l.out))
    (message_line d.shared.align (message_in s)) d l

-- an event record: 2, 3, 14
abbrev pub event_record_printed : List ℕ → Device → Lent → Outcome
event_record_printed s d l =
    line_printed (event_record_refusal d.shared.align s (length l.out))
    (event_line d.shared.align (event_in s)) d l

-- a message given alone, raw identifier, either mode: 2, 3, 13, 8, 9, 10
abbrev pub message_printed : Message → Device → Lent → Outcome
message_printed m d l =
    line_printed (message_refusal d.shared.align m (length l.out)) (message_line d.shared.align m) d l

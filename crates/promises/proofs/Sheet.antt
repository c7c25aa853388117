-- The bench sheet's cases marked P, as one table and one statement about the definitions, by computation;
-- then its other cases, alike.
-- Align 0, mode 0 unless said; MaskActive 0.
use Prim.Native.Nat.{ℕ, ◌*◌}
use Prim.Native.String.{String}
use mathlib.Core.Path.{◌≡◌, refl}
use mathlib.Core.List.{List, [], ◌∷◌, map}
use native.Mathlib.Omega.{arith}
use lib.ListN.{replicate, take}
use lib.Seq.{slice}
use Rattle.common.specs.Numbers.{number_of}
use Rattle.common.specs.Rings.{good_ring, slot_of}
use Rattle.common.specs.Slots.{slot, store, ring}
use Rattle.common.proofs.Numbers.{zeros_bytes}
use Rattle.digits.specs.Ascii.{ascii}
use Rattle.digits.specs.Digits.{hex_digit, hex, decimal_in, fields}
use Rattle.digits.specs.Reading.{byte_kind}
use Rattle.ids.specs.Ids.{is_format, id_bits, id_low, raw_of}
use Rattle.ids.specs.Frames.{header_refusal, carried}
use Rattle.filters.specs.Filters.{is_filter, filter_low, data_compared, free, field_meets, id_passes, byte_meets}
use Rattle.filters.specs.Filters.{data_passes, mode_takes, frame_passes, free_bits, let_through}
use Rattle.filters.specs.EventMask.{mask_bit, mask_lets}
use Rattle.messages.specs.Records.{message_size, stored, good_message, message_bytes, message_in, is_message, no_message}
use Rattle.messages.specs.Records.{judge_message}
use Rattle.events.specs.Records.{event_size, holds_frame, kind_of, event_bytes, event_in, is_event}
use Rattle.messages.specs.declared.Message.{Message}
use Rattle.queue.specs.Channel.{good_receive, oldest_refusal}
use Rattle.inbox.specs.Refusals.{raise_refusal, record_refusal, text_refusal, through_refusal}
use Rattle.inbox.specs.Refusals as Judged
use Rattle.queue.specs.Recording.{queued, unfiltered}
use Rattle.inbox.specs.Calls.{meets}
use Rattle.inbox.specs.Calls as Queue
use Rattle.events.specs.Raised.{filtered, event_of}
use Rattle.buffer.specs.Channel.{good_send}
use Rattle.outbox.specs.Refusals.{possible, ready, put_refusal}
use Rattle.outbox.specs.Calls as Outbox
use Rattle.settings.specs.TxMode.{good_tx}
use Rattle.numbers.specs.Numbers.{numbers_from, before_end, end_run}
use Rattle.message_text.specs.Reading.{all_bytes, judged_data, judged, read_message}
use Rattle.message_text.specs.Printing.{message_room, message_text, message_line, message_refusal}
use Rattle.event_words.specs.Words.{word_of}
use Rattle.event_text.specs.Lines.{frame_text, event_text, event_line}
use Rattle.device.specs.State.{good}
use Rattle.sites.specs.Sites.{no_site, good_offset, good_site, site_bytes, site_in, is_site}
use Rattle.sites.specs.Texts.{offset_text, site_text}
use Rattle.settings.specs.Ranges.{good_shared, format_of}
use Rattle.device.specs.Outcomes.{Lent, lends, Outcome}
use Rattle.device.specs.Opening.{opened}
use Rattle.recorder.specs.Receiving.{raised, record_read, text_read, through}
use Rattle.recorder.specs.Sending.{text_sent}
use Rattle.recorder.specs.Printing.{line_printed}
use Rattle.settings.specs.declared.Settings.{Settings}
use Rattle.model.specs.Inbox.{read_text, read_record, identifiers_through}
use Rattle.model.specs.Outbox.{send_text}
use Rattle.model.specs.Box.{raise, print_message, Call, on_device, on_receive, on_send, on_align}
use Rattle.model.specs.Promised.{with_places}
use Rattle.promises.specs.Typed.{Word, Made}
use Rattle.promises.specs.Calls.{outcome}
use Rattle.promises.specs.Runs.{Run, lent, recorded_bytes, next, run, started}
use Rattle.promises.specs.Promised.{lost_in}

-- one place for events and one for messages
abbrev settings : (align code mask : ℕ) → Settings
settings align code mask =
    record {
      mode = 0;
      format = 0;
      align = align;
      active = 0;
      code = code;
      mask = mask;
      events = 0xFFF;
      queue = 1;
      tx = 1;
      buffer = 1;
      site = no_site;
    }

abbrev tables : Lent
tables = lends (replicate event_size 0) (replicate message_size 0) (replicate message_room 0)

-- what a call answers on a device that was just opened
abbrev asks : Settings → Call → Outcome
asks s x = outcome x (opened s tables).device tables

-- a text: number, bytes used, and the message bytes that it has stored
abbrev text : String → List ℕ
text t = let o : Outcome = asks (settings 0 0 0) (on_send (send_text (ascii t))) in o.number ∷ o.value ∷ o.lent.send

-- the standard frame 731 as it is shown
abbrev shown : ℕ → List ℕ
shown align =
    let o : Outcome =
    asks (settings align 0 0) (on_align (print_message
    (record { header = record { id = 0x731; format = 1; rtr = 0; dlc = 0 }; bytes = replicate 8 0 }))) in
    take o.value o.lent.out

-- the standard frame 200 with two data bytes, of which it carries dlc: 100 where it passes, 101 where it is filtered
abbrev frame200 : (dlc first second : ℕ) → List ℕ
frame200 dlc a b =
    let frame : Message =
    record { header = record { id = 0x200; format = 1; rtr = 0; dlc = dlc }; bytes = a ∷ b ∷ replicate 6 0 } in
    (asks (settings 0 0x40000100 0x000000FF) (on_device (raise 1 0 frame))).number ∷ []

-- number, and how many standard identifiers pass
abbrev let_in : (align code mask : ℕ) → List ℕ
let_in align code mask =
    let o : Outcome = asks (settings align code mask) (on_receive (identifiers_through 1)) in o.number ∷ o.value ∷ []

-- a warning is raised, or the oldest is read
warning : (tick : ℕ) → Word tick → Made
warning tick w = record {
  call = on_device (raise 9 tick no_message);
  out = [];
  typed = (
    omega arith,
    w,
    record {
      id = omega arith;
      format = omega arith;
      rtr = omega arith;
      dlc = omega arith;
      eight = refl;
      bytes = zeros_bytes 8;
    },
  );
}

reading_one : Made
reading_one = record { call = on_receive read_record; out = []; typed = tt }

-- what calls have recorded in a queue of c places
abbrev records : ℕ → List Made → List (List ℕ)
records c xs =
    recorded_bytes (run xs (started (with_places (settings 0 0 0xFFFFFFFF) c)
    (lends (replicate (event_size * c) 0) (replicate message_size 0) [])))

-- the ticks of it, and each tick with its lost count
abbrev tick_in : List ℕ → ℕ
tick_in b = number_of (slice 4 8 b)

abbrev ticks : ℕ → List Made → List ℕ
ticks c xs = map tick_in (records c xs)

abbrev losses : List (List ℕ) → List ℕ
losses [] = []
losses (b ∷ bs) = tick_in b ∷ lost_in b ∷ losses bs

-- a case: the paper's words, what the definitions say, what the paper says
pub record Row : Type 0 where
  pub words : String
  pub said : List ℕ
  pub paper : List ℕ

abbrev row : String → List ℕ → List ℕ → Row
row w s p = record { words = w; said = s; paper = p }

-- no data, and a message table that was not written
abbrev none : List ℕ
none = replicate 8 0

abbrev untouched : List ℕ
untouched = replicate message_size 0

pub rows : List Row
rows =
    row "P 731 0 4 11 22 33 44 CR LF: taken, 21 used" (text "731 0 4 11 22 33 44\r\n")
    (0 ∷ 21 ∷ 0x31 ∷ 7 ∷ 0 ∷ 0 ∷ 1 ∷ 0 ∷ 4 ∷ 0 ∷ 0x11 ∷ 0x22 ∷ 0x33 ∷ 0x44 ∷ 0 ∷ 0 ∷ 0 ∷ 0 ∷ [])
    ∷ row "P 731 0 0: 6" (text "731 0 0") (6 ∷ 0 ∷ untouched)
    ∷ row "P LF: 7, 1 used" (text "\n") (7 ∷ 1 ∷ untouched)
    ∷ row "P 7FF 0 0 LF taken" (text "7FF 0 0\n") (0 ∷ 8 ∷ 0xFF ∷ 7 ∷ 0 ∷ 0 ∷ 1 ∷ 0 ∷ 0 ∷ 0 ∷ none)
    ∷ row "P 800 0 0 LF: 8" (text "800 0 0\n") (8 ∷ 8 ∷ untouched)
    ∷ row "P 0x100 0 0 LF: x separates, so rtr is 100: refusal 9, 10 used" (text "0x100 0 0\n") (9 ∷ 10 ∷ untouched)
    ∷ row "P 731 1 4 LF taken, no bytes" (text "731 1 4\n") (0 ∷ 8 ∷ 0x31 ∷ 7 ∷ 0 ∷ 0 ∷ 1 ∷ 1 ∷ 4 ∷ 0 ∷ none)
    ∷ row "P raw 731 shows as 1CC40000 at Align 2" (shown 2) (ascii "1CC40000 0 0\n")
    ∷ row "P E6200000 at Align 3" (shown 3) (ascii "E6200000 0 0\n")
    ∷ row "P code 40000100, mask 000000FF: frame 200 with 01 07 passes" (frame200 2 0x01 0x07) (100 ∷ [])
    ∷ row "P with 02 07 it doesn't" (frame200 2 0x02 0x07) (101 ∷ [])
    ∷ row "P Align 1, code 400, mask 3FF: 1,024 identifiers" (let_in 1 0x400 0x3FF) (0 ∷ 1024 ∷ [])
    ∷ row "P capacity 1, raise A, B, C, read, raise D: A has lost 0, D has lost 2"
    (losses (records 1 (warning 0xA (omega arith) ∷ warning 0xB (omega arith) ∷ warning 0xC (omega arith)
    ∷ reading_one ∷ warning 0xD (omega arith) ∷ [])))
    (0xA ∷ 0 ∷ 0xD ∷ 2 ∷ [])
    ∷ []

-- the definitions say what the sheet says
pub sheet : map (λ (r : Row). r.said) rows ≡ map (λ (r : Row). r.paper) rows
unfolding rows warning reading_one outcome opened good_shared good format_of good_receive good_ring good_tx good_send
    mode_takes text_sent read_message before_end end_run byte_kind
    judged judged_data numbers_from raw_of is_format id_low id_bits carried all_bytes Outbox.text_sent put_refusal ready
    possible slot_of store slot ring message_bytes line_printed message_refusal
    header_refusal message_line message_text hex hex_digit fields raised holds_frame kind_of event_of stored Queue.raised
    Judged.possible Judged.ready raise_refusal meets unfiltered filtered frame_passes id_passes is_filter
    filter_low data_compared free field_meets byte_meets data_passes mask_bit mask_lets queued event_bytes through free_bits
    let_through Queue.through through_refusal run next record_read Queue.record_read record_refusal oldest_refusal is_event
    good_site good_offset site_bytes site_in is_site
sheet = refl

-- raise 1, 2, read, raise 3, 4, read, raise 5
abbrev fives : List Made
fives =
    warning 1 (omega arith) ∷ warning 2 (omega arith) ∷ reading_one ∷ warning 3 (omega arith)
    ∷ warning 4 (omega arith) ∷ reading_one ∷ warning 5 (omega arith) ∷ []

-- the frame 112 is received at tick 12568
received : Made
received = record {
  call =
      on_device (raise 1 12568
      (record { header = record { id = 0x112; format = 1; rtr = 1; dlc = 0 }; bytes = replicate 8 0 }));
  out = [];
  typed = (
    omega arith,
    omega arith,
    record {
      id = omega arith;
      format = omega arith;
      rtr = omega arith;
      dlc = omega arith;
      eight = refl;
      bytes = zeros_bytes 8;
    },
  );
}

-- it is recorded after five were lost, then read as text into so much room: number, and the line
abbrev read_into : ℕ → List ℕ
read_into room =
    let one : Made = warning 1 (omega arith) in
    let r : Run =
    run (one ∷ one ∷ one ∷ one ∷ one ∷ one ∷ reading_one ∷ received ∷ [])
    (started (settings 0 0 0xFFFFFFFF) tables) in
    let o : Outcome = outcome (on_receive read_text) r.device (lent r (replicate room 0)) in
    o.number ∷ take o.value o.lent.out

-- the last two rows as M-106 changed them: room 103, and the site's two fields
pub others : List Row
others =
    row "731 0 F 1 2 3 4 5 6 7 8 LF taken" (text "731 0 F 1 2 3 4 5 6 7 8\n")
    (0 ∷ 24 ∷ 0x31 ∷ 7 ∷ 0 ∷ 0 ∷ 1 ∷ 0 ∷ 15 ∷ 0 ∷ 1 ∷ 2 ∷ 3 ∷ 4 ∷ 5 ∷ 6 ∷ 7 ∷ 8 ∷ [])
    ∷ row "731 0 10 LF: 10" (text "731 0 10\n") (10 ∷ 9 ∷ untouched)
    ∷ row "731 0 2 11 LF: 7" (text "731 0 2 11\n") (7 ∷ 11 ∷ untouched)
    ∷ row "731 0 1 100 LF: 12" (text "731 0 1 100\n") (12 ∷ 12 ∷ untouched)
    ∷ row "with dlc 0 it passes" (frame200 0 0x02 0x07) (100 ∷ [])
    ∷ row "Code 3FA, mask 1: two" (let_in 1 0x3FA 0x1) (0 ∷ 2 ∷ [])
    ∷ row "Raise 1, 2, read, raise 3, 4, read, raise 5: capacity 1 records 1, 3, 5" (ticks 1 fives) (1 ∷ 3 ∷ 5 ∷ [])
    ∷ row "capacity 2 records 1, 2, 3, 5" (ticks 2 fives) (1 ∷ 2 ∷ 3 ∷ 5 ∷ [])
    ∷ row "Room 102 refused (M-106)" (read_into 102) (3 ∷ [])
    ∷ row "103 good: received TAB 0:12568 TAB +00:00 TAB 0 TAB 00000112 TAB 1 TAB 0 TAB 5 LF" (read_into 103)
    (0 ∷ ascii "received\t0:12568\t+00:00\t0\t00000112\t1\t0\t5\n")
    ∷ []

-- and so they do of the other cases
pub others_too : map (λ (r : Row). r.said) others ≡ map (λ (r : Row). r.paper) others
unfolding others received warning reading_one outcome opened good_shared good format_of good_receive good_ring good_tx
    good_send mode_takes text_sent read_message before_end end_run
    byte_kind judged judged_data numbers_from raw_of is_format id_low id_bits carried all_bytes Outbox.text_sent put_refusal
    ready possible slot_of store slot ring message_bytes line_printed message_refusal
    header_refusal message_line message_text hex hex_digit fields raised holds_frame kind_of event_of stored Queue.raised
    Judged.possible Judged.ready raise_refusal meets unfiltered filtered frame_passes id_passes is_filter
    filter_low data_compared free field_meets byte_meets data_passes mask_bit mask_lets queued event_bytes through free_bits
    let_through Queue.through through_refusal run next record_read Queue.record_read record_refusal oldest_refusal is_event
    good_site good_offset site_bytes site_in is_site
    text_read Queue.text_read text_refusal event_in judge_message message_in is_message good_message event_line event_text
    frame_text word_of decimal_in site_text offset_text
others_too = refl

-- What a message text says: a message or a refusal, with the bytes used (01, "The two texts" and "Refusal numbers").
use Rattle.std.specs.Prelude.{ℕ, ◌+◌, ◌-◌, List, [], ◌∷◌, ◌++◌, Bool, true, not, ◌&&◌, length, get_or, take, drop, replicate, ltb, Result, Ok, Err}
use Rattle.common.specs.Choice.{pick}
use Rattle.common.specs.declared.refusals.Refusal.{Refusal}
use Rattle.common.specs.declared.refusals.Refusal.TheVariants.{NoEnd, TooFewValues, BadIdentifier, BadRtr, BadDlc}
use Rattle.common.specs.declared.refusals.Refusal.TheVariants.{TooManyValues, NoByte}
use Rattle.ids.specs.Ids.{raw_of, is_bad, id_number}
use Rattle.ids.specs.Frames.{carried}
use Rattle.ids.specs.declared.Header.{Header}
use Rattle.messages.specs.declared.Message.{Message}
use Rattle.numbers.specs.Numbers.{numbers, before_end, end_run}
use Rattle.message_text.specs.declared.Said.{Said}

-- the fields id, rtr, dlc of a text's numbers: the identifier is aligned, the format is the channel's default
abbrev pub parsed_header : ℕ → ℕ → List ℕ → Header
parsed_header align format values = record {
  id = id_number (raw_of align format (get_or values 0 0));
  format = format;
  rtr = get_or values 1 0;
  dlc = get_or values 2 0;
}

-- every value is at most 255
unfoldable pub all_bytes : List ℕ → Bool
all_bytes [] = true
all_bytes (v ∷ values) = ltb v 256 && all_bytes values

-- the eight data bytes: the values carried, then zeros; values past those carried are dropped
abbrev pub data_of : Header → List ℕ → List ℕ
data_of h values = take (carried h) (drop 3 values) ++ replicate (8 - carried h) 0

-- a good header's data among n numbers: 7 (too few data), 11, 12, or the message
unfoldable pub judged_data : Header → ℕ → List ℕ → Result Message Refusal
judged_data h n values =
    pick (ltb n (3 + carried h)) (Err TooFewValues)
    (pick (ltb 11 n) (Err TooManyValues)
    (pick (not (all_bytes (drop 3 values))) (Err NoByte)
    (Ok (record { header = h; bytes = data_of h values }))))

-- n numbers in the paper's order: 7 (under three values), 8, 9, 10, then their data
unfoldable pub judged : ℕ → ℕ → ℕ → List ℕ → Result Message Refusal
judged align format n values =
    pick (ltb n 3) (Err TooFewValues)
    (pick (is_bad (raw_of align format (get_or values 0 0))) (Err BadIdentifier)
    (pick (ltb 1 (get_or values 1 0)) (Err BadRtr)
    (pick (ltb 15 (get_or values 2 0)) (Err BadDlc)
    (judged_data (parsed_header align format values) n values))))

-- the bytes used: the run of ends is used too
abbrev pub used_of : List ℕ → ℕ
used_of text = before_end text + end_run (drop (before_end text) text)

-- a refusal
abbrev pub refused : Refusal → ℕ → Said
refused why used = record { said = Err why; used = used }

-- what a text says: 6 where it has no end, with 0 bytes used; else what its numbers say
unfoldable pub read_message : ℕ → ℕ → List ℕ → Said
read_message align format text =
    pick (ltb (before_end text) (length text))
    (record { said = judged align format (length (numbers text)) (numbers text); used = used_of text })
    (refused NoEnd 0)

-- Messages and their bytes: what is written is read back, and what is read is written again.
use mathlib.Core.Path.{◌≡◌, refl, sym, ◌∙◌}
use mathlib.Core.List.{List, [], ◌∷◌, ◌++◌}
use mathlib.Core.Bool.{true, false}
use Prim.Native.Nat.{ℕ, zero, suc, ◌+◌, ◌-◌, ◌%◌, ◌≤◌}
use native.Mathlib.Nat.{mod-eq_of_lt}
use native.Mathlib.Omega.{arith}
use lib.ListN.{length, get_or, take, drop, replicate, length-append, length-replicate}
use lib.Seq.{slice, take_all, drop_at, length-take-le, length-slice}
use lib.Dec.{eqb}
use borrow.Author.Tests.{eqb-true}
use Rattle.std.specs.Prelude.{Some, None, is_some}
use Rattle.common.specs.Numbers.{Bytes, bytes_of, number_of, all_zero}
use Rattle.common.proofs.Bools.{and_left}
use Rattle.common.proofs.Choices.{by_test}
use Rattle.common.proofs.Lists.{reads, reads_slice, reads_all}
use Rattle.common.proofs.Numbers.{zeros_zero, number_back, bytes_back}
use Rattle.ids.specs.Frames.{header_refusal, carried}
use Rattle.ids.proofs.Frames.{carried_le, good_header_lem, good_id, good_format}
use Rattle.messages.specs.Records.{stored, good_message, message_bytes, message_in, is_message}
use Rattle.messages.specs.Records.{judge_message}
use Rattle.messages.specs.declared.Message.{Message}
use Rattle.messages.proofs.Laws.{message_tests}

-- ---- bytes read one by one

pub reads_bytes : (s : List ℕ) (f n : ℕ) → Bytes s → Bytes (reads s f n)
reads_bytes s f zero g i = omega arith
reads_bytes s f (suc n) g zero = g f
reads_bytes s f (suc n) g (suc i) = reads_bytes s (suc f) n g i

-- the bytes of the number that four bytes stand for
pub number_bytes : (s : List ℕ) (f : ℕ) → Bytes s → f + 4 ≤ length s
    → bytes_of 4 (number_of (slice f (f + 4) s)) ≡ reads s f 4
number_bytes s f g h = rw (← reads_slice s f 4 h) (bytes_back (reads s f 4) (reads_bytes s f 4 g))

-- ---- what is stored

-- a message's bytes are 16
pub message_bytes_length : (m : Message) → length m.bytes ≡ 8 → length (message_bytes m) ≡ 16
unfolding message_bytes
message_bytes_length m h = rw h

-- a stored message has eight data bytes
pub stored_length : (m : Message) → length m.bytes ≡ 8 → length (stored m).bytes ≡ 8
unfolding stored
stored_length m h =
    let l = carried_le m.header in
    rw (length-append, length-take-le (carried m.header) m.bytes (omega arith), length-replicate) (omega arith)

-- a message with a good header is stored as a good message
pub stored_good : (m : Message) → header_refusal m.header ≡ 0 → length m.bytes ≡ 8 → good_message (stored m) ≡ true
unfolding good_message stored
stored_good m r h =
    let k = carried m.header in
    let l = carried_le m.header in
    let d = drop_at (take k m.bytes) (replicate (8 - k) 0) k (length-take-le k m.bytes (omega arith)) in
    rw (r, d, zeros_zero (8 - k))

-- ---- what is written is read back

pub good_refusal : (m : Message) → good_message m ≡ true → header_refusal m.header ≡ 0
unfolding good_message
good_refusal m g = eqb-true (header_refusal m.header) 0
    (and_left (eqb (header_refusal m.header) 0) (all_zero (drop (carried m.header) m.bytes)) g)

pub message_in_back : (m : Message) → length m.bytes ≡ 8 → header_refusal m.header ≡ 0
    → message_in (message_bytes m) ≡ m
unfolding message_in message_bytes
message_in_back m h r =
    let g = good_header_lem m.header r in
    let f = good_format m.header r in
    let i = good_id m.header r in
    let f% : m.header.format % 256 ≡ m.header.format = omega arith in
    let r% : m.header.rtr % 256 ≡ m.header.rtr = omega arith in
    let d% : m.header.dlc % 256 ≡ m.header.dlc = omega arith in
    rw (number_back 4 m.header.id (omega arith), f%, r%, d%, take_all 8 m.bytes (omega arith))

byte_7 : (m : Message) → get_or (message_bytes m) 7 0 ≡ 0
unfolding message_bytes
byte_7 m = refl

-- the bytes of a good message are judged to be that message
pub message_back : (m : Message) → length m.bytes ≡ 8 → good_message m ≡ true
    → judge_message (message_bytes m) ≡ Some m
unfolding judge_message is_message
message_back m h g = rw (message_in_back m h (good_refusal m g), message_bytes_length m h, byte_7 m, g)

-- ---- what is read is written again

-- bytes hold a message where they pass the test
pub good_is : (s : List ℕ) → is_some (judge_message s) ≡ is_message s
unfolding judge_message
good_is s = by_test (is_message s) (λ e. rw e) (λ e. rw e)

-- then it is the message that they stand for, else there is none
pub message_as : (s : List ℕ) → is_message s ≡ true → judge_message s ≡ Some (message_in s)
unfolding judge_message
message_as s t = rw t

damaged_as : (s : List ℕ) → is_message s ≡ false → judge_message s ≡ None
unfolding judge_message
damaged_as s f = rw f

-- the message that bytes hold is the one that they stand for
judged_as : (s : List ℕ) (m : Message) → judge_message s ≡ Some m → (is_message s ≡ true) × (message_in s ≡ m)
judged_as s m e = by_test (is_message s)
    (λ t. (t, let f = message_as s t in cc))
    (λ t. let f = damaged_as s t in absurd (cc))

glue : {a b c d e f : List ℕ} → a ≡ d → b ≡ e → c ≡ f → (a ++ b) ++ c ≡ (d ++ e) ++ f
glue p q r = cc

in_bytes : (s : List ℕ) → Bytes s → length s ≡ 16 → get_or s 7 0 ≡ 0 → message_bytes (message_in s) ≡ s
unfolding message_bytes message_in
in_bytes s g l z =
    let h : get_or s 4 0 % 256 ∷ get_or s 5 0 % 256 ∷ get_or s 6 0 % 256 ∷ 0 ∷ [] ≡ reads s 4 4 =
    rw (mod-eq_of_lt (g 4), mod-eq_of_lt (g 5), mod-eq_of_lt (g 6), z) in
    glue (number_bytes s 0 g (omega arith)) h (sym (reads_slice s 8 8 (omega arith))) ∙ reads_all s 16 l

-- the message that bytes hold has these bytes
pub bytes_of_message : (s : List ℕ) (m : Message) → Bytes s → judge_message s ≡ Some m → message_bytes m ≡ s
bytes_of_message s m b e =
    let j = judged_as s m e in
    let t = message_tests s j.0 in
    rw (← j.1) (in_bytes s b t.0 t.1)

-- it is a good message
pub judged_good : (s : List ℕ) (m : Message) → judge_message s ≡ Some m → good_message m ≡ true
judged_good s m e = let j = judged_as s m e in rw (← j.1) (message_tests s j.0).2

-- and has eight data bytes
pub judged_length : (s : List ℕ) (m : Message) → judge_message s ≡ Some m → length m.bytes ≡ 8
unfolding message_in
judged_length s m e =
    let j = judged_as s m e in
    let l = (message_tests s j.0).0 in
    rw (← j.1) (length-slice 8 16 s (omega arith))

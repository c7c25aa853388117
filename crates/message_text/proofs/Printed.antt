-- What the calls that print a message answer, from what their parts answer.
use Rattle.std.specs.Prelude.{Result, Some, Ok, is_some}
use Prim.Native.Nat.{ℕ, ◌≤◌}
use mathlib.Core.Path.{◌≡◌, refl, sym, ap, ◌∙◌}
use mathlib.Core.List.{List}
use mathlib.Core.Bool.{true}
use native.Mathlib.Omega.{arith}
use borrow.Author.Tests.{le-ltb, le-leb}
use lib.ListN.{length}
use Rattle.common.specs.declared.refusals.Refusal.{Refusal}
use Rattle.digits.specs.Written.{Put, Prints}
use Rattle.digits.proofs.Written.{printed}
use Rattle.ids.specs.Ids.{aligned}
use Rattle.ids.specs.Frames.{header_refusal, shown_id}
use Rattle.ids.specs.declared.Header.{Header}
use Rattle.ids.proofs.Frames.{good_header_lem}
use Rattle.ids.proofs.RoundTrip.{good_aligned}
use Rattle.messages.specs.Records.{is_message, message_in, judge_message}
use Rattle.messages.specs.declared.Message.{Message}
use Rattle.messages.proofs.RoundTrip.{good_is, message_as, judged_good, good_refusal}
use Rattle.message_text.specs.Printing.{message_room, message_text, message_line, message_refusal}
use Rattle.message_text.specs.Printing.{message_record_refusal}
use Rattle.message_text.proofs.Length.{message_line_le}

-- a good header's identifier is shown under each Align
pub shown : (align : ℕ) (h : Header) → align ≤ 3 → header_refusal h ≡ 0
    → aligned align h.format h.id ≡ Some (shown_id align h)
shown align h l g = let f = good_header_lem h g in good_aligned align h.format h.id l f.format f.id

-- a message's line is printed
pub message_printed :
    (align : ℕ) (m : Message) {id p : ℕ} {old new : List ℕ} → align ≤ 3 → 0 ≡ header_refusal m.header
    → Some id ≡ aligned align m.header.format m.header.id → message_room ≤ length old
    → Put old 0 (message_text id m.header m.bytes) new p
    → Prints (message_refusal align m (length old)) (message_line align m) old (Ok p) new
unfolding message_refusal message_line
message_printed align m {id} {old = old} l g h r s =
    let i : id ≡ shown_id align m.header = let q = h ∙ shown align m.header l (sym g) in cc in
    let b = printed (rw i at s) (omega (arith, message_line_le align m)) in
    rw (le-ltb (length old) message_room r, le-leb align 3 l, ← g)
    (record { answer = record { number = refl; value = b.1 }; out = b.0 })

-- a good record is printed as its message
pub record_printed :
    (s : List ℕ) (m : Message) (align : ℕ) {old new : List ℕ} {r : Result ℕ Refusal} → judge_message s ≡ Some m
    → Prints (message_refusal align m (length old)) (message_line align m) old r new
    → Prints (message_record_refusal align s (length old)) (message_line align (message_in s)) old r new
unfolding message_refusal message_record_refusal
record_printed s m align e p =
    let good : is_message s ≡ true = sym (good_is s) ∙ ap is_some e in
    let same : m ≡ message_in s = let q = sym e ∙ message_as s good in cc in
    rw (good, ← same) (rw (good_refusal m (judged_good s m e)) at p)

-- The numbers that a refusal can be, one case each.
use Prim.Native.Nat.{ℕ, ◌^◌, ◌≤◌}
use mathlib.Core.Path.{◌≡◌, sym}
use mathlib.Core.Bool.{Bool, true, false, ◌&&◌}
use mathlib.Core.List.{List, [], ◌∷◌}
use lib.Dec.{ltb, leb, eqb}
use borrow.Author.Tests.{le-leb, eqb-true}
use Rattle.common.specs.Choice.{pick}
use Rattle.common.specs.Numbers.{among}
use Rattle.common.proofs.Bools.{apart, and_left, and_right}
use Rattle.common.proofs.Choices.{by_test}
use Rattle.ids.specs.Ids.{is_format, id_bits, raw_of, is_bad}
use Rattle.filters.specs.Filters.{mode_takes}
use Rattle.ids.specs.Frames.{header_refusal}
use Rattle.ids.specs.declared.Header.{Header}
use Rattle.events.specs.Records.{holds_frame}
use Rattle.events.specs.Raised.{frame_refusal}
use Rattle.messages.specs.declared.Message.{Message}
use Rattle.settings.specs.Binary.{sent_format, binary_refusal}
use Rattle.settings.specs.declared.Shared.{Shared}
use Rattle.model.proofs.Choices.{either}

-- a header's
pub header_number : (P : ℕ → Type 0) (h : Header) → P 0 → P 13 → P 8 → P 9 → P 10 → P (header_refusal h)
unfolding header_refusal
header_number P h p0 p13 p8 p9 p10 =
    either P (is_format h.format)
    (either P (ltb h.id (2 ^ id_bits h.format))
    (either P (leb h.rtr 1) (either P (leb h.dlc 15) p0 p10) p9) p8)
    p13

-- a raised frame's
pub frame_number : (P : ℕ → Type 0) (code : ℕ) (m : Message) → P 0 → P 13 → P 8 → P 9 → P 10 → P (frame_refusal code m)
frame_number P code m p0 p13 p8 p9 p10 =
    either P (holds_frame code) (header_number P m.header p0 p13 p8 p9 p10) p0

-- a binary message's
pub binary_number : (P : ℕ → Type 0) (s : Shared) (m : Message) → P 0 → P 13 → P 8 → P 9 → P 10 → P (binary_refusal s m)
unfolding binary_refusal
binary_number P s m p0 p13 p8 p9 p10 =
    either P (is_format (sent_format s m) && mode_takes s.mode (sent_format s m))
    (either P (is_bad (raw_of s.align (sent_format s m) m.header.id)) p8
    (either P (leb m.header.rtr 1) (either P (leb m.header.dlc 15) p0 p10) p9))
    p13

-- listed, unless it is 0
abbrev pub Other : List ℕ → ℕ → Type 0
Other ns n = eqb n 0 ≡ false → among n ns ≡ true

-- a printed record's: room, then the Align, which is in range, then its own
pub room_align : (ns : List ℕ) (align room need n : ℕ) → among 3 ns ≡ true → Other ns n → align ≤ 3
    → Other ns (pick (ltb room need) 3 (pick (leb align 3) n 1))
room_align ns align room need n three h a = either (Other ns) (ltb room need) (λ e. three) (rw (le-leb align 3 a) h)

-- a text's that has an end
abbrev pub text_numbers : List ℕ
text_numbers = 7 ∷ 8 ∷ 9 ∷ 10 ∷ 11 ∷ 12 ∷ []

-- every number of a list passes a test
abbrev pub each : (ℕ → Bool) → List ℕ → Bool
each t [] = true
each t (m ∷ ms) = t m && each t ms

-- and so does any number in it
pub each_is : (t : ℕ → Bool) (n : ℕ) (ns : List ℕ) → each t ns ≡ true → among n ns ≡ true → t n ≡ true
each_is t n [] a h = absurd (apart (sym h))
each_is t n (m ∷ ms) a h =
    by_test (eqb n m) (λ e. rw (eqb-true n m e) (and_left (t m) (each t ms) a))
    (λ e. each_is t n ms (and_right (t m) (each t ms) a) (rw e at h))

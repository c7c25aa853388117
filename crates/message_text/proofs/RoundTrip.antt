-- A good message's line, read under its own format and the same Align, says that message, and all bytes are used.
use Prim.Native.Nat.{ℕ, zero, suc, ◌+◌, ◌-◌, ◌*◌, ◌/◌, ◌%◌, ◌^◌, ◌≤◌, ◌<◌}
use mathlib.Core.Path.{◌≡◌, refl, sym, ap, ◌∙◌}
use mathlib.Core.List.{List, [], ◌∷◌, ◌++◌, append_assoc}
use mathlib.Core.Bool.{true, false}
use native.Mathlib.Nat.{mod-eq_of_lt, lt_of_lt_of_le}
use native.Mathlib.Omega.{arith}
use borrow.Author.Tests.{lt-ltb, le-ltb, ltb-true, eqb-true}
use lib.Dec.{ltb, eqb}
use lib.ListN.{length, take, drop, replicate, length-append, length-drop, take-append-drop}
use lib.Pow.{shl_lt, pow_mono}
use lib.Seq.{take_all, drop_at, length-take-le}
use Rattle.std.specs.Prelude.{Some, Ok}
use Rattle.common.specs.Numbers.{Bytes, all_zero}
use Rattle.common.proofs.Bools.{and_left, and_right}
use Rattle.common.proofs.Numbers.{zeros_are}
use Rattle.digits.specs.Digits.{hex_digit, hex, fields}
use Rattle.digits.specs.Reading.{byte_kind}
use Rattle.digits.proofs.Back.{digit_back, low_suc, grown as value-grown}
use Rattle.ids.specs.Ids.{id_bits, id_low, raw_of}
use Rattle.ids.specs.Frames.{header_refusal, carried, shown_id}
use Rattle.ids.specs.declared.Header.{Header}
use Rattle.ids.proofs.Columns.{id_in_word}
use Rattle.ids.proofs.Frames.{HeaderFacts, good_header_lem, carried_le}
use Rattle.ids.proofs.RoundTrip.{good_aligned, read_back}
use Rattle.messages.specs.Records.{good_message}
use Rattle.messages.specs.declared.Message.{Message}
use Rattle.numbers.specs.Numbers.{Place, between, within, grown, is_end, numbers_from, numbers, before_end, end_run}
use Rattle.message_text.specs.Reading.{used_of, all_bytes, judged_data, judged, read_message}
use Rattle.message_text.specs.Printing.{message_text, message_line}

-- ---- the numbers of a line

-- a digit goes on with a number
digit : (p : Place) (d : ℕ) (t : List ℕ) → d < 16 → numbers_from p (hex_digit d ∷ t) ≡ numbers_from (grown p d) t
unfolding numbers_from
digit p d t h = rw (digit_back d h)

-- the w lowest digits of a number, read behind others
within_hex : (w n v : ℕ) (t : List ℕ)
    → numbers_from (within v) (hex w n ++ t) ≡ numbers_from (within (v * 16 ^ w + n % 16 ^ w)) t
unfolding hex
within_hex zero n v t = let e : v ≡ v * 16 ^ 0 + n % 16 ^ 0 = omega arith in ap (λ (x : ℕ). numbers_from (within x) t) e
within_hex (suc w) n v t =
    let d : ℕ = n / 16 ^ w % 16 in
    digit (within v) d (hex w n ++ t) (omega arith) ∙ within_hex w n (v * 16 + d) t
    ∙ ap (λ (x : ℕ). numbers_from (within x) t) (value-grown w n v)

-- a number that fits its digits
between_hex : (w n : ℕ) (t : List ℕ) → n < 16 ^ suc w
    → numbers_from between (hex (suc w) n ++ t) ≡ numbers_from (within n) t
unfolding hex
between_hex w n t h =
    let d : ℕ = n / 16 ^ w % 16 in
    digit between d (hex w n ++ t) (omega arith) ∙ within_hex w n d t
    ∙ ap (λ (x : ℕ). numbers_from (within x) t) (sym (low_suc w n) ∙ mod-eq_of_lt h)

-- a blank leaves a number, LF ends the text
blank : (v : ℕ) (t : List ℕ) → numbers_from (within v) (32 ∷ t) ≡ v ∷ numbers_from between t
unfolding numbers_from byte_kind
blank v t = refl

last : (v : ℕ) → numbers_from (within v) (10 ∷ []) ≡ v ∷ []
unfolding numbers_from byte_kind
last v = refl

-- bytes behind a number
bytes_read : (v : ℕ) (bs : List ℕ) → all_bytes bs ≡ true → numbers_from (within v) (fields 32 bs ++ (10 ∷ [])) ≡ v ∷ bs
unfolding fields all_bytes
bytes_read v [] e = last v
bytes_read v (b ∷ bs) e =
    let l : b < 256 = ltb-true b 256 (and_left (ltb b 256) (all_bytes bs) e) in
    let t = fields 32 bs ++ (10 ∷ []) in
    rw (append_assoc (32 ∷ hex 2 b) (fields 32 bs) (10 ∷ []))
    (blank v (hex 2 b ++ t)
    ∙ ap (λ (x : List ℕ). v ∷ x) (between_hex 1 b t (omega arith)
    ∙ bytes_read b bs (and_right (ltb b 256) (all_bytes bs) e)))

-- the numbers of a line are its fields
line_numbers : (id : ℕ) (h : Header) (b : List ℕ) → id < 2 ^ 32 → h.rtr ≤ 1 → h.dlc ≤ 15
    → all_bytes (take (carried h) b) ≡ true
    → numbers (message_text id h b) ≡ id ∷ h.rtr ∷ h.dlc ∷ take (carried h) b
unfolding message_text
line_numbers id h b i r d e =
    let t = fields 32 (take (carried h) b) ++ (10 ∷ []) in
    let s = hex 1 h.dlc ++ t in
    let q = hex 1 h.rtr ++ (32 ∷ s) in
    let n : message_text id h b ≡ hex 8 id ++ (32 ∷ q) = simp append_assoc in
    ap numbers n
    ∙ between_hex 7 id (32 ∷ q) (omega arith)
    ∙ blank id q
    ∙ ap (λ (x : List ℕ). id ∷ x)
    (between_hex 0 h.rtr (32 ∷ s) (omega arith)
    ∙ blank h.rtr s
    ∙ ap (λ (x : List ℕ). h.rtr ∷ x) (between_hex 0 h.dlc t (omega arith)
    ∙ bytes_read h.dlc (take (carried h) b) e))

-- ---- the bytes used

-- no byte of a text is an end
abbrev Clear : List ℕ → Type 0
Clear xs = (t : List ℕ) → before_end (xs ++ t) ≡ length xs + before_end t

clear_both : (xs ys : List ℕ) → Clear xs → Clear ys → Clear (xs ++ ys)
clear_both xs ys f g t = rw (append_assoc xs ys t, f (ys ++ t), g t, length-append xs ys) (omega arith)

clear_more : (b : ℕ) (xs : List ℕ) → is_end b ≡ false → Clear xs → Clear (b ∷ xs)
unfolding before_end
clear_more b xs e f t = rw (e, f t) (omega arith)

clear_hex : (w n : ℕ) → Clear (hex w n)
unfolding hex
clear_hex zero n = λ t. omega arith
clear_hex (suc w) n =
    let d : ℕ = n / 16 ^ w % 16 in
    clear_more (hex_digit d) (hex w n) (rw (digit_back d (omega arith))) (clear_hex w n)

clear_field : (xs : List ℕ) → Clear xs → Clear (32 ∷ xs)
unfolding byte_kind
clear_field xs f = clear_more 32 xs refl f

clear_fields : (bs : List ℕ) → Clear (fields 32 bs)
unfolding fields
clear_fields [] = λ t. omega arith
clear_fields (b ∷ bs) =
    clear_both (32 ∷ hex 2 b) (fields 32 bs) (clear_field (hex 2 b) (clear_hex 2 b)) (clear_fields bs)

-- a text with LF as its only end
ended : (xs : List ℕ) → Clear xs
    → (before_end (xs ++ (10 ∷ [])) < length (xs ++ (10 ∷ []))) × (used_of (xs ++ (10 ∷ [])) ≡ length (xs ++ (10 ∷ [])))
unfolding before_end end_run byte_kind
ended xs f =
    let e : before_end (xs ++ (10 ∷ [])) ≡ length xs = f (10 ∷ []) ∙ omega arith in
    let l : length (xs ++ (10 ∷ [])) ≡ length xs + 1 = length-append xs (10 ∷ []) in
    (omega arith, rw (e, drop_at xs (10 ∷ []) (length xs) refl) (sym l))

line_ended : (id : ℕ) (h : Header) (b : List ℕ)
    → (before_end (message_text id h b) < length (message_text id h b))
    × (used_of (message_text id h b) ≡ length (message_text id h b))
unfolding message_text
line_ended id h b =
    let r : List ℕ = 32 ∷ hex 1 h.rtr in
    let d : List ℕ = 32 ∷ hex 1 h.dlc in
    let f = fields 32 (take (carried h) b) in
    ended (hex 8 id ++ r ++ d ++ f)
    (clear_both (hex 8 id ++ r ++ d) f
    (clear_both (hex 8 id ++ r) d
    (clear_both (hex 8 id) r (clear_hex 8 id) (clear_field (hex 1 h.rtr) (clear_hex 1 h.rtr)))
    (clear_field (hex 1 h.dlc) (clear_hex 1 h.dlc)))
    (clear_fields (take (carried h) b)))

-- ---- what the numbers say

-- bytes are at most 255, so the first n are
all_bytes_lem : (n : ℕ) (b : List ℕ) → Bytes b → all_bytes (take n b) ≡ true
unfolding all_bytes
all_bytes_lem zero b g = refl
all_bytes_lem (suc n) [] g = refl
all_bytes_lem (suc n) (x ∷ b) g = rw (lt-ltb x 256 (g 0)) (all_bytes_lem n b (λ i. g (suc i)))

-- bytes that are zero from c on are their first c, and zeros
data_back : (c : ℕ) (b : List ℕ) → c ≤ 8 → length b ≡ 8 → all_zero (drop c b) ≡ true
    → take c (take c b) ++ replicate (8 - c) 0 ≡ b
data_back c b h l z =
    let t : length (take c b) ≡ c = length-take-le c b (omega arith) in
    let n : length (drop c b) ≡ 8 - c = omega (arith, length-drop c b) in
    rw (take_all c (take c b) (omega arith), ← n, ← zeros_are (drop c b) z) (take-append-drop c b)

module _ (align : ℕ) (m : Message) (a : align ≤ 3) (g : HeaderFacts m.header) where
  abbrev h : Header
  h = m.header

  -- the identifier shown has at most 32 bits, and is read back
  shown_small : shown_id align h < 2 ^ 32
  shown_small =
      let fits : id_bits h.format + id_low h.format align ≤ 32 =
      omega (arith, id_in_word h.format align (id_low h.format align) (id_bits h.format) refl refl) in
      lt_of_lt_of_le (shl_lt (id_bits h.format) (id_low h.format align) g.id) (pow_mono fits)

  shown_back : raw_of align h.format (shown_id align h) ≡ Some h.id
  shown_back =
      read_back align h.format h.id (shown_id align h)
      (good_aligned align h.format h.id a g.format g.id)

  -- the fields of a good message say that message
  fields_say : (bs : List ℕ) → length bs ≡ carried h → all_bytes bs ≡ true
      → take (carried h) bs ++ replicate (8 - carried h) 0 ≡ m.bytes
      → judged align h.format (length (shown_id align h ∷ h.rtr ∷ h.dlc ∷ bs)) (shown_id align h ∷ h.rtr ∷ h.dlc ∷ bs)
      ≡ Ok m
  unfolding judged judged_data
  fields_say bs l s d =
      let n = length (shown_id align h ∷ h.rtr ∷ h.dlc ∷ bs) in
      rw (
        le-ltb n 3 (omega arith),
        shown_back,
        le-ltb 1 h.rtr g.rtr,
        le-ltb 15 h.dlc g.dlc,
        le-ltb n (3 + carried h) (omega arith),
        le-ltb 11 n (omega (arith, carried_le h)),
        s,
        d,
      )

-- a good message's line is read back, and all its bytes are used
pub round_trip : (align : ℕ) (m : Message) → align ≤ 3 → good_message m ≡ true → length m.bytes ≡ 8 → Bytes m.bytes
    → read_message align m.header.format (message_line align m)
    ≡ record { said = Ok m; used = length (message_line align m) }
unfolding good_message message_line read_message
round_trip align m a e l b =
    let h = m.header in
    let bs = take (carried h) m.bytes in
    let t = message_text (shown_id align h) h m.bytes in
    let zero_rest = all_zero (drop (carried h) m.bytes) in
    let g = good_header_lem h (eqb-true (header_refusal h) 0 (and_left (eqb (header_refusal h) 0) zero_rest e)) in
    let ends = line_ended (shown_id align h) h m.bytes in
    let s = all_bytes_lem (carried h) m.bytes b in
    let d = data_back (carried h) m.bytes (carried_le h) l (and_right (eqb (header_refusal h) 0) zero_rest e) in
    rw (
      lt-ltb (before_end t) (length t) ends.0,
      ends.1,
      line_numbers (shown_id align h) h m.bytes (shown_small align m a g) g.rtr g.dlc s,
    )
    (ap (λ said. record { said = said; used = length t })
    (fields_say align m a g bs (length-take-le (carried h) m.bytes (omega (arith, carried_le h))) s d))

-- a line's last byte is its only end, so all its bytes are used
pub line_used : (align : ℕ) (m : Message) → used_of (message_line align m) ≡ length (message_line align m)
unfolding message_line
line_used align m = (line_ended (shown_id align m.header) m.header m.bytes).1

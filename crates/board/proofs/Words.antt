-- A device that stands for a box is kept whole by its bytes: all its numbers have 32 bits.
use mathlib.Core.Path.{◌≡◌, refl, ◌∙◌}
use mathlib.Core.Bool.{Bool, true, false, ◌&&◌, ◌||◌}
use mathlib.Core.List.{List, [], ◌∷◌, ◌++◌}
use Rattle.std.specs.Prelude.{Option, Some, None}
use Prim.Native.Nat.{ℕ, zero, suc, ◌≤◌, ◌<◌}
use native.Mathlib.Omega.{arith}
use lib.ListN.{length, length-append, get_or}
use lib.Dec.{leb, eqb}
use borrow.Author.Tests.{eqb-true, eq-eqb, le-leb, leb-true, ltb-true}
use Rattle.common.specs.All.{All}
use Rattle.common.specs.Choice.{pick}
use Rattle.common.proofs.All.{all_append}
use Rattle.common.proofs.Bools.{and_left, and_right}
use Rattle.common.proofs.RingFacts.{good_ring_lem}
use Rattle.filters.specs.Filters.{mode_takes}
use Rattle.filters.specs.EventMask.{is_mask}
use Rattle.ids.proofs.Frames.{good_header_lem, good_id, good_format}
use Rattle.messages.specs.declared.Message.{Message}
use Rattle.messages.proofs.RoundTrip.{good_refusal}
use Rattle.sites.specs.Sites.{good_site}
use Rattle.sites.proofs.Good.{good_offset_lem, good_site_lem}
use Rattle.settings.specs.Ranges.{good_shared}
use Rattle.settings.proofs.Laws.{site_in_range}
use Rattle.settings.specs.TxMode.{good_tx}
use Rattle.settings.specs.declared.Shared.{Shared}
use Rattle.queue.specs.Channel.{queue_limit}
use Rattle.queue.specs.declared.Receive.{Receive}
use Rattle.buffer.specs.Channel.{send_limit}
use Rattle.buffer.specs.declared.Send.{Send}
use Rattle.device.specs.declared.Device.{Device}
use Rattle.model.specs.Inbox.{Inbox}
use Rattle.model.specs.Outbox.{Outbox}
use Rattle.model.specs.Box.{Box}
use Rattle.promises.specs.Typed.{Word}
use Rattle.promises.specs.Stands.{Receives, Register, Sends, Stands}
use Rattle.layout.specs.Parts.{shared_numbers, receive_numbers, send_numbers, word_bytes}
use Rattle.kept.specs.State.{state_numbers, state_bytes, state_size, device_in, is_state}
use Rattle.layout.proofs.RoundTrip.{word_words}
use Rattle.kept.proofs.RoundTrip.{device_back}

-- ---- lists of 32-bit numbers

-- wherever such a list is read
words_below : (ns : List ℕ) → All Word ns → (k : ℕ) → get_or ns k 0 < 4294967296
words_below [] h k = omega arith
words_below (n ∷ ns) h zero = h.0
words_below (n ∷ ns) h (suc k) = words_below ns h.1 k

-- ---- the parts of a device

-- shared settings in range
shared_words : (s : Shared) → good_shared s ≡ true → All Word (shared_numbers s)
unfolding good_shared
shared_words s h =
    let a = leb s.mode 1 in
    let b = leb s.format 2 in
    let c = mode_takes s.mode s.format in
    let abcd = and_left (a && b && c && leb s.align 3) (good_site s.site) h in
    let abc = and_left (a && b && c) (leb s.align 3) abcd in
    let ab = and_left (a && b) c abc in
    let mode = leb-true s.mode 1 (and_left a b ab) in
    let format = leb-true s.format 2 (and_right a b ab) in
    let align = leb-true s.align 3 (and_right (a && b && c) (leb s.align 3) abcd) in
    let site = good_site_lem s.site (site_in_range s h) in
    let offset : Word s.site.offset = good_offset_lem s.site.offset site.0 (λ l. omega arith) (λ l m. m) in
    (omega arith, (omega arith, (omega arith, (offset, (omega arith, (omega (arith, site.1), tt))))))

-- a receive channel that stands for an inbox
receive_words : (r : Receive) (q : List ℕ) (b : Inbox) → Receives r q b → All Word (receive_numbers r)
receive_words r q b h =
    let a = leb r.filter.active 1 in
    let active = leb-true r.filter.active 1 (and_left a (is_mask r.events) h.settings) in
    let events = ltb-true r.events 4096 (and_right a (is_mask r.events) h.settings) in
    let ring = good_ring_lem queue_limit r.ring h.events.numbers in
    let pending : Word r.pending = omega (arith, h.pending, h.word) in
    (omega arith, (h.code, (h.bits, (omega arith, (omega arith, (omega arith, (omega arith, (pending, tt))))))))

-- TxMode is at most 7
tx_below : (n : ℕ) → good_tx n ≡ true → n ≤ 7
unfolding good_tx
tx_below n h = by (eqb n 1) (eqb n 3) (eqb n 5) (eqb-true n 1) (eqb-true n 3) (eqb-true n 5) (eqb-true n 7) h
  where
    by : (a b c : Bool) → (a ≡ true → n ≡ 1) → (b ≡ true → n ≡ 3) → (c ≡ true → n ≡ 5) → (eqb n 7 ≡ true → n ≡ 7)
        → (a || b || c || eqb n 7) ≡ true → n ≤ 7
    by true b c w x y z e = omega (arith, w refl)
    by false true c w x y z e = omega (arith, x refl)
    by false false true w x y z e = omega (arith, y refl)
    by false false false w x y z e = omega (arith, z e)

-- the register: a header of four 32-bit numbers, and eight bytes
abbrev Kept : Message → Type 0
Kept m = All Word (m.header.id ∷ m.header.format ∷ m.header.rtr ∷ m.header.dlc ∷ []) × (length m.bytes ≡ 8)

-- zeros, or a good message
register_words : (held : Bool) (m : Message) (o : Option Message) → Register held m o → Kept m
register_words held m None (e, f) = rw f ((omega arith, (omega arith, (omega arith, (omega arith, tt)))), refl)
register_words held m (Some n) (e, f, sound) =
    let r = good_refusal n sound.whole in
    let g = good_header_lem n.header r in
    let id = good_id n.header r in
    let format = good_format n.header r in
    rw f ((omega arith, (omega arith, (omega arith, (omega arith, tt)))), sound.eight)

-- whether it is held, as a number
held_below : (b : Bool) → pick b 1 0 ≤ 1
held_below true = omega arith
held_below false = omega arith

-- a send channel that stands for an outbox
send_words : (s : Send) (t : List ℕ) (o : Outbox) → Sends s t o → All Word (send_numbers s)
send_words s t o h =
    let tx = tx_below s.tx h.possible in
    let ring = good_ring_lem send_limit s.ring h.messages.numbers in
    let held = held_below s.held in
    let register = register_words s.held s.message o.register h.register in
    (omega arith, (omega arith, (omega arith, (omega arith, (omega arith, register.0)))))

-- ---- the device

-- all numbers of a device that stands for a box have 32 bits
device_words : (d : Device) (q t : List ℕ) (b : Box) → Stands d q t b → All Word (state_numbers d)
device_words d q t b h =
    all_append Word (shared_numbers d.shared) (receive_numbers d.receive ++ send_numbers d.send)
    (shared_words d.shared h.possible)
    (all_append Word (receive_numbers d.receive) (send_numbers d.send)
    (receive_words d.receive q b.inbox h.inbox)
    (send_words d.send t b.outbox h.outbox))

-- the bytes of such a device are a state
device_state : (d : Device) → All Word (state_numbers d) → length d.send.message.bytes ≡ 8
    → is_state (state_bytes d) ≡ true
unfolding is_state state_bytes
device_state d w l =
    let b = d.send.message.bytes in
    let long : length (word_bytes (state_numbers d) ++ b) ≡ state_size = length-append (word_bytes (state_numbers d)) b
    ∙ rw l in
    let held = word_words (state_numbers d) b 18 (omega arith) (words_below (state_numbers d) w 18) in
    rw (eq-eqb (length (word_bytes (state_numbers d) ++ b)) state_size long, held)
    (le-leb (pick d.send.held 1 0) 1 (held_below d.send.held))

-- THEOREM. A device that stands for a box is kept whole: its bytes are a state, and stand for it
pub stands_back : (d : Device) (q t : List ℕ) (b : Box) → Stands d q t b
    → (is_state (state_bytes d) ≡ true) × (device_in (state_bytes d) ≡ d)
stands_back d q t b h =
    let w = device_words d q t b h in
    let register = register_words d.send.held d.send.message b.outbox.register h.outbox.register in
    (device_state d w register.1, device_back d (words_below (state_numbers d) w) register.1)

-- What the functions of words and parts show.
use mathlib.Core.Path.{◌≡◌, refl, sym, ap, ◌∙◌}
use mathlib.Core.List.{List, [], ◌∷◌, ◌++◌, append_assoc}
use mathlib.Core.Bool.{Bool, true, false}
use Prim.Native.Nat.{ℕ, ◌+◌, ◌-◌, ◌/◌, ◌%◌, ◌^◌, ◌≤◌}
use native.Mathlib.Omega.{arith}
use lib.ListN.{length, take, drop}
use lib.Seq.{sets, sets-eq, length-sets}
use borrow.Rule.Slice.PartMut.{put_mid, Post-is}
use mir.Val.{bool_byte}
use Rattle.std.specs.Int.{w32, w64, to_le_bytes}
use Rattle.common.specs.Choice.{pick}
use Rattle.common.specs.Numbers.{bytes_of}
use Rattle.common.proofs.LittleEndian.{to_32}
use Rattle.common.specs.declared.Ring.{Ring}
use Rattle.digits.proofs.Written.{sets_append}
use Rattle.messages.specs.declared.Message.{Message}
use Rattle.settings.specs.declared.Shared.{Shared}
use Rattle.layout.specs.Parts.{shared_numbers, register_numbers, register_bytes, word_bytes, word, ring_in}

-- ---- reading

-- a ring behind other numbers
pub ring_at : (s : List ℕ) (at n : ℕ) (r : Ring) → r ≡ ring_in s (at + n)
    → r ≡ record { capacity = word s (at + n); first = word s (at + (n + 4)); count = word s (at + (n + 8)) }
ring_at s at n r e =
    let first : at + (n + 4) ≡ at + n + 4 = omega arith in
    let count : at + (n + 8) ≡ at + n + 8 = omega arith in
    rw (first, count) e

-- ---- writing

-- bytes in the place of as many from `at` on
pub part_written : (s b : List ℕ) (at e : ℕ) → at + length b ≡ e → e ≤ length s
    → put_mid at (e - at) s b ≡ sets s at b
part_written s b at e l h =
    ap (λ (x : List ℕ). take at s ++ (b ++ x)) (Post-is at e s (omega arith) ∙ rw (← l))
    ∙ sym (sets-eq b s at (omega arith) ∙ append_assoc (take at s) b (drop (at + length b) s))

-- a number's bytes
pub word_written : (s ys : List ℕ) (at n : ℕ) → at + 4 ≤ length s → ys ≡ to_le_bytes w32 n
    → put_mid at (at + 4 - at) s ys ≡ sets s at (bytes_of 4 n)
word_written s ys at n h e =
    rw (e ∙ to_32 n) (part_written s (bytes_of 4 n) at (at + 4) refl h)

-- two parts, one behind the other
pub both_written : (s x y : List ℕ) (at : ℕ) {s0 s1 : List ℕ} → s0 ≡ sets s at x → s1 ≡ sets s0 (at + length x) y
    → s1 ≡ sets s at (x ++ y)
both_written s x y at e0 e1 = e1 ∙ rw e0 (sym (sets_append s at x y))

-- the two halves of a second are its eight bytes
halves : (n : ℕ) → to_le_bytes w64 n ≡ word_bytes (n % 2 ^ 32 ∷ n / 2 ^ 32 ∷ [])
halves n = grind arith

pub shared_written : (s mid ys : List ℕ) (h : Shared) (at : ℕ) → at + 24 ≤ length s
    → mid ≡ sets s at (word_bytes (h.mode ∷ h.format ∷ h.align ∷ h.site.offset ∷ []))
    → ys ≡ to_le_bytes w64 h.site.second
    → put_mid (at + 16) (at + 24 - (at + 16)) mid ys ≡ sets s at (word_bytes (shared_numbers h))
shared_written s mid ys h at long e0 e1 =
    let front = word_bytes (h.mode ∷ h.format ∷ h.align ∷ h.site.offset ∷ []) in
    let l : length mid ≡ length s = ap length e0 ∙ length-sets s at front in
    let e : ys ≡ word_bytes (h.site.second % 2 ^ 32 ∷ h.site.second / 2 ^ 32 ∷ []) = e1 ∙ halves h.site.second in
    both_written s front (word_bytes (h.site.second % 2 ^ 32 ∷ h.site.second / 2 ^ 32 ∷ [])) at e0
    (rw e (part_written mid (word_bytes (h.site.second % 2 ^ 32 ∷ h.site.second / 2 ^ 32 ∷ [])) (at + 16) (at + 24)
    (omega arith) (omega arith)))

held_number : (b : Bool) → bool_byte b ≡ pick b 1 0
held_number true = refl
held_number false = refl

-- the register: held or not, its header, and its data bytes behind them
pub register_written : (s : List ℕ) (held : Bool) (m : Message) (at : ℕ) {s0 s1 ys : List ℕ}
    → at + 28 ≤ length s → length m.bytes ≡ 8
    → s0 ≡ sets s at (bytes_of 4 (bool_byte held))
    → s1 ≡ sets s0 (at + 4) (word_bytes (m.header.id ∷ m.header.format ∷ m.header.rtr ∷ m.header.dlc ∷ []))
    → ys ≡ m.bytes
    → put_mid (at + 20) (at + 28 - (at + 20)) s1 ys ≡ sets s at (register_bytes held m)
register_written s held m at {s0} {s1} long eight e0 e1 e2 =
    let h = m.header in
    let ns = word_bytes (register_numbers held m) in
    let w : s1 ≡ sets s at ns =
    both_written s (bytes_of 4 (pick held 1 0)) (word_bytes (h.id ∷ h.format ∷ h.rtr ∷ h.dlc ∷ [])) at
    (rw (held_number held) at e0) e1 in
    let l : length s1 ≡ length s = ap length w ∙ length-sets s at ns in
    both_written s ns m.bytes at w (rw e2 (part_written s1 m.bytes (at + 20) (at + 28) (omega arith) (omega arith)))

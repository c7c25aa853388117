-- What the functions of state and handing show.
use mathlib.Core.Path.{◌≡◌, refl, sym, ap, ◌∙◌}
use mathlib.Core.List.{List, [], ◌∷◌, ◌++◌, append-nil}
use mathlib.Core.Bool.{Bool, true, false}
use Prim.Native.Nat.{ℕ, ◌+◌}
use native.Mathlib.Omega.{arith}
use lib.ListN.{length, length-append, drop_of_length-le}
use lib.Seq.{sets, sets-eq, slice, length-slice}
use lib.Dec.{leb, eqb}
use borrow.Author.Tests.{eqb-true}
use Rattle.std.specs.Prelude.{Option, Some, None}
use Rattle.common.specs.Choice.{pick}
use Rattle.common.specs.Numbers.{Bytes}
use Rattle.common.specs.Refusals.{is_refusal, refusal_number}
use Rattle.common.specs.declared.refusals.Refusal.{Refusal}
use Rattle.common.proofs.Refused.{counts}
use Rattle.common.proofs.Bools.{and_left}
use Rattle.common.proofs.Choices.{pick_is}
use Rattle.digits.proofs.Written.{sets_append}
use Rattle.buffer.specs.declared.Send.{Send}
use Rattle.device.specs.declared.Device.{Device}
use Rattle.layout.specs.Parts.{shared_numbers, receive_numbers, send_numbers, register_numbers, register_bytes, word_bytes}
use Rattle.layout.specs.Parts.{word}
use Rattle.layout.proofs.Laws.{both_written}
use Rattle.kept.specs.State.{state_numbers, state_size, receive_at, send_at, state_bytes, device_in, is_state, counted}
use Rattle.kept.specs.State.{advanced, transferred}
use Rattle.kept.specs.Handing.{left}
use Rattle.kept.proofs.RoundTrip.{state_back}

-- ---- writing

-- the three parts fill the state
pub state_written : (s : List ℕ) (d : Device) {s0 s1 s2 : List ℕ} → length s ≡ state_size
    → s0 ≡ sets s 0 (word_bytes (shared_numbers d.shared))
    → s1 ≡ sets s0 receive_at (word_bytes (receive_numbers d.receive))
    → (s2 ≡ sets s1 send_at (word_bytes (send_numbers d.send) ++ d.send.message.bytes))
    × (length d.send.message.bytes ≡ 8)
    → s2 ≡ state_bytes d
unfolding state_bytes
state_written s d l e0 e1 (e2, m) =
    let shared = word_bytes (shared_numbers d.shared) in
    let receive = word_bytes (receive_numbers d.receive) in
    let send = word_bytes (send_numbers d.send) ++ d.send.message.bytes in
    let all : List ℕ = word_bytes (state_numbers d) ++ d.send.message.bytes in
    let n : length all ≡ state_size = length-append (word_bytes (state_numbers d)) d.send.message.bytes ∙ rw m in
    both_written s (shared ++ receive) send 0 (both_written s shared receive 0 e0 e1) e2
    ∙ sets-eq all s 0 (omega arith)
    ∙ ap (λ (r : List ℕ). all ++ r) (drop_of_length-le s {i = 0 + length all} (omega arith))
    ∙ append-nil all

-- ---- what a call leaves

-- what a lent place holds after a call, the test of its number being b
pub kept_old : {A : Type 0} {b : Bool} (n : ℕ) (old new : A) → b ≡ is_refusal n → b ≡ true → old ≡ left n old new
kept_old n old new e h = rw (← e, h)

pub kept_new : {A : Type 0} {b : Bool} (n : ℕ) (old new : A) → b ≡ is_refusal n → b ≡ false → new ≡ left n old new
kept_new n old new e h = rw (← e, h)

-- so a refused call leaves it, and one that answers 0 writes it
pub refused_left : {A : Type 0} (e : Refusal) (old new : A) → left (refusal_number e) old new ≡ old
refused_left e old new = sym (kept_old (refusal_number e) old new (sym (counts e)) refl)

pub zero_left : {A : Type 0} (old new : A) → left 0 old new ≡ new
unfolding is_refusal
zero_left old new = sym (kept_new 0 old new refl refl)

-- a state is so many bytes long
pub state_long : (s : List ℕ) → is_state s ≡ true → length s ≡ state_size
unfolding is_state
state_long s h = eqb-true (length s) state_size (and_left (eqb (length s) state_size) (leb (word s (send_at + 16)) 1) h)

-- numbers written over the bytes of a device are those of the device with them
module _ (d : Device) where
  over_counted : (count pending : ℕ)
      → sets (state_bytes d) (receive_at + 24) (word_bytes (count ∷ pending ∷ [])) ≡ state_bytes (counted d count pending)
  unfolding state_bytes
  over_counted count pending = refl

  over_advanced : (first count : ℕ)
      → sets (state_bytes d) (receive_at + 20) (word_bytes (first ∷ count ∷ [])) ≡ state_bytes (advanced d first count)
  unfolding state_bytes
  over_advanced first count = refl

  over_transferred : (s : Send) → length d.send.message.bytes ≡ 8 → length s.message.bytes ≡ 8
      → sets (sets (state_bytes d) (send_at + 8) (word_bytes (s.ring.first ∷ s.ring.count ∷ []))) (send_at + 16)
      (register_bytes s.held s.message)
      ≡ state_bytes (transferred d s)
  unfolding state_bytes
  over_transferred s l m =
      let new = word_bytes (state_numbers (transferred d s)) in
      let old = d.send.message.bytes in
      let b = s.message.bytes in
      let n : length (new ++ old) ≡ state_size = length-append new old ∙ rw l in
      let ring = word_bytes (s.ring.first ∷ s.ring.count ∷ []) in
      sets_append (sets (word_bytes (state_numbers d) ++ old) (send_at + 8) ring) (send_at + 16)
      (word_bytes (register_numbers s.held s.message)) b
      ∙ sets-eq b (new ++ old) 92 (omega arith)
      ∙ ap (λ (r : List ℕ). new ++ b ++ r) (drop_of_length-le (new ++ old) {i = 92 + length b} (omega arith))
      ∙ append-nil (new ++ b)

-- so are those written over the bytes of a state
module _ (s : List ℕ) (g : Bytes s) (h : is_state s ≡ true) where
  back : s ≡ state_bytes (device_in s)
  back = sym (state_back s g h)

  pub counted_written : (count pending : ℕ) {t : List ℕ}
      → t ≡ sets s (receive_at + 24) (word_bytes (count ∷ pending ∷ []))
      → t ≡ state_bytes (counted (device_in s) count pending)
  counted_written count pending e =
      e ∙ ap (λ (u : List ℕ). sets u (receive_at + 24) (word_bytes (count ∷ pending ∷ []))) back
      ∙ over_counted (device_in s) count pending

  pub advanced_written : (first count : ℕ) {t : List ℕ} → t ≡ sets s (receive_at + 20) (word_bytes (first ∷ count ∷ []))
      → t ≡ state_bytes (advanced (device_in s) first count)
  advanced_written first count e =
      e ∙ ap (λ (u : List ℕ). sets u (receive_at + 20) (word_bytes (first ∷ count ∷ []))) back
      ∙ over_advanced (device_in s) first count

  pub transferred_written : (count pending : ℕ) (x : Send) {t0 t1 t2 : List ℕ}
      → t0 ≡ sets s (receive_at + 24) (word_bytes (count ∷ pending ∷ []))
      → t1 ≡ sets t0 (send_at + 8) (word_bytes (x.ring.first ∷ x.ring.count ∷ []))
      → t2 ≡ sets t1 (send_at + 16) (register_bytes x.held x.message) → length x.message.bytes ≡ 8
      → t2 ≡ state_bytes (transferred (counted (device_in s) count pending) x)
  unfolding device_in
  transferred_written count pending x e0 e1 e2 m =
      let l : length (slice 92 100 s) ≡ 8 = length-slice 92 100 s (omega (arith, state_long s h)) in
      e2 ∙ rw (e1, counted_written count pending e0) (over_transferred (counted (device_in s) count pending) x l m)

-- a device that a call leaves is kept in the bytes that stood there, refused or not
pub kept_still : (n : ℕ) (s : List ℕ) → Bytes s → is_state s ≡ true → s ≡ left n s (state_bytes (device_in s))
kept_still n s g h = pick_is (λ (t : List ℕ). s ≡ t) (is_refusal n) (λ e. refl) (λ e. sym (state_back s g h))

-- a value that was chosen where a test holds
pub chosen : {A : Type 0} (t : Bool) {x d : A} {o : Option A} → o ≡ pick t (Some x) None → o ≡ Some d
    → (t ≡ true) × (d ≡ x)
chosen true a b = (refl, cc)
chosen false a b = absurd (cc)

-- and where it does not, none is
pub not_chosen : {A : Type 0} (t : Bool) (x : A) {o : Option A} → o ≡ pick t (Some x) None → o ≡ None → t ≡ false
not_chosen true x a b = absurd (cc)
not_chosen false x a b = refl

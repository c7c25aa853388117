-- What a ready send channel gives, what a text is never refused for, and the codes that a call raises.
use mathlib.Core.Path.{◌≡◌, refl, sym, ap, ◌∙◌}
use mathlib.Core.Bool.{Bool, true, false}
use mathlib.Core.List.{List, []}
use Prim.Native.Nat.{ℕ, ◌≤◌, ◌<◌}
use native.Mathlib.Omega.{arith}
use lib.ListN.{length}
use lib.Dec.{eqb}
use borrow.Author.Tests.{eq-eqb, eqb-true}
use Rattle.std.specs.Prelude.{Option, Some, None}
use Rattle.common.specs.Choice.{pick}
use Rattle.common.specs.Refusals.{refusal_number, number_in}
use Rattle.common.specs.Rings.{most_slots}
use Rattle.common.specs.declared.refusals.Refusal.{Refusal}
use Rattle.common.proofs.Refused.{positive}
use Rattle.common.proofs.Bools.{apart, and_left, and_right}
use Rattle.common.proofs.Choices.{by_test, pick_is, passed, stopped}
use Rattle.messages.specs.Records.{message_in}
use Rattle.messages.specs.declared.Message.{Message}
use Rattle.events.specs.declared.Raise.{Raise}
use Rattle.message_text.specs.Reading.{read_message}
use Rattle.message_text.proofs.Cases.{is_refusal, read_is}
use Rattle.message_text.specs.declared.Said.{Said}
use Rattle.settings.specs.TxMode.{raises_at_take, raises_at_done}
use Rattle.settings.specs.Ranges.{good_shared}
use Rattle.settings.specs.declared.Shared.{Shared}
use Rattle.buffer.specs.Channel.{good_send, send_fits, oldest}
use Rattle.buffer.specs.declared.Send.{Send}
use Rattle.buffer.proofs.Laws.{send_ring}
use Rattle.outbox.specs.Refusals.{possible, ready, wait_refusal, take_refusal, done_refusal, abort_refusal}
use Rattle.outbox.specs.Calls.{Outcome, raised_if, refused, settled, takes, taken, finishes, finished, aborts, aborted}

-- a ready channel is good, and its table long enough
pub judged : (h : Shared) (s : Send) (n : ℕ) → ready h s n ≡ true → (good_send s ≡ true) × (send_fits s n ≡ true)
unfolding ready possible
judged h s n u =
    let able = and_left (possible h s) (send_fits s n) u in
    (and_right (good_shared h) (good_send s) able, and_right (possible h s) (send_fits s n) u)

-- ---- what a take that is not refused has shown

-- the number tested was 0
own_zero : (own n : ℕ) → pick (eqb own 0) n own ≡ 0 → (own ≡ 0) × (n ≡ 0)
own_zero own n e =
    by_test (eqb own 0) (λ x. (eqb-true own 0 x, rw x at e)) (λ x. absurd (apart (sym (eq-eqb own 0 (rw x at e)) ∙ x)))

pub may_take : (h : Shared) (s : Send) (t : List ℕ) → 0 ≡ take_refusal h s t
    → (s.ring.capacity ≤ most_slots) × (s.ring.first < s.ring.capacity) × (0 < s.ring.count)
unfolding take_refusal wait_refusal
may_take h s t e =
    let w = own_zero (wait_refusal h s (length t)) _ (sym e) in
    let u = passed (ready h s (length t)) _ 2 refl w.0 in
    let f = stopped s.held _ 5 refl u.1 in
    let c = stopped (eqb s.ring.count 0) 0 4 refl f.1 in
    let g = send_ring s (judged h s (length t) u.0).0 in
    let some : s.ring.count ≡ 0 → ⊥ = λ x. apart (sym (eq-eqb _ _ x) ∙ c.0) in
    (omega (arith, g.within), g.first_in, omega (arith, some))

-- ---- a text's own refusal is not 2

not_2 : (n : ℕ) → is_refusal n ≡ true → eqb 2 n ≡ false
not_2 n h = by_test (eqb 2 n) (λ x. absurd (apart (sym h ∙ ap is_refusal (sym (eqb-true 2 n x))))) (λ x. x)

pub text_not_2 : (align format : ℕ) (text : List ℕ) → eqb 2 (number_in (read_message align format text).said) ≡ false
text_not_2 align format text =
    read_is (λ (r : Said). eqb 2 (number_in r.said) ≡ false) align format text refl
    (λ why h. not_2 (refusal_number why) h) (λ t. refl)

-- ---- a refused call raises nothing

settled_refused : (n v : ℕ) (b : List ℕ) (s : Send) (t : List ℕ) (o : Outcome) → o.number ≡ 0 → (e : Refusal)
    → refusal_number e ≡ (settled n v b s t o).number → (settled n v b s t o).raised ≡ None
settled_refused n v b s t o z e = pick_is (λ (p : Outcome). refusal_number e ≡ p.number → p.raised ≡ None) (eqb n 0)
    (λ y h. absurd (positive e (h ∙ z))) (λ y h. refl)

module _ (h : Shared) (s : Send) (tick : ℕ) (t : List ℕ) (e : Refusal) where
  pub take_refused : refusal_number e ≡ (taken h s tick t).number → (taken h s tick t).raised ≡ None
  unfolding taken
  take_refused = settled_refused (take_refusal h s t) 0 _ s t (takes s tick (message_in (oldest s t)) t) refl e

  pub done_refused : refusal_number e ≡ (finished h s tick t).number → (finished h s tick t).raised ≡ None
  unfolding finished
  done_refused = settled_refused (done_refusal h s) 0 [] s t (finishes s tick t) refl e

  pub abort_refused : refusal_number e ≡ (aborted h s tick t).number → (aborted h s tick t).raised ≡ None
  unfolding aborted
  abort_refused = settled_refused (abort_refusal h s) 0 [] s t (aborts s tick t) refl e

-- ---- no call raises a received event

-- none, or an event of another code
abbrev pub Other : Option Raise → Type 0
Other (Some e) = e.code ≡ 1 → ⊥
Other None = Unit {0}

-- a code other than 1 where a test holds, else none
other_code : (test : Bool) (code tick : ℕ) (m : Message) → (code ≡ 1 → ⊥) → Other (raised_if test code tick m)
other_code test code tick m h = pick_is Other test (λ e. h) (λ e. tt)

-- a call whose effect raises no 1
other_raised : (n : ℕ) (o p : Outcome) → Other o.raised → Other p.raised → Other (pick (eqb n 0) o p).raised
other_raised n o p h g = pick_is (λ (q : Outcome). Other q.raised) (eqb n 0) (λ e. h) (λ e. g)

module _ (h : Shared) (s : Send) (tick : ℕ) (t : List ℕ) where
  pub take_raises : Other (taken h s tick t).raised
  unfolding taken take_refusal
  take_raises =
      other_raised (take_refusal h s t) (takes s tick (message_in (oldest s t)) t) (refused (take_refusal h s t) 0 _ s t)
      (other_code (raises_at_take s.tx) 2 tick _ (λ x. omega (arith, x))) tt

  pub done_raises : Other (finished h s tick t).raised
  unfolding finished
  done_raises =
      other_raised (done_refusal h s) (finishes s tick t) (refused (done_refusal h s) 0 [] s t)
      (other_code (raises_at_done s.tx) 2 tick _ (λ x. omega (arith, x))) tt

  pub abort_raises : Other (aborted h s tick t).raised
  unfolding aborted
  abort_raises =
      other_raised (abort_refusal h s) (aborts s tick t) (refused (abort_refusal h s) 0 [] s t)
      (other_code s.held 3 tick _ (λ x. omega (arith, x))) tt

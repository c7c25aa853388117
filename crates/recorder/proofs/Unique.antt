-- Each public call's contract leaves one outcome: two answers, with the devices and the bytes left beside them, that
-- both meet it are equal.
use Rattle.std.proofs.Common.{◌≡◌, ℕ, refl, sym, ◌∙◌, List, Result, Ok, Err, IfOk}
use Rattle.common.specs.Refusals.{number_in, Answers}
use Rattle.common.specs.declared.refusals.Refusal.{Refusal}
use Rattle.common.proofs.Refused.{same_answer, answers_unique}
use Rattle.queue.specs.Recording.{raise_number}
use Rattle.queue.specs.declared.Met.{Met}
use Rattle.queue.proofs.Numbers.{same_raise}
use Rattle.device.specs.Outcomes.{Outcome}
use Rattle.recorder.specs.Outcomes.{Leaves, QueueMet, SendMet, OutMet, PrintMet}
use Rattle.device.specs.declared.Device.{Device}

-- a value that is settled where there is one; a call that answers none has the one value of ()
abbrev pub Settled : {A : Type 0} → A → Result A Refusal → Type 0
Settled {A = A} v r = IfOk r (λ (a : A). a ≡ v)

none : (r : Result (Unit {0}) Refusal) → Settled tt r
none (Ok a) = refl
none (Err e) = tt

-- the answer and the device, whatever the value v is
with_value : {A : Type 0} (v : A) {o : Outcome} (r s : Result A Refusal) {d e : Device} → Leaves o (number_in r) d
    → Leaves o (number_in s) e → Settled v r → Settled v s → (r ≡ s) × (d ≡ e)
with_value v r s m n p q = (same_answer v r s (m.number ∙ sym n.number) p q, m.device ∙ sym n.device)

-- open, identifiers_through
pub alike : {A : Type 0} {n : ℕ} {v : A} {r s : Result A Refusal} → Answers n v r → Answers n v s → r ≡ s
alike p q = answers_unique p q

-- check_look
pub look_alike : {n : ℕ} {r s : Result (Unit {0}) Refusal} → number_in r ≡ n → number_in s ≡ n → r ≡ s
look_alike {r = r} {s = s} p q = same_answer tt r s (p ∙ sym q) (none r) (none s)

-- set_filter, set_event_mask, set_site
pub leaves_unique : {o : Outcome} {r s : Result (Unit {0}) Refusal} {d e : Device} → Leaves o (number_in r) d
    → Leaves o (number_in s) e → (r ≡ s) × (d ≡ e)
leaves_unique {r = r} {s = s} m n = with_value tt r s m n (none r) (none s)

-- read_record
pub record_unique : {o : Outcome} {r s : Result (List ℕ) Refusal} {d e : Device} → Leaves o (number_in r) d
    → Leaves o (number_in s) e → Settled o.bytes r → Settled o.bytes s → (r ≡ s) × (d ≡ e)
record_unique {o = o} {r = r} {s = s} m n p q = with_value o.bytes r s m n p q

-- set_mode, set_format, done
pub queue_unique : {o : Outcome} {r s : Result (Unit {0}) Refusal} {d e : Device} {q u : List ℕ}
    → QueueMet o (number_in r) d q → QueueMet o (number_in s) e u → (r ≡ s) × (d ≡ e) × (q ≡ u)
queue_unique {r = r} {s = s} m n =
    let l = with_value tt r s m.leaves n.leaves (none r) (none s) in (l.0, l.1, m.queue_bytes ∙ sym n.queue_bytes)

-- take
pub take_unique : {o : Outcome} {r s : Result (List ℕ) Refusal} {d e : Device} {q u : List ℕ}
    → QueueMet o (number_in r) d q → QueueMet o (number_in s) e u → Settled o.bytes r → Settled o.bytes s
    → (r ≡ s) × (d ≡ e) × (q ≡ u)
take_unique {o = o} {r = r} {s = s} m n p q =
    let l = with_value o.bytes r s m.leaves n.leaves p q in (l.0, l.1, m.queue_bytes ∙ sym n.queue_bytes)

-- abort
pub abort_unique : {o : Outcome} {r s : Result ℕ Refusal} {d e : Device} {q u : List ℕ}
    → QueueMet o (number_in r) d q → QueueMet o (number_in s) e u → Settled o.value r → Settled o.value s
    → (r ≡ s) × (d ≡ e) × (q ≡ u)
abort_unique {o = o} {r = r} {s = s} m n p q =
    let l = with_value o.value r s m.leaves n.leaves p q in (l.0, l.1, m.queue_bytes ∙ sym n.queue_bytes)

-- raise
pub raise_unique : {o : Outcome} {r s : Result Met Refusal} {d e : Device} {q u : List ℕ}
    → QueueMet o (raise_number r) d q → QueueMet o (raise_number s) e u → (r ≡ s) × (d ≡ e) × (q ≡ u)
raise_unique {r = r} {s = s} m n =
    let l = m.leaves in
    let k = n.leaves in
    (same_raise r s (l.number ∙ sym k.number), l.device ∙ sym k.device, m.queue_bytes ∙ sym n.queue_bytes)

-- send, send_text: the bytes of text used are settled by a clause of their own
pub send_unique : {o : Outcome} {r s : Result (Unit {0}) Refusal} {d e : Device} {t u : List ℕ}
    → SendMet o (number_in r) d t → SendMet o (number_in s) e u → (r ≡ s) × (d ≡ e) × (t ≡ u)
send_unique {r = r} {s = s} m n =
    let l = with_value tt r s m.leaves n.leaves (none r) (none s) in (l.0, l.1, m.send_bytes ∙ sym n.send_bytes)

-- print_message, print_message_record, print_event_record
pub print_unique : {o : Outcome} {r s : Result ℕ Refusal} {t u : List ℕ} → PrintMet o r t → PrintMet o s u
    → (r ≡ s) × (t ≡ u)
print_unique m n = (answers_unique m.answer n.answer, m.out_bytes ∙ sym n.out_bytes)

-- read_text
pub text_unique : {o : Outcome} {r s : Result ℕ Refusal} {d e : Device} {t u : List ℕ} → OutMet o r d t → OutMet o s e u
    → (r ≡ s) × (d ≡ e) × (t ≡ u)
text_unique m n =
    let p = print_unique m.prints n.prints in (p.0, m.device ∙ sym n.device, p.1)

-- No two different outcomes satisfy a contract: answer, next channel, event raised and every lent byte are settled.
use Rattle.std.proofs.Common.{◌≡◌, ℕ, sym, ◌∙◌, List, Result, IfOk}
use Rattle.common.specs.Refusals.{number_in}
use Rattle.common.specs.declared.refusals.Refusal.{Refusal}
use Rattle.common.proofs.Refused.{same_answer}
use Rattle.buffer.specs.declared.Send.{Send}
use Rattle.outbox.specs.Calls.{Outcome, Leaves, Writes}

-- send, send_text: the answer, whose value v is settled where there is one, the channel, and every byte of the table
pub write_unique : {A : Type 0} (v : A) {o : Outcome} {a b : Result A Refusal} {r s : Send} {t u : List ℕ}
    → Writes o (number_in a) r t → Writes o (number_in b) s u → IfOk a (λ (x : A). x ≡ v) → IfOk b (λ (x : A). x ≡ v)
    → (a ≡ b) × (r ≡ s) × (t ≡ u)
write_unique v {a = a} {b = b} m n e f =
    (same_answer v a b (m.leaves.number ∙ sym n.leaves.number) e f, m.leaves.send ∙ sym n.leaves.send, m.table ∙ sym n.table)

-- take, done, abort: the answer and the channel; the table is lent for reading only
pub read_unique : {A : Type 0} (v : A) {o : Outcome} {a b : Result A Refusal} {r s : Send}
    → Leaves o (number_in a) r → Leaves o (number_in b) s → IfOk a (λ (x : A). x ≡ v) → IfOk b (λ (x : A). x ≡ v)
    → (a ≡ b) × (r ≡ s)
read_unique v {a = a} {b = b} m n e f = (same_answer v a b (m.number ∙ sym n.number) e f, m.send ∙ sym n.send)

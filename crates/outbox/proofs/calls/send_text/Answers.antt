use Rattle.std.proofs.Common.{refl, sym, ◌∙◌, length, ltb}
use borrow.Author.Tests.{ltb-true}
use Rattle.common.proofs.Choices.{by_test, passed}
use Rattle.common.proofs.Refused.{positive}
use Rattle.outbox.specs.Refusals.{ready, put_refusal}
use Rattle.outbox.specs.Calls.{text_sent}
use Rattle.outbox.proofs.Laws.{judged, text_not_2}
use Rattle.outbox.proofs.calls.send_text.Goals as goal

pub returns-in-Err-clause-used : goal.returns-in-Err-clause-used
unfolding text_sent put_refusal
returns-in-Err-clause-used c =
    let a = c.args in
    by_test (ready a.h a.s.now (length a.table.now))
    (λ r. absurd (positive c.in-Err.why (c.in-Err.ensures ∙ rw r refl)))
    (λ r. rw (r, text_not_2 a.h.align _ a.text.now) refl)

pub put-requires : goal.put-requires
put-requires c =
    let a = c.args in
    let able = (passed (ready a.h a.s.now (length a.table.now)) 0 2 refl (sym c.in_default.ensures)).0 in
    let g = judged a.h a.s.now (length a.table.now) able in
    let r = a.s.now.ring in
    (g.0, g.1, ltb-true r.count r.capacity (passed (ltb r.count r.capacity) 0 5 refl (sym c.in_default-check_room.ensures)).0)

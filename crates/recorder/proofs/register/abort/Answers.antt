use Rattle.std.proofs.Common.{rules, sym, ◌∙◌, []}
use Rattle.outbox.specs.Calls as Outbox
use Rattle.outbox.proofs.Laws.{abort_raises, abort_refused}
use Rattle.device.specs.Outcomes.{lends}
use Rattle.recorder.specs.Register.{aborted}
use Rattle.recorder.proofs.SendWays.{carrying_refused, carrying_done}
use Rattle.recorder.proofs.register.abort.Goals as goal

pub returns-in_err-aborted-clause-met : goal.returns-in_err-aborted-clause-met
unfolding aborted
returns-in_err-aborted-clause-met c =
    let a = c.args in
    let ready = sym c.receive_ready.ensures ∙ c.if-not-receive_ready.false in
    let e = c.in_err-aborted.ensures in
    carrying_refused (Outbox.aborted a.d.now.shared a.d.now.send a.tick []) a.d.now (lends a.queue.now [] []) _ ready (search rules) e.leaves.send
    (abort_refused a.d.now.shared a.d.now.send a.tick [] c.in_err-aborted.field-0.0 e.leaves.number)

pub returns-clause-met : goal.returns-clause-met
unfolding aborted
returns-clause-met c =
    let a = c.args in
    let ready = sym c.receive_ready.ensures ∙ c.if-not-receive_ready.false in
    let e = c.in_ok-aborted.ensures in
    carrying_done (Outbox.aborted a.d.now.shared a.d.now.send a.tick []) a.d.now (lends a.queue.now [] []) _ ready e.leaves.number e.leaves.send
    (abort_raises a.d.now.shared a.d.now.send a.tick []) e.raised c.carry.ensures

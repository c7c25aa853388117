use Rattle.std.proofs.Common.{rules, sym, ◌∙◌, []}
use Rattle.outbox.specs.Calls as Outbox
use Rattle.outbox.proofs.Laws.{take_raises, take_refused}
use Rattle.device.specs.Outcomes.{lends}
use Rattle.recorder.specs.Register.{taken}
use Rattle.recorder.proofs.SendWays.{carrying_refused, carrying_done}
use Rattle.recorder.proofs.register.take.Goals as goal

pub returns-in_err-taken-clause-met : goal.returns-in_err-taken-clause-met
unfolding taken
returns-in_err-taken-clause-met c =
    let a = c.args in
    let ready = sym c.receive_ready.ensures ∙ c.if-not-receive_ready.false in
    let e = c.in_err-taken.ensures in
    carrying_refused (Outbox.taken a.d.now.shared a.d.now.send a.tick a.send.now) a.d.now (lends a.queue.now a.send.now []) _ ready (search rules) e.leaves.send
    (take_refused a.d.now.shared a.d.now.send a.tick a.send.now c.in_err-taken.field-0.0 e.leaves.number)

pub returns-clause-met : goal.returns-clause-met
unfolding taken
returns-clause-met c =
    let a = c.args in
    let ready = sym c.receive_ready.ensures ∙ c.if-not-receive_ready.false in
    let e = c.in_ok-taken.ensures in
    carrying_done (Outbox.taken a.d.now.shared a.d.now.send a.tick a.send.now) a.d.now (lends a.queue.now a.send.now []) _ ready e.leaves.number e.leaves.send
    (take_raises a.d.now.shared a.d.now.send a.tick a.send.now) e.raised c.carry.ensures

use Rattle.std.proofs.Common.{rules, sym, ◌∙◌, []}
use Rattle.outbox.specs.Calls as Outbox
use Rattle.outbox.proofs.Laws.{done_raises, done_refused}
use Rattle.device.specs.Outcomes.{lends}
use Rattle.recorder.specs.Register.{finished}
use Rattle.recorder.proofs.SendWays.{carrying_refused, carrying_done}
use Rattle.recorder.proofs.register.done.Goals as goal

pub returns-in_err-raised : goal.returns-in_err-raised
unfolding finished
returns-in_err-raised c =
    let a = c.args in
    let ready = sym c.receive_ready.ensures ∙ c.if-not-receive_ready.false in
    let e = c.in_err-raised.ensures in
    carrying_refused (Outbox.finished a.d.now.shared a.d.now.send a.tick []) a.d.now (lends a.queue.now [] []) _ ready (search rules) e.leaves.send
    (done_refused a.d.now.shared a.d.now.send a.tick [] c.in_err-raised.field-0.0 e.leaves.number)

pub returns : goal.returns
unfolding finished
returns c =
    let a = c.args in
    let ready = sym c.receive_ready.ensures ∙ c.if-not-receive_ready.false in
    let e = c.in_ok-raised.ensures in
    carrying_done (Outbox.finished a.d.now.shared a.d.now.send a.tick []) a.d.now (lends a.queue.now [] []) _ ready e.leaves.number e.leaves.send
    (done_raises a.d.now.shared a.d.now.send a.tick []) e.raised c.carry.ensures

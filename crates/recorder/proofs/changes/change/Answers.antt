use Rattle.std.proofs.Common.{arith, ◌≡◌, refl, sym, ◌∙◌, []}
use Rattle.std.proofs.lemmas.Grind.{common_steps}
use Rattle.messages.specs.Records.{no_message}
use Rattle.device.specs.Outcomes.{lends}
use Rattle.recorder.specs.Changes.{changed}
use Rattle.recorder.specs.Outcomes.{noted}
use Rattle.recorder.proofs.ChangeWays.{change_past}
use Rattle.recorder.proofs.Ready.{ready_usable}
use Rattle.recorder.proofs.changes.change.Goals as goal

pub past_filter-requires : goal.past_filter-requires
past_filter-requires c =
    ready_usable c.args.d.now (lends c.args.queue.now [] []) (sym c.queue_ready.ensures ∙ c.if-not-queue_ready.false)

pub returns : goal.returns
unfolding changed noted
returns c =
    let a = c.args in
    let ready = sym c.queue_ready.ensures ∙ c.if-not-queue_ready.false in
    let good = sym c.is_good.ensures ∙ c.if-not-is_good.false in
    let past = change_past a.s a.tick a.d.now (lends a.queue.now [] []) in
    let none : c.default.result ≡ no_message = grind (arith, common_steps) in
    let met = rw none at c.past_filter.ensures in
    rw (ready, good, past)
    (record { leaves = record { number = refl; device = rw met.receive }; queue_bytes = met.table })

use Rattle.std.proofs.Common.{ap, List, ℕ, []}
use Rattle.device.specs.Outcomes.{Outcome, lends}
use Rattle.model.specs.Outbox.{abort}
use Rattle.model.specs.Box.{on_send}
use Rattle.promises.specs.Calls.{outcome}
use Rattle.kept.proofs.Laws.{chosen}
use Rattle.kept.proofs.Moves.{abort_moves, transferred_left}
use Rattle.board.specs.Board.{borrowed}
use Rattle.board.proofs.Ways.{went_with}
use Rattle.board.proofs.register.sv_abort.Goals as goal

pub returns-in-Ok : goal.returns-in-Ok
unfolding outcome borrowed
returns-in-Ok c =
    let a = c.args in
    let d = c.in-Some.d in
    let l = lends a.queue.now [] [] in
    let s = chosen _ c.state_device.ensures c.in-Some.is in
    let met = c.in-Ok.ensures.met in
    let kept = transferred_left a.state.now s.1 (rw met.leaves.device (abort_moves d l a.tick))
    c.keep_transferred.ensures in
    went_with (on_send (abort a.tick)) _ l s.0 s.1 met.leaves.number met.leaves.device kept
    (ap (λ (q : List ℕ). lends q [] []) met.queue_bytes) (λ (o : Outcome). o.value) c.in-Ok.ensures.purged

use Rattle.std.proofs.Common.{ap, List, ℕ, []}
use Rattle.device.specs.Outcomes.{lends}
use Rattle.model.specs.Outbox.{done}
use Rattle.model.specs.Box.{on_send}
use Rattle.promises.specs.Calls.{outcome}
use Rattle.kept.proofs.Laws.{chosen}
use Rattle.kept.proofs.Moves.{done_moves, transferred_left}
use Rattle.board.specs.Board.{borrowed}
use Rattle.board.proofs.Ways.{went}
use Rattle.board.proofs.register.sv_done.Goals as goal

pub returns-in-Ok : goal.returns-in-Ok
unfolding outcome borrowed
returns-in-Ok c =
    let d = c.in-Some.d in
    let l = lends c.args.queue.now [] [] in
    let s = chosen _ c.state_device.ensures c.in-Some.is in
    let met = c.in-Ok.ensures in
    let kept = transferred_left c.args.state.now s.1 (rw met.leaves.device (done_moves d l c.args.tick))
    c.keep_transferred.ensures in
    went (on_send (done c.args.tick)) _ l s.0 s.1 met.leaves.number met.leaves.device kept
    (ap (λ (q : List ℕ). lends q [] []) met.queue_bytes)

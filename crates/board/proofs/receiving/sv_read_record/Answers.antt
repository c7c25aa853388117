use Rattle.std.proofs.Common.{sym, []}
use Rattle.device.specs.Outcomes.{Outcome, lends}
use Rattle.model.specs.Inbox.{read_record}
use Rattle.model.specs.Box.{on_receive}
use Rattle.promises.specs.Calls.{outcome}
use Rattle.kept.proofs.Laws.{chosen}
use Rattle.kept.proofs.Moves.{record_moves, advanced_left}
use Rattle.board.specs.Board.{borrowed}
use Rattle.board.proofs.Ways.{record_still, went_with}
use Rattle.board.proofs.receiving.sv_read_record.Goals as goal

pub returns-in-Ok : goal.returns-in-Ok
unfolding outcome borrowed
returns-in-Ok c =
    let d = c.in-Some.d in
    let l = lends c.args.queue.now [] [] in
    let s = chosen _ c.state_device.ensures c.in-Some.is in
    let met = c.in-Ok.ensures in
    let kept = advanced_left c.args.state.now s.1 (rw met.leaves.device (record_moves d l)) c.keep_advanced.ensures in
    went_with (on_receive read_record) _ l s.0 s.1 met.leaves.number met.leaves.device kept
    (λ i. lends (sym (record_still d l) i) [] []) (λ (o : Outcome). o.bytes) met.bytes

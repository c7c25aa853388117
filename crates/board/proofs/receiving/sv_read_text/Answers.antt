use Rattle.std.proofs.Common.{sym, []}
use Rattle.device.specs.Outcomes.{Outcome, lends}
use Rattle.model.specs.Inbox.{read_text}
use Rattle.model.specs.Box.{on_receive}
use Rattle.promises.specs.Calls.{outcome}
use Rattle.kept.proofs.Laws.{chosen}
use Rattle.kept.proofs.Moves.{text_moves, advanced_left}
use Rattle.board.specs.Board.{borrowed}
use Rattle.board.proofs.Ways.{text_still, went_with}
use Rattle.board.proofs.receiving.sv_read_text.Goals as goal

pub returns-in-Ok : goal.returns-in-Ok
unfolding outcome borrowed
returns-in-Ok c =
    let d = c.in-Some.d in
    let l = lends c.args.queue.now [] c.args.out.now in
    let s = chosen _ c.state_device.ensures c.in-Some.is in
    let met = c.in-Ok.ensures in
    let kept = advanced_left c.args.state.now s.1 (rw met.device (text_moves d l)) c.keep_advanced.ensures in
    went_with (on_receive read_text) _ l s.0 s.1 met.prints.answer.number met.device kept
    (λ i. lends (sym (text_still d l) i) [] (met.prints.out_bytes i)) (λ (o : Outcome). o.value) met.prints.answer.value

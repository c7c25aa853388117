use Rattle.model.specs.Box.{print_message_record}
use Rattle.kept.proofs.Laws.{chosen}
use Rattle.board.proofs.Ways.{print_called}
use Rattle.board.proofs.printing.sv_print_message_record.Goals as goal

pub returns : goal.returns
returns c =
    let s = chosen _ c.state_device.ensures c.in-Some.is in
    let h = c.hand_answer.ensures in
    print_called (print_message_record c.args.s.now) _ _
    (λ i. (c.type_inv.state i).fits) s.0 s.1 c.print_message_record-printed.ensures h.number h.value h.kept

use Rattle.model.specs.Box.{print_message}
use Rattle.kept.specs.Handing.{message}
use Rattle.kept.proofs.Laws.{chosen}
use Rattle.board.proofs.Ways.{print_called}
use Rattle.board.proofs.printing.sv_print_message.Goals as goal

pub returns : goal.returns
returns c =
    let s = chosen _ c.state_device.ensures c.in-Some.is in
    let h = c.hand_answer.ensures in
    let m = rw c.message-m.ensures at c.print_message-printed.ensures in
    print_called (print_message (message c.args.id c.args.format c.args.rtr c.args.dlc c.args.bytes.now)) _ _
    (λ i. (c.type_inv.state i).fits) s.0 s.1 m h.number h.value h.kept

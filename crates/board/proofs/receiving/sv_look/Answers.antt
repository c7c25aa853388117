use Rattle.std.proofs.Common.{arith}
use Rattle.queue.proofs.Laws.{receive_ring}
use Rattle.kept.proofs.Laws.{chosen}
use Rattle.board.proofs.Ways.{look_may, look_shown}
use Rattle.board.proofs.receiving.sv_look.Goals as goal

pub place-requires : goal.place-requires
place-requires c =
    let may = look_may c.args.p c.in-Some.d c.args.queue.now c.in_default-check_look.ensures in
    let ring = receive_ring c.in-Some.d.receive may.0 in
    record { ring = (omega arith, ring.first_in, omega arith); width = omega arith }

pub returns : goal.returns
returns c =
    let s = chosen _ c.state_device.ensures c.in-Some.is in
    look_shown c.args.p _ c.args.queue.now (λ i. (c.type_inv.state i).fits) s.0 s.1
    c.in_default-check_look.ensures c.place.ensures.place

use Rattle.std.proofs.Common.{sym, ◌∙◌}
use Rattle.kept.proofs.Judged.{possible_state, possible_good, good_receive_lem}
use Rattle.kept.proofs.Laws.{chosen, not_chosen, refused_left}
use Rattle.board.proofs.Ways.{not_raised, raised_called, raised_left, met_left}
use Rattle.board.proofs.receiving.sv_raise.Goals as goal

pub returns-in_default : goal.returns-in_default
returns-in_default c =
    rw c.number.ensures
    (not_raised c.args.state.now c.args.code c.args.tick _ c.args.queue.now
    (not_chosen _ _ c.possible_device_in.ensures c.in_default.is))

pub raise_possible-requires : goal.raise_possible-requires
raise_possible-requires c =
    let s = chosen _ c.possible_device_in.ensures c.in-Some.is in
    good_receive_lem c.in-Some.d (rw s.1 (possible_good c.args.state.now s.0))

pub keep_counted-requires : goal.keep_counted-requires
keep_counted-requires c =
    possible_state c.args.state.now (chosen _ c.possible_device_in.ensures c.in-Some.is).0

pub returns-in-Err : goal.returns-in-Err
returns-in-Err c =
    let a = c.args in
    let s = chosen _ c.possible_device_in.ensures c.in-Some.is in
    let met = rw c.message-frame.ensures at c.in-Err.ensures in
    rw c.number-in-Err.ensures
    (raised_called a.state.now a.code a.tick _ a.queue.now s.0 s.1 met
    (sym (refused_left c.in-Err.refusal a.state.now _)))

pub returns-in-Ok : goal.returns-in-Ok
returns-in-Ok c =
    let a = c.args in
    let s = chosen _ c.possible_device_in.ensures c.in-Some.is in
    let met = rw c.message-frame.ensures at c.in-Ok.ensures in
    rw c.number-in-Ok.ensures
    (raised_called a.state.now a.code a.tick _ a.queue.now s.0 s.1 met
    (raised_left a.state.now a.code a.tick _ a.queue.now s.0 s.1 met.receive c.keep_counted.ensures
    ∙ sym (met_left c.in-Ok.met a.state.now _)))

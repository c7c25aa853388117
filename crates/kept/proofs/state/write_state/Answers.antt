use Rattle.kept.proofs.Laws.{state_written}
use Rattle.kept.proofs.state.write_state.Goals as goal

pub returns : goal.returns
returns c =
    state_written c.args.s.now c.args.d c.requires c.write_shared.ensures c.write_receive.ensures c.write_send.ensures

use Rattle.std.proofs.Common.{rules}
use Rattle.common.proofs.RingFacts.{store_part}
use Rattle.messages.specs.Records.{message_size, message_bytes}
use Rattle.buffer.proofs.Send.put.Goals as goal

pub returns-clause-table : goal.returns-clause-table
returns-clause-table c =
    store_part message_size _ _ c.args.table.now (message_bytes c.args.m) _ c.place-at.ensures.place (search rules)
    c.write.ensures

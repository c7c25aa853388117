use Rattle.message_text.proofs.Printed.{message_printed}
use Rattle.message_text.proofs.printing.print_message.Goals as goal

pub returns : goal.returns
returns c =
    message_printed c.args.align c.args.m c.if-align-gt3.false c.in_ok-check.ensures c.in-Some.ensures
    c.if-out-lt-ROOM.false c.put_message.ensures

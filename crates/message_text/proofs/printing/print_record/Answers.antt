use Rattle.std.proofs.Common.{sym}
use Rattle.message_text.proofs.Printed.{record_printed}
use Rattle.message_text.proofs.printing.print_record.Goals as goal

pub returns : goal.returns
returns c = record_printed c.args.s.now c.in-Some.m c.args.align (sym c.in-Some.ensures) c.print_message.ensures

use Rattle.std.proofs.Common.{◌∙◌, arith, rules}
use Rattle.message_text.proofs.Data.{bytes_more, data_more}
use Rattle.message_text.proofs.reading.data_bytes.Goals as goal

pub loop-i-preserved : goal.loop-i-preserved
loop-i-preserved c =
    let l = c.loop-i in
    let read = c.in-Ok.ensures in record {
      size = search rules;
      read = data_more c.args.values.now l.bytes l.i c.in-Ok.byte (omega arith) (omega arith) read.1 l.invariant.read;
      left = l.invariant.left ∙ bytes_more c.args.values.now l.i (omega arith) read.0;
    }

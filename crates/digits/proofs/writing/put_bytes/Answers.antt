use Rattle.std.proofs.Common.{◌∙◌, get_or, arith}
use Rattle.digits.proofs.Lengths.{hex_length}
use Rattle.digits.proofs.Steps.{fields_step, fields_done}
use Rattle.digits.proofs.writing.put_bytes.Goals as goal

pub loop-x-preserved : goal.loop-x-preserved
loop-x-preserved c =
    let l = c.loop-x in
    let k = c.put_field-end in
    let b = c.args.b.now in
    let e = rw c.from.ensures at k.ensures in (
      l.invariant.0 ∙ fields_step c.args.separator l.x-index b (omega arith) e,
      omega (arith, e.place, hex_length 2 (get_or b l.x-index 0)),
      k.auto.out ∙ l.invariant.2,
    )

pub returns : goal.returns
returns c =
    let l = c.loop-x in
    fields_done c.args.separator l.x-index c.args.b.now l.invariant.0 l.invariant.1 (omega arith) (omega arith)

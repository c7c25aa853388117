use Rattle.std.proofs.Common.{◌∙◌, arith, rules}
use Rattle.digits.proofs.Steps.{hex_step, hex_done}
use Rattle.digits.proofs.writing.put_hex.Goals as goal

pub loop-k-preserved : goal.loop-k-preserved
loop-k-preserved c =
    let l = c.loop-k in (
      l.invariant.0 ∙ hex_step c.args.n l.k l.out l.end c.digit.result (omega arith) c.digit.ensures,
      omega arith,
      search rules,
      omega arith,
    )

pub returns : goal.returns
returns c =
    hex_done c.args.w c.args.n c.loop-k.k c.loop-k.invariant.0 c.loop-k.invariant.1 (omega arith)

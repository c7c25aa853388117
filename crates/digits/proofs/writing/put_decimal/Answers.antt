use Rattle.std.proofs.Common.{◌∙◌, refl, arith, rules}
use Rattle.digits.proofs.Steps.{lows_starts, lows_step, lows_done}
use Rattle.digits.proofs.writing.put_decimal.Goals as goal

pub loop-i-init : goal.loop-i-init
loop-i-init c =
    (lows_starts c.args.out.now c.args.at c.args.n c.digits_in.result c.digits_in.ensures, omega arith, refl)

pub loop-i-preserved : goal.loop-i-preserved
loop-i-preserved c =
    let l = c.loop-i in (
      l.invariant.0 ∙ lows_step l.rest l.out c.args.at l.i c.loop-i-test.true,
      omega arith,
      search rules,
    )

pub returns : goal.returns
returns c =
    lows_done c.args.n c.loop-i.rest c.loop-i.invariant.0 c.loop-i-test.false c.digits_in.ensures

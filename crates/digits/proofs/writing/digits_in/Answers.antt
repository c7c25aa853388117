use Rattle.std.proofs.Common.{◌<◌, ◌^◌, arith, rules}
use Rattle.digits.proofs.Lengths.{decimal_length_one, decimal_length_suc, decimal_cut_le}
use Rattle.digits.proofs.writing.digits_in.Goals as goal

pub overflow_add-w : goal.overflow_add-w
overflow_add-w c = omega (arith, decimal_cut_le c.args.n)

pub loop-rest-preserved : goal.loop-rest-preserved
loop-rest-preserved c =
    let l = c.loop-rest in
    let h : c.args.n < 2 ^ 64 = search rules in (
      omega (arith, decimal_length_suc l.rest c.loop-rest-test.true (omega arith)),
      omega arith,
    )

pub returns : goal.returns
returns c = omega (arith, decimal_length_one c.loop-rest.rest (omega arith))

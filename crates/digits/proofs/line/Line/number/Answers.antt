use Rattle.std.proofs.Common.{arith, rules}
use Rattle.digits.proofs.Written.{appended}
use Rattle.digits.proofs.line.Line.number.Goals as goal

pub returns : goal.returns
returns g c = appended c.put_number-self-inside.ensures c.self.view_is (search rules) (omega arith)

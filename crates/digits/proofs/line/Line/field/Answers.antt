use Rattle.std.proofs.Common.{arith, rules}
use Rattle.digits.proofs.Lengths.{hex_length}
use Rattle.digits.proofs.Written.{appended}
use Rattle.digits.proofs.line.Line.field.Goals as goal

pub returns : goal.returns
returns g c = appended c.put_field-self-inside.ensures c.self.view_is (search rules) (omega (arith, hex_length c.args.w c.args.n))

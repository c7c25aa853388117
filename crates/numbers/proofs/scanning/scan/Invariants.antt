use Rattle.std.proofs.Common.{length, ◌-◌, ◌^◌, ◌≤◌}
use Rattle.numbers.specs.Numbers.{between, within}
use Rattle.numbers.proofs.Keeping.{Going}
use Rattle.numbers.proofs.scanning.scan.Given as goal

abbrev pub invariant-numbers : goal.invariant-numbers
invariant-numbers l = Going l.text between l.kept l.i × (l.kept.count ≤ 11)

abbrev pub decreases-numbers : goal.decreases-numbers
decreases-numbers l = length l.text - l.i

abbrev pub invariant-digits : goal.invariant-digits
invariant-digits l =
    Going l.text (within l.v) l.kept l.i × (l.initial.i ≤ l.i) × (l.kept.count ≤ 11) × (l.v ≤ 2 ^ 32)

abbrev pub decreases-digits : goal.decreases-digits
decreases-digits l = length l.text - l.i

use Rattle.std.proofs.Common.{◌-◌, ◌≡◌, ◌≤◌, length}
use Rattle.std.proofs.lemmas.List.Edits.{sets}
use Rattle.digits.specs.Digits.{decimal}
use Rattle.digits.proofs.Decimal.{lows}
use Rattle.digits.proofs.writing.put_decimal.Given as goal

abbrev pub invariant-loop-i : goal.invariant-loop-i
invariant-loop-i l =
    (sets l.initial.out l.at (decimal l.n) ≡ sets l.out l.at (lows (l.i - l.at) l.rest)) × (l.i ≤ l.end)
    × (length l.out ≡ length l.initial.out)

abbrev pub decreases-loop-i : goal.decreases-loop-i
decreases-loop-i l = l.i - l.at

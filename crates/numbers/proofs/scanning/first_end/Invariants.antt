use Rattle.std.proofs.Common.{length, ◌≡◌, ◌≤◌, ◌+◌, max, drop}
use Rattle.numbers.specs.Numbers.{before_end}
use Rattle.numbers.proofs.scanning.first_end.Given as goal

abbrev pub invariant-loop-i : goal.invariant-loop-i
invariant-loop-i l =
    (l.from + before_end (drop l.from l.text) ≡ l.i + before_end (drop l.i l.text)) × (l.i ≤ max l.from (length l.text))

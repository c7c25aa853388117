use Rattle.std.proofs.Common.{length, ◌≡◌, ◌≤◌, ◌+◌, max, drop}
use Rattle.numbers.specs.Numbers.{end_run}
use Rattle.numbers.proofs.scanning.after_ends.Given as goal

abbrev pub invariant-loop-i : goal.invariant-loop-i
invariant-loop-i l =
    (l.from + end_run (drop l.from l.text) ≡ l.i + end_run (drop l.i l.text)) × (l.i ≤ max l.from (length l.text))

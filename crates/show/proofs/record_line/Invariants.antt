use Rattle.std.proofs.Common.{◌≡◌, ◌++◌, ◌*◌, length, drop}
use Rattle.show.specs.Lines.{pairs}
use Rattle.show.proofs.record_line.Given as goal

abbrev pub invariant-loop-x : goal.invariant-loop-x
invariant-loop-x l = (l.line ++ pairs (drop l.x-index l.fn.b) ≡ pairs l.fn.b) × (length l.line ≡ 2 * l.x-index)

use Rattle.std.proofs.Common.{◌+◌, ◌*◌, ◌≡◌, length, drop}
use Rattle.std.proofs.lemmas.List.Edits.{sets}
use Rattle.digits.specs.Digits.{fields}
use Rattle.digits.proofs.writing.put_bytes.Given as goal

abbrev pub invariant-loop-x : goal.invariant-loop-x
invariant-loop-x l =
    (sets l.initial.out l.at (fields l.separator l.b) ≡ sets l.out l.end (fields l.separator (drop l.x-index l.b)))
    × (l.end ≡ l.at + 3 * l.x-index) × (length l.out ≡ length l.initial.out)

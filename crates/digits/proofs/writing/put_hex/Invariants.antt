use Rattle.std.proofs.Common.{◌+◌, ◌≡◌, ◌≤◌, length}
use Rattle.std.proofs.lemmas.List.Edits.{sets}
use Rattle.digits.specs.Digits.{hex}
use Rattle.digits.proofs.writing.put_hex.Given as goal

abbrev pub invariant-loop-k : goal.invariant-loop-k
invariant-loop-k l =
    (sets l.initial.out l.at (hex l.w l.n) ≡ sets l.out l.end (hex l.k l.n)) × (l.end + l.k ≡ l.at + l.w)
    × (length l.out ≡ length l.initial.out) × (l.k ≤ l.w)

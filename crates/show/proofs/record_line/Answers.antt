use Rattle.std.proofs.Common.{◌≡◌, ◌+◌, sym, ◌∙◌, get_or, drop, length, arith, rules, append-nil, append_assoc, length-append}
use Rattle.digits.specs.Digits.{hex}
use Rattle.digits.proofs.Lengths.{hex_length}
use Rattle.show.specs.Lines.{pairs}
use Rattle.show.proofs.Laws.{pairs_first, pairs_none}
use Rattle.show.proofs.record_line.Goals as goal

pub loop-x-preserved : goal.loop-x-preserved
loop-x-preserved c =
    let l = c.loop-x in
    let b = c.args.b in
    let d = hex 2 (get_or b l.x-index 0) in
    let n : length b ≡ 16 = search rules in
    let e = pairs_first b l.x-index (omega arith) in (
      rw (c.hex.ensures, c.from.ensures, append_assoc l.line d (pairs (drop (l.x-index + 1) b)), ← e) l.invariant.0,
      rw (c.hex.ensures, c.from.ensures, length-append l.line d) (omega (arith, hex_length 2 (get_or b l.x-index 0))),
    )

pub returns-clause-line : goal.returns-clause-line
returns-clause-line c =
    let l = c.loop-x in
    let n : length c.args.b ≡ 16 = search rules in
    let e = sym (append-nil l.line) ∙ rw (pairs_none c.args.b l.x-index (omega arith)) at l.invariant.0 in
    rw e at c.byte.ensures

use Rattle.std.proofs.Common.{arith, rules}
use Rattle.numbers.specs.Numbers.{between}
use Rattle.numbers.proofs.Keeping.{Going, first_digit, next_digit, separator}
use Rattle.numbers.proofs.Keeping.{whole_last, whole_separator, whole_end, met_end, met_full}
use Rattle.numbers.proofs.scanning.scan.Goals.{else-digits-test, then-digits-test+in-Separator-byte_kind}
use Rattle.numbers.proofs.scanning.scan.Goals as goal

pub numbers-preserved-in-Separator : goal.numbers-preserved-in-Separator
numbers-preserved-in-Separator c =
    (separator (omega arith) c.byte_kind.ensures c.numbers.invariant.0 c.in-Separator.is, omega arith)

pub digits-init : goal.digits-init
digits-init c = (
  first_digit (omega arith) c.byte_kind.ensures c.numbers.invariant.0 c.in-Digit.is,
  omega arith,
  omega arith,
  search rules,
)

pub digits-preserved : goal.digits-preserved
digits-preserved c = (
  next_digit (omega arith) c.byte_kind-in-digits.ensures c.digits.invariant.0 c.in-Digit-byte_kind.is
      c.with_digit-v.ensures,
  omega arith,
  omega arith,
  omega arith,
)

pub numbers-preserved : goal.numbers-preserved
numbers-preserved c =
    let s = c.digits in
    let e = c.keep-in-numbers.ensures in
    let left : Going c.args.text.now between c.keep-in-numbers.new.self c.digits-test.i =
    elim c.digits-test.branch [
      | else-digits-test w ↦ rw w.i-is (whole_last s.invariant.0 s.invariant.3 s.invariant.2 e (omega arith))
      | then-digits-test+in-Separator-byte_kind w ↦
          rw w.i-is (whole_separator s.invariant.0 s.invariant.3 s.invariant.2 e (omega arith)
          w.byte_kind-in-digits.ensures w.in-Separator-byte_kind.is)
    ] in
    (left, omega (arith, left.room))

pub returns-in-End-byte_kind : goal.returns-in-End-byte_kind
returns-in-End-byte_kind c =
    let s = c.digits in
    let k = c.byte_kind-in-digits in
    let e = c.in-End-byte_kind.is in
    met_end (whole_end s.invariant.0 s.invariant.3 s.invariant.2 c.keep.ensures (omega arith) k.ensures e)
    (omega arith) k.ensures e

pub returns-then-kept-eq12 : goal.returns-then-kept-eq12
returns-then-kept-eq12 c =
    let s = c.digits in
    let e = c.keep-in-numbers.ensures in
    let left : Going c.args.text.now between c.keep-in-numbers.new.self c.digits-test.i =
    elim c.digits-test.branch [
      | else-digits-test w ↦ rw w.i-is (whole_last s.invariant.0 s.invariant.3 s.invariant.2 e (omega arith))
      | then-digits-test+in-Separator-byte_kind w ↦
          rw w.i-is (whole_separator s.invariant.0 s.invariant.3 s.invariant.2 e (omega arith)
          w.byte_kind-in-digits.ensures w.in-Separator-byte_kind.is)
    ] in
    met_full left c.if-kept-eq12.true

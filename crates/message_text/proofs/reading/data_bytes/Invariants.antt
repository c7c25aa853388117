use Rattle.std.proofs.Common.{◌≡◌, length, take, drop}
use Rattle.message_text.specs.Reading.{all_bytes}
use Rattle.message_text.proofs.reading.data_bytes.Given as goal

abbrev pub invariant-loop-i : goal.invariant-loop-i
invariant-loop-i l = record {
  size : length l.bytes ≡ 8;
  read : take l.i l.bytes ≡ take l.i l.values;
  left : all_bytes l.values ≡ all_bytes (drop l.i l.values);
}

-- A device is kept whole: its bytes stand for it, and a state's bytes are those of the device that they stand for.
use mathlib.Core.Path.{◌≡◌, refl, sym, ap, ap₂, ◌∙◌}
use mathlib.Core.List.{List, ◌++◌}
use mathlib.Core.Bool.{Bool, true, false}
use Prim.Native.Nat.{ℕ, zero, suc, ◌+◌, ◌*◌, ◌/◌, ◌%◌, ◌^◌, ◌≤◌, ◌<◌}
use native.Mathlib.Omega.{arith}
use lib.ListN.{length, get_or}
use lib.Seq.{take_all}
use lib.Dec.{leb, eqb}
use borrow.Author.Tests.{eqb-true, leb-true}
use Rattle.common.specs.Choice.{pick}
use Rattle.common.specs.Numbers.{Bytes}
use Rattle.common.proofs.Bools.{and_left, and_right}
use Rattle.common.proofs.Lists.{reads_slice, reads_all}
use Rattle.settings.specs.Given.{joined}
use Rattle.device.specs.declared.Device.{Device}
use Rattle.layout.specs.Parts.{word_bytes, word}
use Rattle.layout.proofs.RoundTrip.{word_words, word_below, words_reads}
use Rattle.kept.specs.State.{send_at, state_size, state_numbers, state_bytes, device_in, is_state}

-- ---- from a device to its bytes and back

-- a number of 64 bits is its two halves
halves_back : (n : ℕ) → joined (n % 2 ^ 32) (n / 2 ^ 32) ≡ n
halves_back n = omega arith

-- and two halves are those of their number
halves_are : (low high : ℕ) → low < 4294967296 → (joined low high % 2 ^ 32 ≡ low) × (joined low high / 2 ^ 32 ≡ high)
halves_are low high h = (omega arith, omega arith)

held_back : (b : Bool) → eqb (pick b 1 0) 1 ≡ b
held_back true = refl
held_back false = refl

-- a device of 32-bit numbers, whose register has eight data bytes, comes back
pub device_back : (d : Device) → ((k : ℕ) → get_or (state_numbers d) k 0 < 4294967296)
    → length d.send.message.bytes ≡ 8
    → device_in (state_bytes d) ≡ d
unfolding device_in state_bytes
device_back d fits long = λ i. record {
  shared = record {
    mode = w 0 (omega arith) i;
    format = w 1 (omega arith) i;
    align = w 2 (omega arith) i;
    site = record {
      offset = w 3 (omega arith) i;
      second = (ap₂ joined (w 4 (omega arith)) (w 5 (omega arith)) ∙ halves_back d.shared.site.second) i;
    };
  };
  receive = record {
    filter = record { active = w 6 (omega arith) i; code = w 7 (omega arith) i; mask = w 8 (omega arith) i };
    events = w 9 (omega arith) i;
    ring = record { capacity = w 10 (omega arith) i; first = w 11 (omega arith) i; count = w 12 (omega arith) i };
    pending = w 13 (omega arith) i;
  };
  send = record {
    tx = w 14 (omega arith) i;
    ring = record { capacity = w 15 (omega arith) i; first = w 16 (omega arith) i; count = w 17 (omega arith) i };
    held = (ap (λ (n : ℕ). eqb n 1) (w 18 (omega arith)) ∙ held_back d.send.held) i;
    message = record {
      header = record {
        id = w 19 (omega arith) i;
        format = w 20 (omega arith) i;
        rtr = w 21 (omega arith) i;
        dlc = w 22 (omega arith) i;
      };
      bytes = take_all 8 d.send.message.bytes (omega arith) i;
    };
  };
}
  where
    w : (k : ℕ) → k < 23 → word (word_bytes (state_numbers d) ++ d.send.message.bytes) (4 * k)
        ≡ get_or (state_numbers d) k 0
    w k h = word_words (state_numbers d) d.send.message.bytes k h (fits k)

-- ---- from bytes to their device and back

held_number : (n : ℕ) → n ≤ 1 → pick (eqb n 1) 1 0 ≡ n
held_number zero h = refl
held_number (suc zero) h = refl
held_number (suc (suc n)) h = absurd (omega arith)

-- the bytes of a state come back
pub state_back : (b : List ℕ) → Bytes b → is_state b ≡ true → state_bytes (device_in b) ≡ b
unfolding device_in state_bytes is_state
state_back b g h =
    let held = word b (send_at + 16) in
    let l : length b ≡ state_size = eqb-true (length b) state_size (and_left (eqb (length b) state_size) (leb held 1) h) in
    let m : held ≤ 1 = leb-true held 1 (and_right (eqb (length b) state_size) (leb held 1) h) in
    let halves = halves_are (word b 16) (word b 20) (word_below b 16 g (omega arith)) in
    rw (held_number held m, halves.0, halves.1)
    (λ i. words_reads b 0 23 g (omega arith) i ++ sym (reads_slice b 92 8 (omega arith)) i)
    ∙ reads_all b state_size l

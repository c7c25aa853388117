-- A message that a text says is a good message.
use Prim.Native.Nat.{ℕ, ◌-◌, ◌^◌}
use mathlib.Core.Path.{◌≡◌}
use mathlib.Core.List.{List}
use mathlib.Core.Bool.{true}
use native.Mathlib.Omega.{arith}
use borrow.Author.Tests.{lt-ltb, le-leb}
use lib.ListN.{length, get_or, take, drop, replicate, length-append, length-drop, length-replicate}
use lib.Seq.{drop_at, length-take-le}
use Rattle.std.specs.Prelude.{Result, Ok, Err}
use Rattle.common.specs.declared.refusals.Refusal.{Refusal}
use Rattle.common.specs.Numbers.{Bytes}
use Rattle.common.proofs.Numbers.{zeros_zero, zeros_bytes, bytes_append, bytes_take}
use Rattle.ids.specs.Ids.{id_bits, raw_of, id_number}
use Rattle.ids.specs.Frames.{header_refusal, carried}
use Rattle.ids.specs.declared.Header.{Header}
use Rattle.ids.proofs.Frames.{carried_le}
use Rattle.messages.specs.Records.{good_message}
use Rattle.messages.specs.declared.Message.{Message}
use Rattle.numbers.specs.Numbers.{numbers}
use Rattle.message_text.specs.Reading.{parsed_header, data_of, read_message}
use Rattle.message_text.proofs.Ids.{raw_good}
use Rattle.message_text.proofs.Cases.{TakenFacts, read_is}
use Rattle.message_text.proofs.Data.{byte_at}

-- a message is a good one with eight bytes
abbrev pub Fit : Result Message Refusal → Type 0
Fit (Ok m) = (good_message m ≡ true) × (length m.bytes ≡ 8) × Bytes m.bytes
Fit (Err why) = Unit {0}

module _ (align format : ℕ) (values : List ℕ) (t : TakenFacts align format (length values) values) where
  abbrev h : Header
  h = parsed_header align format values

  header_good : header_refusal h ≡ 0
  unfolding header_refusal
  header_good =
      let g = raw_good align format (get_or values 0 0) t.good in
      simp (
        g.0,
        lt-ltb (id_number (raw_of align format (get_or values 0 0))) (2 ^ id_bits format) g.1,
        le-leb (get_or values 1 0) 1 t.rtr,
        le-leb (get_or values 2 0) 15 t.dlc,
      )

  front : length (take (carried h) (drop 3 values)) ≡ carried h
  front = length-take-le (carried h) (drop 3 values) (omega (arith, t.enough, length-drop 3 values))

  taken_fit : (good_message (record { header = h; bytes = data_of h values }) ≡ true) × (length (data_of h values) ≡ 8)
      × Bytes (data_of h values)
  unfolding good_message
  taken_fit = (
    rw (header_good, drop_at (take (carried h) (drop 3 values)) (replicate (8 - carried h) 0) (carried h) front)
        (zeros_zero (8 - carried h)),
    rw (length-append, front, length-replicate) (omega (arith, carried_le h)),
    bytes_append (take (carried h) (drop 3 values)) (replicate (8 - carried h) 0)
        (bytes_take (carried h) (drop 3 values) (λ i. byte_at (drop 3 values) i t.bytes))
        (zeros_bytes (8 - carried h)),
  )

-- whatever a text says fits
pub read_fit : (align format : ℕ) (text : List ℕ) → Fit (read_message align format text).said
read_fit align format text =
    read_is (λ s. Fit s.said) align format text tt (λ why l. tt) (taken_fit align format (numbers text))

-- a taken message is good, and its data are eight bytes
pub taken_good : (align format : ℕ) (text : List ℕ) {m : Message} → (read_message align format text).said ≡ Ok m
    → (good_message m ≡ true) × (length m.bytes ≡ 8) × Bytes m.bytes
taken_good align format text e = rw e at (read_fit align format text)

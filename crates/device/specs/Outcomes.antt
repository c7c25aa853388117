-- What a call answers and leaves.
use Rattle.std.specs.Prelude.{ℕ, List, []}
use Rattle.device.specs.declared.Device.{Device}

-- what a call is lent: the event table, the message table, the output buffer
pub record Lent : Type 0 where
  pub queue : List ℕ
  pub send : List ℕ
  pub out : List ℕ

abbrev pub lends : List ℕ → List ℕ → List ℕ → Lent
lends queue send out = record { queue = queue; send = send; out = out }

-- what a call answers: the paper's number, a value (a line's length, the bytes used, how many were purged or let
-- through), the bytes read or taken;
-- and what it leaves: the device and every byte that it was lent
pub record Outcome : Type 0 where
  pub number : ℕ
  pub value : ℕ
  pub bytes : List ℕ
  pub device : Device
  pub lent : Lent

abbrev pub ends : ℕ → ℕ → List ℕ → Device → Lent → Outcome
ends n v b d l = record { number = n; value = v; bytes = b; device = d; lent = l }

-- a refusal returns its number and zero values; state and bytes stay
abbrev pub refuses : ℕ → Device → Lent → Outcome
refuses n d l = ends n 0 [] d l

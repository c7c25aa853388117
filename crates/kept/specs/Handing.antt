-- What a call leaves in lent places beside its number, and the message given to it.
use Rattle.std.specs.Prelude.{ℕ, ◌≡◌, List}
use Rattle.common.specs.Choice.{pick}
use Rattle.common.specs.Refusals.{is_refusal}
use Rattle.messages.specs.declared.Message.{Message}
use Rattle.device.specs.declared.Device.{Device}
use Rattle.kept.specs.State.{state_bytes}

-- what stands in a lent place after a call that answers n: beside a refusal what stood there, else the new
abbrev pub left : {A : Type 0} → ℕ → A → A → A
left n old new = pick (is_refusal n) old new

-- what keeping a device beside a number promises of the state s
pub record Left (number : ℕ) (d : Device) (s : List ℕ) (n : ℕ) (state : List ℕ) : Type 0 where
  pub number_is : n ≡ number
  pub state_is : state ≡ left number s (state_bytes d)

-- a message as a call is given it
abbrev pub message : ℕ → ℕ → ℕ → ℕ → List ℕ → Message
message id format rtr dlc bytes =
    record { header = record { id = id; format = format; rtr = rtr; dlc = dlc }; bytes = bytes }

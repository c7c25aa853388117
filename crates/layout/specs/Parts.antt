-- The parts of a kept device, each a list of numbers: what all channels share, the receive channel, the send channel.
use Rattle.std.specs.Prelude.{ℕ, ◌+◌, ◌/◌, ◌%◌, ◌^◌, Bool, List, [], ◌∷◌, ◌++◌, eqb}
use Rattle.std.proofs.Math.Seq.{slice}
use Rattle.common.specs.Choice.{pick}
use Rattle.common.specs.Numbers.{bytes_of, number_of}
use Rattle.common.specs.declared.Ring.{Ring}
use Rattle.messages.specs.declared.Message.{Message}
use Rattle.sites.specs.declared.Site.{Site}
use Rattle.settings.specs.Given.{joined}
use Rattle.settings.specs.declared.Shared.{Shared}
use Rattle.queue.specs.declared.Receive.{Receive}
use Rattle.buffer.specs.declared.Send.{Send}

-- ---- from a part to its bytes

-- the numbers of each part, in their order; the site's second is two, its low 32 bits and its high ones; whether the
-- register holds a message is 1 or 0
abbrev pub shared_numbers : Shared → List ℕ
shared_numbers h =
    h.mode ∷ h.format ∷ h.align ∷ h.site.offset ∷ h.site.second % 2 ^ 32 ∷ h.site.second / 2 ^ 32 ∷ []

abbrev pub receive_numbers : Receive → List ℕ
receive_numbers r =
    r.filter.active ∷ r.filter.code ∷ r.filter.mask ∷ r.events
    ∷ r.ring.capacity ∷ r.ring.first ∷ r.ring.count ∷ r.pending ∷ []

abbrev pub register_numbers : Bool → Message → List ℕ
register_numbers held m = pick held 1 0 ∷ m.header.id ∷ m.header.format ∷ m.header.rtr ∷ m.header.dlc ∷ []

abbrev pub send_numbers : Send → List ℕ
send_numbers s = s.tx ∷ s.ring.capacity ∷ s.ring.first ∷ s.ring.count ∷ register_numbers s.held s.message

-- numbers one behind the other, each as four bytes, lowest first
abbrev pub word_bytes : List ℕ → List ℕ
word_bytes [] = []
word_bytes (n ∷ ns) = bytes_of 4 n ++ word_bytes ns

-- the register's bytes: its numbers, then the message's eight data bytes
abbrev pub register_bytes : Bool → Message → List ℕ
register_bytes held m = word_bytes (register_numbers held m) ++ m.bytes

-- ---- the part that bytes stand for

-- the number in the four bytes from `at` on
unfoldable pub word : List ℕ → ℕ → ℕ
word s at = number_of (slice at (at + 4) s)

-- each part, from `at` on
abbrev pub site_from : List ℕ → ℕ → Site
site_from s at = record { offset = word s at; second = joined (word s (at + 4)) (word s (at + 8)) }

abbrev pub shared_in : List ℕ → ℕ → Shared
shared_in s at =
    record { mode = word s at; format = word s (at + 4); align = word s (at + 8); site = site_from s (at + 12) }

abbrev pub ring_in : List ℕ → ℕ → Ring
ring_in s at = record { capacity = word s at; first = word s (at + 4); count = word s (at + 8) }

abbrev pub receive_in : List ℕ → ℕ → Receive
receive_in s at = record {
  filter = record { active = word s at; code = word s (at + 4); mask = word s (at + 8) };
  events = word s (at + 12);
  ring = record { capacity = word s (at + 16); first = word s (at + 20); count = word s (at + 24) };
  pending = word s (at + 28);
}

abbrev pub register_in : List ℕ → ℕ → Message
register_in s at = record {
  header = record { id = word s at; format = word s (at + 4); rtr = word s (at + 8); dlc = word s (at + 12) };
  bytes = slice (at + 16) (at + 24) s;
}

abbrev pub send_in : List ℕ → ℕ → Send
send_in s at = record {
  tx = word s at;
  ring = record { capacity = word s (at + 4); first = word s (at + 8); count = word s (at + 12) };
  held = eqb (word s (at + 16)) 1;
  message = register_in s (at + 20);
}

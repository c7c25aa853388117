-- The promises at the level of bytes: those that the reads handed out and those that stand in the tables.
use Rattle.std.specs.Prelude.{ℕ, ◌+◌, ◌≡◌, List, [], ◌∷◌, ◌++◌, length, take, drop}
use Rattle.std.proofs.Math.Seq.{slice}
use Rattle.common.specs.Numbers.{number_of}
use Rattle.sites.specs.Sites.{site_in}
use Rattle.sites.specs.declared.Site.{Site}
use Rattle.messages.specs.Records.{message_size}
use Rattle.device.specs.Outcomes.{Lent, Outcome}
use Rattle.device.specs.declared.Device.{Device}
use Rattle.model.specs.Inbox.{Kept}
use Rattle.model.specs.Outbox.{send_text}
use Rattle.model.specs.Box.{Call, on_send}
use Rattle.promises.specs.Calls.{outcome}
use Rattle.promises.specs.Runs.{held}

-- the lost count in an event's bytes, 12 to 15
abbrev pub lost_in : List ℕ → ℕ
lost_in b = number_of (slice 12 16 b)

-- the sum of the lost counts in the bytes of events
abbrev pub lost_bytes : List (List ℕ) → ℕ
lost_bytes [] = 0
lost_bytes (b ∷ bs) = lost_in b + lost_bytes bs

-- the site in an event's bytes, 32 to 39
abbrev pub site_of : List ℕ → Site
site_of b = site_in (drop 32 b)

-- an event's place and its bytes apart from its lost count
pub record Entry : Type 0 where
  pub place : ℕ
  pub bytes : List ℕ

-- the places of events, as the model has them, beside their bytes
abbrev pub entries : List Kept → List (List ℕ) → List Entry
entries [] bs = []
entries (k ∷ ks) [] = []
entries (k ∷ ks) (b ∷ bs) = record { place = k.place; bytes = take 12 b ++ drop 16 b } ∷ entries ks bs

-- the line that a print call has written
abbrev pub line_of : Outcome → List ℕ
line_of o = take o.value o.lent.out

-- the message b, printed by the call x on a device d, its line sent as text to the device e: printed, taken,
-- all text used, and stored behind the newest as the same bytes
pub record ReadsBack (x : Call) (b : List ℕ) (d e : Device) (l m : Lent) : Type 0 where
  pub printed : (outcome x d l).number ≡ 0
  pub taken : (outcome (on_send (send_text (line_of (outcome x d l)))) e m).number ≡ 0
  pub used : (outcome (on_send (send_text (line_of (outcome x d l)))) e m).value ≡ length (line_of (outcome x d l))
  pub stored :
      let o : Outcome = outcome (on_send (send_text (line_of (outcome x d l)))) e m in
      held message_size o.device.send.ring o.lent.send ≡ held message_size e.send.ring m.send ++ b ∷ []

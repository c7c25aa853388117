-- The paper's queue cases, and take, done and abort, by computation.
use Prim.Native.Nat.{ℕ}
use mathlib.Core.Path.{◌≡◌, refl}
use mathlib.Core.List.{List, [], ◌∷◌, map}
use lib.ListN.{replicate}
use Rattle.ids.specs.Ids.{raw_of, id_low, id_bits, is_format}
use Rattle.filters.specs.Filters.{mode_takes}
use Rattle.ids.specs.Frames.{carried}
use Rattle.filters.specs.EventMask.{mask_lets, mask_bit}
use Rattle.events.specs.Records.{holds_frame, kind_of, stamped}
use Rattle.messages.specs.Records.{no_message, stored}
use Rattle.events.specs.Raised.{event_of, filtered}
use Rattle.messages.specs.declared.Message.{Message}
use Rattle.sites.specs.Sites.{no_site, good_offset, good_site}
use Rattle.settings.specs.Binary.{binary_refusal}
use Rattle.settings.specs.Ranges.{format_of}
use Rattle.settings.specs.TxMode.{raises_at_take, raises_at_done}
use Rattle.settings.specs.declared.Settings.{Settings}
use Rattle.model.specs.Said.{Said}
use Rattle.model.specs.Inbox.{Kept, keeps, read_record, receives, arrival}
use Rattle.model.specs.Outbox.{took, purged, SendCall, send, take, done, abort, posts}
use Rattle.model.specs.Box.{Box, fresh, raise, set_site, does, on_device, on_receive, on_send, step, Asked, run}
use Rattle.model.specs.Box.{answers}
use Rattle.model.specs.Promised.{recorded}

-- a box with so many event places and a TxMode: no filter, every code let through, room for three messages
abbrev opened : ℕ → ℕ → Settings
opened places tx = record {
  mode = 0;
  format = 0;
  align = 0;
  active = 0;
  code = 0;
  mask = 0;
  events = 4095;
  queue = places;
  tx = tx;
  buffer = 3;
  site = no_site;
}

-- ---- the queue: events of code 9

-- an event of code 9 at a tick
abbrev event : ℕ → Asked
event tick = record { call = on_device (raise 9 tick no_message); room = 0 }

-- a read as its bytes
abbrev reads : Asked
reads = record { call = on_receive read_record; room = 0 }

-- raise A, B, C, read, raise D
abbrev lossy : List Asked
lossy = event 1 ∷ event 2 ∷ event 3 ∷ reads ∷ event 4 ∷ []

-- one place: A with no event lost before it, D with two
pub loses_two : recorded (run 0 lossy (fresh (opened 1 1))).inbox
    ≡ keeps 0 (stamped (event_of no_site 9 1 no_message) 0) ∷ keeps 4 (stamped (event_of no_site 9 4 no_message) 2) ∷ []
unfolding run step does arrival filtered receives event_of holds_frame mask_lets mask_bit
loses_two = refl

-- raise 1, 2, read, raise 3, 4, read, raise 5
abbrev drained : List Asked
drained = event 1 ∷ event 2 ∷ reads ∷ event 3 ∷ event 4 ∷ reads ∷ event 5 ∷ []

-- the ticks recorded with so many places
abbrev ticks : ℕ → List Asked → List ℕ
ticks places xs = map (λ (k : Kept). k.event.low) (recorded (run 0 xs (fresh (opened places 1))).inbox)

-- one place: 1, 3, 5
pub one_place : ticks 1 drained ≡ 1 ∷ 3 ∷ 5 ∷ []
unfolding run step does arrival filtered receives event_of holds_frame mask_lets mask_bit
one_place = refl

-- two places: 1, 2, 3, 5
pub two_places : ticks 2 drained ≡ 1 ∷ 2 ∷ 3 ∷ 5 ∷ []
unfolding run step does arrival filtered receives event_of holds_frame mask_lets mask_bit
two_places = refl

-- a site with this offset, and second 7
abbrev placed : ℕ → Asked
placed offset = record { call = on_device (set_site (record { offset = offset; second = 7 })); room = 0 }

-- raise 1, an hour east, raise 2, 841 minutes (refused), raise 3, 90 minutes west, read
abbrev moving : List Asked
moving = event 1 ∷ placed 60 ∷ event 2 ∷ placed 841 ∷ event 3 ∷ placed 4294967206 ∷ reads ∷ []

-- each event has the site that was set last before it, the read one too
pub each_its_site : map (λ (k : Kept). k.event.site.offset) (recorded (run 0 moving (fresh (opened 9 1))).inbox)
    ≡ 0 ∷ 60 ∷ 60 ∷ []
unfolding run step does arrival filtered receives event_of holds_frame mask_lets mask_bit good_site good_offset
each_its_site = refl

-- ---- the register: three messages are sent; take, done, take, abort

-- a standard message with this identifier and no data
abbrev message : ℕ → Message
message id = record { header = record { id = id; format = 1; rtr = 0; dlc = 0 }; bytes = replicate 8 0 }

-- a call on the send channel
abbrev mails : SendCall → Asked
mails x = record { call = on_send x; room = 0 }

-- send 1, 2, 3, take at tick 10, done at 11, take at 12, abort at 13
abbrev mailing : List Asked
mailing =
    mails (send (message 1)) ∷ mails (send (message 2)) ∷ mails (send (message 3)) ∷ mails (take 10) ∷ mails (done 11)
    ∷ mails (take 12) ∷ mails (abort 13) ∷ []

-- under a TxMode these events are recorded; two messages are taken, the third is purged, and the abort answers one
abbrev Goes : ℕ → List Kept → Type 0
Goes tx events =
    let b : Box = fresh (opened 9 tx) in
    (recorded (run 0 mailing b).inbox ≡ events)
    × ((run 0 mailing b).outbox.gone ≡ took (message 1) ∷ took (message 2) ∷ purged (message 3) ∷ [])
    × (map (λ (a : Said). a.value) (answers 0 mailing b) ≡ 0 ∷ 0 ∷ 0 ∷ 0 ∷ 0 ∷ 0 ∷ 1 ∷ [])

-- TxMode 3: each take raises code 2, the abort code 3
pub at_take : Goes 3
    (keeps 3 (event_of no_site 2 10 (message 1)) ∷ keeps 5 (event_of no_site 2 12 (message 2))
    ∷ keeps 6 (event_of no_site 3 13 (message 2)) ∷ [])
unfolding run answers step posts arrival filtered event_of holds_frame kind_of mask_lets mask_bit binary_refusal
    format_of is_format mode_takes raw_of id_low id_bits stored carried raises_at_take raises_at_done
at_take = (refl, refl, refl)

-- TxMode 7: the done raises code 2, the abort code 3
pub at_done : Goes 7 (keeps 4 (event_of no_site 2 11 (message 1)) ∷ keeps 6 (event_of no_site 3 13 (message 2)) ∷ [])
unfolding run answers step posts arrival filtered event_of holds_frame kind_of mask_lets mask_bit binary_refusal
    format_of is_format mode_takes raw_of id_low id_bits stored carried raises_at_take raises_at_done
at_done = (refl, refl, refl)

-- What is promised of a box after any calls.
use Rattle.std.specs.Prelude.{ℕ, zero, suc, ◌+◌, ◌≤◌, min, ◌≡◌, ◌||◌, List, [], ◌∷◌, ◌++◌, map, length, eqb, Option, Some, None}
use Rattle.common.specs.All.{All}
use Rattle.common.specs.Choice.{pick}
use Rattle.common.specs.Sublist.{Sublist}
use Rattle.messages.specs.Records.{message_bytes}
use Rattle.events.specs.Records.{stamped}
use Rattle.events.specs.declared.Event.{Event}
use Rattle.messages.specs.declared.Message.{Message}
use Rattle.sites.specs.Sites.{good_site}
use Rattle.sites.specs.declared.Site.{Site}
use Rattle.settings.specs.declared.Settings.{Settings}
use Rattle.model.specs.Inbox.{Kept, keeps, Inbox}
use Rattle.model.specs.Outbox.{Gone, took, purged, Outbox, Posted}
use Rattle.model.specs.Box.{DeviceCall, raise, set_mode, set_format, set_site, Call, on_device, on_receive, on_send}
use Rattle.model.specs.Box.{on_align, Asked}

-- recorded: read, or still queued
abbrev pub recorded : Inbox → List Kept
recorded b = b.read ++ b.queue

-- ---- the sum

-- the sum of lost counts
abbrev pub lost_sum : List Kept → ℕ
lost_sum [] = 0
lost_sum (k ∷ ks) = k.event.lost + lost_sum ks

-- every event past filter and mask is read, queued or in a lost count
abbrev pub AddsUp : Inbox → Type 0
AddsUp b =
    length b.read + length b.queue + (lost_sum b.read + lost_sum b.queue + b.pending) ≡ length b.arrived

-- ---- every gap has a certain count

-- what arrived, one by one, is recorded with the number lost since the last that was, or is lost;
-- n were lost since the last
pub data Gaps : (arrived recorded : List Kept) (n : ℕ) → Type 0 where
  nothing : Gaps [] [] 0
  kept : {xs rs : List Kept} {n : ℕ} (i : ℕ) (e : Event) → Gaps xs rs n
      → Gaps (xs ++ keeps i e ∷ []) (rs ++ keeps i (stamped e (min n 4294967295)) ∷ []) 0
  lost : {xs rs : List Kept} {n : ℕ} (i : ℕ) (e : Event) → Gaps xs rs n → Gaps (xs ++ keeps i e ∷ []) rs (n + 1)

-- so it is in a channel, whose pending count is the number lost since the last, stopping at 4,294,967,295
pub record GapsCounted (b : Inbox) : Type 0 where
  pub since : ℕ
  pub gaps : Gaps b.arrived (recorded b) since
  pub pending : b.pending ≡ min since 4294967295

-- what the number of a raise tells: 100, one more is recorded; 103, one more has arrived and is lost; else neither
pub record RaiseTold (n : ℕ) (b c : Inbox) : Type 0 where
  pub recorded_is : length (recorded c) ≡ length (recorded b) + pick (eqb n 100) 1 0
  pub arrived_is : length c.arrived ≡ length b.arrived + pick (eqb n 100 || eqb n 103) 1 0

-- ---- the site of every event

-- the site after a call on the device: a set_site in range sets it
abbrev pub sets_site : DeviceCall → Site → Site
sets_site (raise code tick m) site = site
sets_site (set_mode mode tick) site = site
sets_site (set_format format tick) site = site
sets_site (set_site new) site = pick (good_site new) new site

-- and after any call
abbrev pub site_after : Call → Site → Site
site_after (on_device x) site = sets_site x site
site_after (on_receive x) site = site
site_after (on_send x) site = site
site_after (on_align x) site = site

-- the site that was set last before call i, `site` being the one that opening was given
abbrev pub site_before : ℕ → List Asked → Site → Site
site_before zero xs site = site
site_before (suc i) [] site = site
site_before (suc i) (x ∷ xs) site = site_before i xs (site_after x.call site)

-- an event carries the site that was set last before the call that raised it
abbrev pub Carries : List Asked → Site → Kept → Type 0
Carries xs site k = k.event.site ≡ site_before k.place xs site

-- so does every event that has arrived, and every event recorded
abbrev pub SitesCarried : List Asked → Site → Inbox → Type 0
SitesCarried xs site b = All (Carries xs site) b.arrived × All (Carries xs site) (recorded b)

-- ---- the larger queue

-- an event apart from its lost count
abbrev pub apart : Kept → Kept
apart k = keeps k.place (stamped k.event 0)

-- what the one has recorded, apart from lost counts, the other has recorded too, in the same order
abbrev pub Within : Inbox → Inbox → Type 0
Within a b = Sublist (map apart (recorded a)) (map apart (recorded b))

-- the same settings but for the number of event places
abbrev pub with_places : Settings → ℕ → Settings
with_places s c = record {
  mode = s.mode;
  format = s.format;
  align = s.align;
  active = s.active;
  code = s.code;
  mask = s.mask;
  events = s.events;
  queue = c;
  tx = s.tx;
  buffer = s.buffer;
  site = s.site;
}

-- ---- the order of what went by

-- what is recorded, apart from lost counts, is in what arrived, in the same order
abbrev pub RecordedInOrder : Inbox → Type 0
RecordedInOrder b = Sublist (map apart (recorded b)) (map apart b.arrived)

-- at most one event more, at the end, whose place is i
pub data AtMostOne (before after : List Kept) (i : ℕ) : Type 0 where
  same : after ≡ before → AtMostOne before after i
  one : (e : Event) → after ≡ before ++ keeps i e ∷ [] → AtMostOne before after i

-- places that strictly increase, each at least n and below i
abbrev pub Rising : ℕ → ℕ → List Kept → Type 0
Rising n i [] = n ≤ i
Rising n i (k ∷ ks) = (n ≤ k.place) × Rising (k.place + 1) i ks

-- ---- messages

-- the message that has left
abbrev pub message_of : Gone → Message
message_of (took m) = m
message_of (purged m) = m

-- the last message taken, where `last` was taken before
abbrev pub last_taken : Option Message → List Gone → Option Message
last_taken last [] = last
last_taken last (took m ∷ gs) = last_taken (Some m) gs
last_taken last (purged m ∷ gs) = last_taken last gs

-- every message sent was taken or purged, in the order sent, or waits; the register is empty or holds the last
-- message taken
pub record Mailed (o : Outbox) : Type 0 where
  pub in_order : o.sent ≡ map message_of o.gone ++ o.buffer
  pub last : (m : Message) → o.register ≡ Some m → last_taken None o.gone ≡ Some m

-- a take that answers 0 has moved the oldest message to the register, which was empty, and answers its bytes
pub record TakeMoves (o : Outbox) (p : Posted) : Type 0 where
  pub message : Message
  pub was_empty : o.register ≡ None
  pub was_oldest : o.buffer ≡ message ∷ p.outbox.buffer
  pub holds : p.outbox.register ≡ Some message
  pub bytes : p.said.bytes ≡ message_bytes message

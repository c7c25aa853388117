-- Changes of a setting (01, "Settings"): mode and format raise code 5, site, filter and event mask raise nothing.
use Rattle.std.specs.Prelude.{ℕ, []}
use Rattle.common.specs.Choice.{pick}
use Rattle.messages.specs.Records.{no_message}
use Rattle.events.specs.Raised.{event_of}
use Rattle.sites.specs.Sites.{good_site}
use Rattle.sites.specs.declared.Site.{Site}
use Rattle.settings.specs.Ranges.{good_shared, with_mode, with_format, with_site}
use Rattle.settings.specs.declared.Shared.{Shared}
use Rattle.inbox.specs.Calls as Inbox
use Rattle.device.specs.State.{good, with_shared}
use Rattle.device.specs.Outcomes.{Lent, Outcome, ends, refuses}
use Rattle.recorder.specs.Outcomes.{queue_ready, noted}
use Rattle.device.specs.declared.Device.{Device}
use Rattle.recorder.specs.Receiving.{on_receiving}

-- a change of mode or format raises code 5 after the change, even if the value is the same: 2, 1
unfoldable pub changed : Shared → ℕ → Device → Lent → Outcome
changed s tick d l =
    pick (queue_ready d l)
    (pick (good_shared s) (noted (event_of s.site 5 tick no_message) (ends 0 0 [] (with_shared d s) l)) (refuses 1 d l))
    (refuses 2 d l)

-- set_mode: the mode alone changes
abbrev pub mode_set : ℕ → ℕ → Device → Lent → Outcome
mode_set mode tick d l = changed (with_mode d.shared mode) tick d l

-- set_format: the format alone changes
abbrev pub format_set : ℕ → ℕ → Device → Lent → Outcome
format_set format tick d l = changed (with_format d.shared format) tick d l

-- set_site: later events carry the new site; nothing is raised, and no queued event is touched: 2, 1
unfoldable pub site_set : Site → Device → Lent → Outcome
site_set site d l =
    pick (good d) (pick (good_site site) (ends 0 0 [] (with_shared d (with_site d.shared site)) l) (refuses 1 d l))
    (refuses 2 d l)

-- a change of code and mask raises nothing and touches no queued event: 2
unfoldable pub filter_set : ℕ → ℕ → Device → Lent → Outcome
filter_set code mask d l = on_receiving (Inbox.filter_set d.shared d.receive code mask) d l

-- a change of the event mask, whose bits 12 to 31 must be 0, raises nothing and touches no queued event: 2, 1
unfoldable pub event_mask_set : ℕ → Device → Lent → Outcome
event_mask_set events d l = on_receiving (Inbox.event_mask_set d.shared d.receive events) d l

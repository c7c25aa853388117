-- The whole recorder as its users think of it: shared settings, a receive channel, a send channel;
-- what each call answers and leaves.
-- This is what the promises are about. That the code over its tables answers exactly this, call after call,
-- is a theorem.
use Rattle.std.specs.Prelude.{ℕ, ◌+◌, List, [], ◌∷◌, eqb, Option, Some, None}
use Rattle.common.specs.Choice.{pick}
use Rattle.messages.specs.Records.{message_in, no_message}
use Rattle.events.specs.Records.{event_in}
use Rattle.events.specs.Raised.{frame_refusal, event_of}
use Rattle.messages.specs.declared.Message.{Message}
use Rattle.events.specs.declared.Event.{Event}
use Rattle.message_text.specs.Printing.{message_line, message_refusal, message_record_refusal}
use Rattle.event_text.specs.Lines.{event_line, event_record_refusal}
use Rattle.sites.specs.Sites.{good_site}
use Rattle.sites.specs.declared.Site.{Site}
use Rattle.settings.specs.Ranges.{good_shared, with_mode, with_format, with_site}
use Rattle.settings.specs.declared.Shared.{Shared}
use Rattle.settings.specs.declared.Settings.{Settings}
use Rattle.model.specs.Said.{Said, says, prints}
use Rattle.model.specs.Inbox.{Inbox, Met, arrival, ReceiveCall, Received, receives}
use Rattle.model.specs.Outbox.{Outbox, SendCall, Posted, posts}

pub record Box : Type 0 where
  pub shared : Shared
  pub inbox : Inbox
  pub outbox : Outbox

abbrev pub box : Shared → Inbox → Outbox → Box
box s i o = record { shared = s; inbox = i; outbox = o }

-- a fresh box
abbrev pub fresh : Settings → Box
fresh s = record {
  shared = record { mode = s.mode; format = s.format; align = s.align; site = s.site };
  inbox = record {
    filter = record { active = s.active; code = s.code; mask = s.mask };
    mask = s.events;
    places = s.queue;
    queue = [];
    pending = 0;
    arrived = [];
    read = [];
  };
  outbox = record { tx = s.tx; places = s.buffer; buffer = []; register = None; sent = []; gone = [] };
}

-- what a call answers, and the box after it
pub record Step : Type 0 where
  pub said : Said
  pub after : Box

abbrev pub steps : Said → Box → Step
steps a b = record { said = a; after = b }

-- ---- the calls on the device

pub data DeviceCall : Type 0 where
  raise : (code tick : ℕ) → Message → DeviceCall
  set_mode : (mode tick : ℕ) → DeviceCall
  set_format : (format tick : ℕ) → DeviceCall
  set_site : (site : Site) → DeviceCall

-- the event that call i raises beside its answer, if any, arrives in the queue
abbrev pub noted : Shared → ℕ → Option Event → Inbox → Inbox
noted s i None b = b
noted s i (Some e) b = (arrival s i e b).inbox

-- a change of mode or format raises code 5 after the change: 1 for a pair out of range
abbrev pub changes : Shared → ℕ → ℕ → Box → Step
changes s tick i b =
    pick (good_shared s)
    (steps (says 0) (box s (noted s i (Some (event_of s.site 5 tick no_message)) b.inbox) b.outbox))
    (steps (says 1) b)

-- call i, on the device
unfoldable pub does : ℕ → DeviceCall → Box → Step
-- 13, 8, 9, 10, then what the event meets
does i (raise code tick m) b =
    let r : Met = arrival b.shared i (event_of b.shared.site code tick m) b.inbox in
    pick (eqb (frame_refusal code m) 0)
    (steps (says r.number) (box b.shared r.inbox b.outbox))
    (steps (says (frame_refusal code m)) b)
does i (set_mode mode tick) b = changes (with_mode b.shared mode) tick i b
does i (set_format format tick) b = changes (with_format b.shared format) tick i b
-- 1; later events carry the new site, and nothing is raised
does i (set_site site) b =
    pick (good_site site) (steps (says 0) (box (with_site b.shared site) b.inbox b.outbox)) (steps (says 1) b)

-- ---- the calls that print under the Align

pub data PrintCall : Type 0 where
  print_message_record : (bytes : List ℕ) → PrintCall
  print_event_record : (bytes : List ℕ) → PrintCall
  print_message : Message → PrintCall

-- a line, or its refusal
abbrev pub line_said : ℕ → List ℕ → Said
line_said n line = pick (eqb n 0) (prints line) (says n)

-- into an output buffer of so much room
unfoldable pub shows : PrintCall → (room : ℕ) → (align : ℕ) → Said
shows (print_message_record s) room align = line_said (message_record_refusal align s room) (message_line align (message_in s))
shows (print_event_record s) room align = line_said (event_record_refusal align s room) (event_line align (event_in s))
shows (print_message m) room align = line_said (message_refusal align m room) (message_line align m)

-- ---- every call

-- the calls by what they are made on
pub data Call : Type 0 where
  on_device : DeviceCall → Call
  on_receive : ReceiveCall → Call
  on_send : SendCall → Call
  on_align : PrintCall → Call

-- call i of a sequence, with an output buffer of so much room
unfoldable pub step : (i room : ℕ) → Call → Box → Step
step i room (on_device x) b = does i x b
step i room (on_receive x) b =
    let r : Received = receives x room b.shared b.inbox in
    steps r.said (box b.shared r.inbox b.outbox)
step i room (on_send x) b =
    let p : Posted = posts x b.shared b.outbox in
    steps p.said (box b.shared (noted b.shared i p.raises b.inbox) p.outbox)
step i room (on_align x) b = steps (shows x room b.shared.align) b

-- a call, and the room of the output buffer that it is lent
pub record Asked : Type 0 where
  pub call : Call
  pub room : ℕ

-- calls from index i on, the first one first: the box that they leave
unfoldable pub run : ℕ → List Asked → Box → Box
run i [] b = b
run i (x ∷ xs) b = run (i + 1) xs (step i x.room x.call b).after

-- and what each of them answers
unfoldable pub answers : ℕ → List Asked → Box → List Said
answers i [] b = []
answers i (x ∷ xs) b = (step i x.room x.call b).said ∷ answers (i + 1) xs (step i x.room x.call b).after

-- A device's settings and state (01, "Settings", and refusals 1 and 2).
use Rattle.std.specs.Prelude.{Bool, false, ◌&&◌}
use Rattle.common.specs.Rings.{empty_ring}
use Rattle.messages.specs.Records.{no_message}
use Rattle.sites.specs.Sites.{no_site}
use Rattle.settings.specs.Ranges.{good_shared}
use Rattle.settings.specs.declared.Shared.{Shared}
use Rattle.settings.specs.declared.Settings.{Settings}
use Rattle.queue.specs.Channel.{good_receive}
use Rattle.queue.specs.declared.Receive.{Receive}
use Rattle.buffer.specs.Channel.{good_send}
use Rattle.buffer.specs.declared.Send.{Send}
use Rattle.device.specs.declared.Device.{Device}

-- settings and state numbers that a device can have
unfoldable pub good : Device → Bool
good d = good_shared d.shared && good_receive d.receive && good_send d.send

-- the device that opening gives: both rings empty, first and pending 0, register empty
abbrev pub fresh : Settings → Device
fresh s = record {
  shared = record { mode = s.mode; format = s.format; align = s.align; site = s.site };
  receive = record {
    filter = record { active = s.active; code = s.code; mask = s.mask };
    events = s.events;
    ring = empty_ring s.queue;
    pending = 0;
  };
  send = record { tx = s.tx; ring = empty_ring s.buffer; held = false; message = no_message };
}

-- the zeros that stand beside a refused opening
abbrev pub no_device : Device
no_device = fresh (record {
  mode = 0;
  format = 0;
  align = 0;
  active = 0;
  code = 0;
  mask = 0;
  events = 0;
  queue = 0;
  tx = 0;
  buffer = 0;
  site = no_site;
})

-- the device with other shared settings, another receive channel, another send channel
abbrev pub with_shared : Device → Shared → Device
with_shared d s = record { shared = s; receive = d.receive; send = d.send }

abbrev pub with_receive : Device → Receive → Device
with_receive d r = record { shared = d.shared; receive = r; send = d.send }

abbrev pub with_send : Device → Send → Device
with_send d s = record { shared = d.shared; receive = d.receive; send = s }

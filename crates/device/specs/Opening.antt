-- Opening (01, "Settings").
use Rattle.std.specs.Prelude.{◌&&◌, [], length}
use Rattle.common.specs.Choice.{pick}
use Rattle.settings.specs.declared.Settings.{Settings}
use Rattle.queue.specs.Channel.{queue_fits}
use Rattle.buffer.specs.Channel.{send_fits}
use Rattle.device.specs.State.{good, fresh, no_device}
use Rattle.device.specs.Outcomes.{Lent, Outcome, ends, refuses}

-- opening checks 1, then 2, and writes no table byte; settings are in range where the fresh device is good
unfoldable pub opened : Settings → Lent → Outcome
opened s l =
    pick (good (fresh s))
    (pick (queue_fits (fresh s).receive (length l.queue) && send_fits (fresh s).send (length l.send))
    (ends 0 0 [] (fresh s) l) (refuses 2 no_device l))
    (refuses 1 no_device l)

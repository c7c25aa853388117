-- What each way through open shows: the outcome that the definition gives there.
use mathlib.Core.Path.{◌≡◌}
use mathlib.Core.Bool.{true, false}
use mathlib.Core.List.{[]}
use lib.ListN.{length}
use Rattle.settings.specs.declared.Settings.{Settings}
use Rattle.queue.specs.Channel.{queue_fits}
use Rattle.buffer.specs.Channel.{send_fits}
use Rattle.device.specs.State.{good, fresh, no_device}
use Rattle.device.specs.Outcomes.{Lent, ends, refuses}
use Rattle.device.specs.Opening.{opened}

-- open: open_bad answers 1, open_short and open_short_send (the message table) answer 2, open_good opens
module _ (s : Settings) (l : Lent) where
  pub open_bad : good (fresh s) ≡ false → opened s l ≡ refuses 1 no_device l
  unfolding opened
  open_bad h = rw h

  pub open_short : good (fresh s) ≡ true → queue_fits (fresh s).receive (length l.queue) ≡ false
      → opened s l ≡ refuses 2 no_device l
  unfolding opened
  open_short g h = rw (g, h)

  pub open_short_send : good (fresh s) ≡ true → queue_fits (fresh s).receive (length l.queue) ≡ true
      → send_fits (fresh s).send (length l.send) ≡ false
      → opened s l ≡ refuses 2 no_device l
  unfolding opened
  open_short_send g f h = rw (g, f, h)

  pub open_good : good (fresh s) ≡ true → queue_fits (fresh s).receive (length l.queue) ≡ true
      → send_fits (fresh s).send (length l.send) ≡ true
      → opened s l ≡ ends 0 0 [] (fresh s) l
  unfolding opened
  open_good g f h = rw (g, f, h)

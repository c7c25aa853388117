-- What an opening that answered 0 has shown, and the parts of a possible device.
use mathlib.Core.Path.{◌≡◌, refl}
use mathlib.Core.Bool.{Bool, true, false, ◌&&◌}
use mathlib.Core.List.{[]}
use native.Mathlib.Omega.{arith}
use lib.ListN.{length}
use lib.Dec.{leb}
use Rattle.common.specs.Choice.{pick}
use Rattle.common.specs.Rings.{good_ring}
use Rattle.common.specs.Slots.{ring}
use Rattle.common.proofs.Bools.{and_left, and_right}
use Rattle.filters.specs.EventMask.{is_mask}
use Rattle.settings.specs.Ranges.{good_shared}
use Rattle.settings.specs.TxMode.{good_tx}
use Rattle.settings.specs.declared.Settings.{Settings}
use Rattle.queue.specs.Channel.{queue_limit, good_receive, queue_fits}
use Rattle.buffer.specs.Channel.{send_limit, good_send, send_fits}
use Rattle.device.specs.State.{good, fresh, no_device}
use Rattle.device.specs.Outcomes.{Lent, ends, refuses}
use Rattle.device.specs.Opening.{opened}
use Rattle.device.specs.declared.Device.{Device}
use Rattle.model.specs.Box as Model
use Rattle.promises.specs.Typed.{TypedSettings}
use Rattle.promises.specs.Runs.{started}
use Rattle.promises.specs.Stands.{RunStands}

-- the parts of a possible device
pub record Parts (d : Device) : Type 0 where
  pub shared : good_shared d.shared ≡ true
  pub settings : (leb d.receive.filter.active 1 && is_mask d.receive.events) ≡ true
  pub events : good_ring queue_limit d.receive.ring ≡ true
  pub send : good_send d.send ≡ true

pub parts : (d : Device) → good d ≡ true → Parts d
unfolding good good_receive
parts d h =
    let a = good_shared d.shared in
    let b = leb d.receive.filter.active 1 && is_mask d.receive.events in
    let c = good_ring queue_limit d.receive.ring in
    let ab = and_left (a && (b && c)) (good_send d.send) h in
    let bc = and_right a (b && c) ab in
    record {
      shared = and_left a (b && c) ab;
      settings = and_left b c bc;
      events = and_right b c bc;
      send = and_right (a && (b && c)) (good_send d.send) h;
    }

-- an opening that answered 0 gives the fresh device of its settings, which are in range,
-- over tables that are long enough
pub record Open (s : Settings) (l : Lent) : Type 0 where
  pub is_open : opened s l ≡ ends 0 0 [] (fresh s) l
  pub possible : good (fresh s) ≡ true
  pub queue_long : queue_fits (fresh s).receive (length l.queue) ≡ true
  pub send_long : send_fits (fresh s).send (length l.send) ≡ true

pub is_opened : (s : Settings) (l : Lent) → (opened s l).number ≡ 0 → Open s l
unfolding opened
is_opened s l h =
    by (good (fresh s)) (queue_fits (fresh s).receive (length l.queue))
    (send_fits (fresh s).send (length l.send)) refl refl refl h
  where
    by : (a b c : Bool) → good (fresh s) ≡ a → queue_fits (fresh s).receive (length l.queue) ≡ b
        → send_fits (fresh s).send (length l.send) ≡ c
        → (pick a (pick (b && c) (ends 0 0 [] (fresh s) l) (refuses 2 no_device l)) (refuses 1 no_device l)).number ≡ 0
        → Open s l
    by true true true x y z e = record { is_open = rw (x, y, z); possible = x; queue_long = y; send_long = z }
    by true true false x y z e = absurd (omega (arith, e))
    by true false c x y z e = absurd (omega (arith, e))
    by false b c x y z e = absurd (omega (arith, e))

-- THEOREM. An opening that answers 0 gives a device that stands for the fresh box of its settings
pub opens : (s : Settings) (l : Lent) → TypedSettings s → (opened s l).number ≡ 0
    → RunStands (started s l) (Model.fresh s)
unfolding ring good_send
opens s l ty e =
    let a = is_opened s l e in
    let d = fresh s in
    let p = parts d a.possible in
    let tx = good_tx d.send.tx in
    let ring = good_ring send_limit d.send.ring in
    let send = and_left (tx && ring) true p.send in
    rw a.is_open
    (record {
      stands = record {
        possible = p.shared;
        shared = refl;
        inbox = record {
          settings = p.settings;
          filter = refl;
          code = ty.code;
          bits = ty.mask;
          mask = refl;
          places = refl;
          pending = refl;
          word = omega arith;
          events = record { numbers = p.events; long = a.queue_long; slots = refl };
          sound = tt;
        };
        outbox = record {
          possible = and_left tx ring send;
          tx = refl;
          places = refl;
          messages = record { numbers = and_right tx ring send; long = a.send_long; slots = refl };
          sound = tt;
          waits = tt;
          register = (refl, refl);
        };
      };
      read = refl;
      sound = tt;
    })

-- What a possible state gives, and what a raise answers on one that is not.
use mathlib.Core.Path.{◌≡◌, refl, sym, ◌∙◌}
use mathlib.Core.Bool.{Bool, true, false, ◌&&◌}
use mathlib.Core.List.{List}
use Prim.Native.Nat.{ℕ}
use lib.ListN.{length}
use Rattle.common.proofs.Bools.{and_left, and_right}
use Rattle.common.proofs.Choices.{by_test}
use Rattle.messages.specs.declared.Message.{Message}
use Rattle.settings.specs.Ranges.{good_shared}
use Rattle.queue.specs.Channel.{good_receive}
use Rattle.inbox.specs.Refusals.{possible, ready, raise_refusal}
use Rattle.inbox.specs.Calls as Inbox
use Rattle.buffer.specs.Channel.{good_send}
use Rattle.device.specs.State.{good}
use Rattle.device.specs.Outcomes.{Lent, refuses}
use Rattle.recorder.specs.Receiving.{raised}
use Rattle.device.specs.declared.Device.{Device}
use Rattle.kept.specs.State.{device_in, is_state, is_possible}

-- a test that holds decides nothing, one that fails everything
and_true : (a : Bool) → (a && true) ≡ a
and_true true = refl
and_true false = refl

and_false : (a : Bool) → (a && false) ≡ false
and_false true = refl
and_false false = refl

-- ---- what a possible state gives

module _ (s : List ℕ) where
  module _ (h : is_possible s ≡ true) where
    pub possible_state : is_state s ≡ true
    unfolding is_possible
    possible_state = and_left (is_state s) (good (device_in s)) h

    pub possible_good : good (device_in s) ≡ true
    unfolding is_possible
    possible_good = and_right (is_state s) (good (device_in s)) h

  -- and one that is not possible
  pub impossible_good : is_possible s ≡ false → is_state s ≡ true → good (device_in s) ≡ false
  unfolding is_possible
  impossible_good h t = rw t at h

-- a good device has a possible send channel, and settings and a receive channel that are possible
module _ (d : Device) (h : good d ≡ true) where
  pub good_send_lem : good_send d.send ≡ true
  unfolding good
  good_send_lem = and_right (good_shared d.shared && good_receive d.receive) (good_send d.send) h

  pub good_receive_lem : possible d.shared d.receive ≡ true
  unfolding good possible
  good_receive_lem = and_left (good_shared d.shared && good_receive d.receive) (good_send d.send) h

-- a device that is not good refuses a raise: 2, and everything stays
module _ (code tick : ℕ) (m : Message) (d : Device) (l : Lent) where
  refused_2 : possible d.shared d.receive ≡ false
      → raise_refusal d.shared d.receive (length l.queue) code m ≡ 2
  unfolding raise_refusal ready
  refused_2 h = rw h

  pub raise_impossible : good d ≡ false → raised code tick m d l ≡ refuses 2 d l
  unfolding good possible raised Inbox.raised
  raise_impossible h =
      by_test (good_send d.send)
      (λ a. rw (a, refused_2 (sym (and_true (good_shared d.shared && good_receive d.receive)) ∙ rw a at h)))
      (λ a. rw a)

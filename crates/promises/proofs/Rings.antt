-- A ring that holds slots of w bytes, as a list: what a store behind its newest and a step past its oldest do to
-- what it holds.
use Prim.Native.Nat.{ℕ, ◌+◌, ◌*◌, ◌%◌, ◌≤◌, ◌<◌}
use mathlib.Core.Path.{◌≡◌}
use mathlib.Core.Bool.{true}
use mathlib.Core.List.{List, [], ◌∷◌, ◌++◌}
use native.Mathlib.Nat.{mod-lt, mod-eq_of_lt, add-zero}
use native.Mathlib.Omega.{arith}
use lib.ListN.{length}
use borrow.Author.Tests.{lt-ltb, le-leb}
use Rattle.common.specs.Rings.{good_ring, slot_of, with_one_more, without_oldest}
use Rattle.common.specs.Slots.{slot, store}
use Rattle.common.specs.declared.Ring.{Ring}
use Rattle.common.proofs.RingFacts.{RingFacts, slot_inside}
use Rattle.common.proofs.Slots.{store_length, ring_rest, ring_store}
use Rattle.promises.specs.Runs.{held}

module _ (limit : ℕ) (r : Ring) where
  -- the numbers of a ring that has them are good
  pub facts_good : RingFacts limit r → good_ring limit r ≡ true
  unfolding good_ring
  facts_good f =
      rw (
        le-leb 1 r.capacity f.some,
        le-leb r.capacity limit f.within,
        lt-ltb r.first r.capacity f.first_in,
        le-leb r.count r.capacity f.count_in,
      )

  pub facts_more : RingFacts limit r → r.count < r.capacity → RingFacts limit (with_one_more r)
  facts_more f room = record { some = f.some; within = f.within; first_in = f.first_in; count_in = omega arith }

  pub facts_rest : RingFacts limit r → RingFacts limit (without_oldest r)
  unfolding slot_of
  facts_rest f =
      record {
        some = f.some;
        within = f.within;
        first_in = mod-lt (r.first + 1) f.some;
        count_in = omega (arith, f.count_in);
      }

module _ (w limit : ℕ) (r : Ring) (t : List ℕ) (f : RingFacts limit r) (long : w * r.capacity ≤ length t) where
  -- a store behind the newest: one more at the end
  pub held_more : (b : List ℕ) → r.count < r.capacity → length b ≡ w
      → held w (with_one_more r) (store w t (slot_of r r.count) b) ≡ held w r t ++ b ∷ []
  unfolding slot_of
  held_more b room size = ring_store w t r.capacity r.first r.count b room long size

  -- it keeps the table's length
  pub more_length : (b : List ℕ) → length b ≡ w → length (store w t (slot_of r r.count) b) ≡ length t
  more_length b size = store_length w t (slot_of r r.count) b (slot_inside w limit r.count r t f long) size

  -- the slot at position 0 is the oldest, and without it the rest stays
  pub held_rest : 0 < r.count → held w r t ≡ slot w t (slot_of r 0) ∷ held w (without_oldest r) t
  unfolding slot_of
  held_rest some =
      let e : (r.first + 0) % r.capacity ≡ r.first = rw add-zero (mod-eq_of_lt f.first_in) in
      rw e (ring_rest w t r.capacity r.first r.count f.first_in some)

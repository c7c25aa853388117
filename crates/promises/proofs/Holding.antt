-- A ring that holds the bytes of a list's entries: one more at the end, the oldest taken, none,
-- and the one at a position.
use Prim.Native.Nat.{ℕ, zero, suc, ◌+◌, ◌*◌, ◌%◌, ◌≤◌, ◌<◌}
use mathlib.Core.Path.{◌≡◌, refl, sym, ap, ◌∙◌}
use mathlib.Core.Bool.{true}
use mathlib.Core.List.{List, [], ◌∷◌, ◌++◌, map, map-append}
use native.Mathlib.Nat.{add-zero}
use native.Mathlib.Omega.{arith}
use lib.ListN.{length, length-map, drop}
use lib.Dec.{ltb}
use lib.Dec as Dec
use borrow.Author.Tests.{ltb-true, leb-true, lt-ltb, le-ltb}
use Rattle.common.specs.All.{All}
use Rattle.common.specs.Choice.{pick}
use Rattle.common.specs.Rings.{slot_of, with_one_more, without_oldest, purged}
use Rattle.common.specs.Slots.{slot, store, ring}
use Rattle.common.specs.declared.Ring.{Ring}
use Rattle.common.proofs.All.{all_append}
use Rattle.common.proofs.RingFacts.{RingFacts, good_ring_lem}
use Rattle.common.proofs.Slots.{ring_length}
use Rattle.model.specs.Said.{says, hands}
use Rattle.model.specs.Inbox.{Kept, looks_at}
use Rattle.promises.specs.Stands.{Holds, kept_bytes}
use Rattle.promises.proofs.Rings.{facts_good, facts_more, facts_rest, held_more, more_length, held_rest}

-- what holds of every entry and of one more
pub all_snoc : {A : Type 0} (P : A → Type 0) (xs : List A) (x : A) → All P xs → P x → All P (xs ++ x ∷ [])
all_snoc P xs x h e = all_append P xs (x ∷ []) h (e, tt)

-- the first of some slots
abbrev foremost : List (List ℕ) → List ℕ
foremost [] = []
foremost (b ∷ bs) = b

module _ {A : Type 0} (bytes : A → List ℕ) (w limit : ℕ) (r : Ring) (t : List ℕ) where
  -- as many entries as the ring counts
  pub holds_count : (xs : List A) → Holds bytes w limit r t xs → r.count ≡ length xs
  holds_count xs h =
      sym (ring_length w t r.capacity r.first r.count) ∙ ap length h.slots ∙ length-map xs bytes

  -- an entry stored behind the newest
  pub holds_more : (xs : List A) (x : A) → Holds bytes w limit r t xs → ltb r.count r.capacity ≡ true
      → length (bytes x) ≡ w
      → Holds bytes w limit (with_one_more r) (store w t (slot_of r r.count) (bytes x)) (xs ++ x ∷ [])
  holds_more xs x h room size =
      let f : RingFacts limit r = good_ring_lem limit r h.numbers in
      let fits : w * r.capacity ≤ length t = leb-true (w * r.capacity) (length t) h.long in
      let free : r.count < r.capacity = ltb-true r.count r.capacity room in
      record {
        numbers = facts_good limit (with_one_more r) (facts_more limit r f free);
        long = rw (more_length w limit r t f fits (bytes x) size) h.long;
        slots =
            held_more w limit r t f fits (bytes x) free size
            ∙ ap (λ (l : List (List ℕ)). l ++ bytes x ∷ []) h.slots
            ∙ sym (map-append bytes xs (x ∷ []));
      }

  -- the oldest slot is the first entry's, and without it the others stay
  pub holds_rest : (x : A) (xs : List A) → Holds bytes w limit r t (x ∷ xs)
      → (slot w t (slot_of r 0) ≡ bytes x) × Holds bytes w limit (without_oldest r) t xs
  holds_rest x xs h =
      let f : RingFacts limit r = good_ring_lem limit r h.numbers in
      let fits : w * r.capacity ≤ length t = leb-true (w * r.capacity) (length t) h.long in
      let e = sym (held_rest w limit r t f fits (omega (arith, holds_count (x ∷ xs) h))) ∙ h.slots in (
        ap foremost e,
        record {
          numbers = facts_good limit (without_oldest r) (facts_rest limit r f);
          long = h.long;
          slots = ap (drop 1) e;
        },
      )

  -- a purge leaves none
  pub holds_none : (xs : List A) → Holds bytes w limit r t xs → Holds bytes w limit (purged r) t []
  unfolding ring
  holds_none xs h =
      let f : RingFacts limit r = good_ring_lem limit r h.numbers in
      record {
        numbers =
            facts_good limit (purged r)
            (record { some = f.some; within = f.within; first_in = f.first_in; count_in = omega arith });
        long = h.long;
        slots = refl;
      }

-- a look at position p of the events whose bytes n slots are
pub look_at : (w : ℕ) (t : List ℕ) (c f n : ℕ) (ks : List Kept) (p : ℕ) → ring w t c f n ≡ map kept_bytes ks
    → looks_at ks p ≡ pick (ltb p n) (hands (slot w t ((f + p) % c))) (says 4)
unfolding ring
look_at w t c f zero [] p e = rw (le-ltb p 0 (omega arith))
look_at w t c f zero (k ∷ ks) p e = let z : ◌≡◌ {A = ℕ} 0 1 = cc in absurd (omega arith)
look_at w t c f (suc n) [] p e = let z : ◌≡◌ {A = ℕ} 0 1 = cc in absurd (omega arith)
look_at w t c f (suc n) (k ∷ ks) zero e = rw (lt-ltb 0 (suc n) (omega arith), add-zero) (ap hands (sym (ap foremost e)))
look_at w t c f (suc n) (k ∷ ks) (suc p) e =
    let s : suc f + p ≡ f + suc p = omega arith in
    rw (Dec.leb-suc-suc, ← s) (look_at w t c (suc f) n ks p (ap (drop 1) e))

-- A filter under which no bit must match lets every frame of its columns pass.
use mathlib.Core.Path.{◌≡◌, refl, sym, ◌∙◌}
use mathlib.Core.Bool.{Bool, true, false, not, ◌&&◌, ◌||◌}
use Prim.Native.Nat.{ℕ, zero, suc, ◌+◌, ◌≤◌}
use native.Mathlib.Nat.{zero-div}
use native.Mathlib.Omega.{arith}
use lib.Dec.{leb, eqb}
use Rattle.common.specs.Choice.{pick}
use Rattle.ids.specs.Ids.{bit, is_format, id_bits}
use Rattle.ids.specs.Frames.{carried}
use Rattle.filters.specs.Filters.{is_filter, filter_low, data_compared, free, field_meets, id_passes, byte_meets}
use Rattle.filters.specs.Filters.{data_passes}
use Rattle.filters.specs.declared.Filter.{Filter}
use Rattle.ids.specs.declared.Header.{Header}
use Rattle.filters.proofs.Fields.{Same, filter_in_word}

-- every filter bit is free where nothing must match
all_free : (q : Filter) (must k : ℕ) → Same q.mask q.active must → must ≡ 0 → suc k ≤ 32 → free q k ≡ true
unfolding free
all_free q must k same e h = by (eqb (bit q.mask k) q.active) (sym (same k h) ∙ rw e (simp zero-div))
  where
    by : (t : Bool) → ◌≡◌ {A = ℕ} (pick t 1 0) 0 → not t ≡ true
    by true z = absurd (omega arith)
    by false z = refl

module _ (q : Filter) (must : ℕ) (same : Same q.mask q.active must) (none : must ≡ 0) where
  field_open : (low v w : ℕ) → low + w ≤ 32 → field_meets q low v w ≡ true
  unfolding field_meets
  field_open low v zero h = refl
  field_open low v (suc w) h = rw (all_free q must (low + w) same none (omega arith), field_open low v w (omega arith))

  or_true : (a : Bool) → (a || true) ≡ true
  or_true true = refl
  or_true false = refl

  -- what a frame meets of such a filter is the column
  pub open_passes : (align : ℕ) (h : Header) (first second : ℕ)
      → (is_filter align q.active && is_format h.format)
      ≡ (id_passes align q h.format h.id && data_passes align q h first second)
  unfolding id_passes data_passes byte_meets
  open_passes align h first second =
      let inside = filter_in_word h.format align _ _ refl refl in
      rw (
        field_open (filter_low h.format align) h.id (id_bits h.format) inside.2,
        field_open 8 first 8
            (omega arith),
        field_open 0 second 8 (omega arith),
      )
      (by (is_filter align q.active) (is_format h.format) (data_compared align h.format) (leb (carried h) 0)
      (leb (carried h) 1))
    where
      by : (a b c x y : Bool) → (a && b) ≡ ((a && b && true) && (not c || ((x || true) && (y || true))))
      by true true c x y = rw (or_true x, or_true y) (sym (or_true (not c)))
      by true false c x y = refl
      by false b c x y = refl

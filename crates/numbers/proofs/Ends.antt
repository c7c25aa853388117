-- The ends of a text: how many bytes stand before the first end, and how many ends in a row, from a position on.
use Prim.Native.Nat.{ℕ, ◌+◌, ◌≤◌, ◌<◌}
use mathlib.Core.Path.{◌≡◌}
use mathlib.Core.Bool.{true, false}
use mathlib.Core.List.{List, ◌∷◌}
use native.Mathlib.Numerals.{add-one}
use lib.ListN.{length, get_or, drop, drop_of_length-le}
use lib.Seq.{drop-cons}
use Rattle.numbers.specs.Numbers.{is_end, before_end, end_run}

-- a list from a position on
pub here : (t : List ℕ) (i : ℕ) → i < length t → drop i t ≡ get_or t i 0 ∷ drop (i + 1) t
here t i h = rw (add-one, drop-cons t i 0)

module _ (t : List ℕ) (i : ℕ) where
  -- behind the last byte
  pub before_last : length t ≤ i → before_end (drop i t) ≡ 0
  unfolding before_end
  before_last h = rw (drop_of_length-le t h)

  pub run_last : length t ≤ i → end_run (drop i t) ≡ 0
  unfolding end_run
  run_last h = rw (drop_of_length-le t h)

  -- at a byte
  module _ (h : i < length t) where
    pub before_stop : is_end (get_or t i 0) ≡ true → before_end (drop i t) ≡ 0
    unfolding before_end
    before_stop e = rw (here t i h, e)

    pub before_more : is_end (get_or t i 0) ≡ false → before_end (drop i t) ≡ 1 + before_end (drop (i + 1) t)
    unfolding before_end
    before_more e = rw (here t i h, e)

    pub run_stop : is_end (get_or t i 0) ≡ false → end_run (drop i t) ≡ 0
    unfolding end_run
    run_stop e = rw (here t i h, e)

    pub run_more : is_end (get_or t i 0) ≡ true → end_run (drop i t) ≡ 1 + end_run (drop (i + 1) t)
    unfolding end_run
    run_more e = rw (here t i h, e)

-- Data values: those that are bytes, and the eight bytes made of them.
use Prim.Native.Nat.{ℕ, zero, suc, ◌+◌, ◌≤◌, ◌<◌}
use mathlib.Core.Path.{◌≡◌, refl, sym, ap, ap₂, ◌∙◌}
use mathlib.Core.List.{List, [], ◌∷◌, map}
use mathlib.Core.Bool.{true, false, ◌&&◌}
use native.Mathlib.Omega.{arith}
use borrow.Author.Tests.{lt-ltb, le-ltb, ltb-true}
use lib.Dec.{ltb}
use lib.ListN.{length, get_or, take, drop, set, replicate, drop_of_length-le}
use lib.Seq.{sets, take_all}
use Rattle.common.proofs.Bools.{and_left, and_right}
use Rattle.std.proofs.lemmas.List.{take_more, take_more_set}
use Rattle.digits.specs.Reading.{capped}
use Rattle.digits.proofs.Capped.{capped_ltb}
use Rattle.message_text.specs.Reading.{all_bytes}
use Rattle.numbers.proofs.Ends.{here}

-- ---- bytes from a position on

pub bytes_last : (xs : List ℕ) (k : ℕ) → length xs ≤ k → all_bytes (drop k xs) ≡ true
unfolding all_bytes
bytes_last xs k h = rw (drop_of_length-le xs h)

pub bytes_stop : (xs : List ℕ) (k : ℕ) → k < length xs → 256 ≤ get_or xs k 0 → all_bytes (drop k xs) ≡ false
unfolding all_bytes
bytes_stop xs k h l = rw (here xs k h, le-ltb (get_or xs k 0) 256 l)

pub bytes_more : (xs : List ℕ) (k : ℕ) → k < length xs → get_or xs k 0 < 256
    → all_bytes (drop k xs) ≡ all_bytes (drop (k + 1) xs)
unfolding all_bytes
bytes_more xs k h l = rw (here xs k h, lt-ltb (get_or xs k 0) 256 l)

pub byte_at : (xs : List ℕ) (k : ℕ) → all_bytes xs ≡ true → get_or xs k 0 < 256
unfolding all_bytes
byte_at [] k e = omega arith
byte_at (x ∷ xs) zero e = ltb-true x 256 (and_left (ltb x 256) (all_bytes xs) e)
byte_at (x ∷ xs) (suc k) e = byte_at xs k (and_right (ltb x 256) (all_bytes xs) e)

-- ---- the eight bytes, one by one

-- one more is taken over
pub data_more : (xs bytes : List ℕ) (i b : ℕ) → i < length xs → i < length bytes → b ≡ get_or xs i 0
    → take i bytes ≡ take i xs → take (i + 1) (set bytes i b) ≡ take (i + 1) xs
data_more xs bytes i b h l e t = rw (take_more_set bytes i b l, take_more xs i 0 h, e, t)

-- all are
pub data_done : (xs bytes : List ℕ) (i : ℕ) → length xs ≤ i → length bytes ≤ i → take i bytes ≡ take i xs → bytes ≡ xs
data_done xs bytes i h l t = sym (take_all i bytes l) ∙ t ∙ take_all i xs h

-- ---- values as they are kept: capped, in an array of zeros

sets_behind : (x : ℕ) (l : List ℕ) (i : ℕ) (xs : List ℕ) → sets (x ∷ l) (suc i) xs ≡ x ∷ sets l i xs
sets_behind x l i [] = refl
sets_behind x l i (y ∷ xs) = sets_behind x (set l i y) (suc i) xs

-- they stand in front
abbrev pub padded : ℕ → List ℕ → List ℕ
padded m values = sets (replicate m 0) 0 (map capped values)

pub padded_one : (m v : ℕ) (values : List ℕ) → padded (suc m) (v ∷ values) ≡ capped v ∷ padded m values
padded_one m v values = sets_behind (capped v) (replicate m 0) 0 (map capped values)

-- and are bytes where the values are
pub padded_bytes : (m : ℕ) (values : List ℕ) → length values ≤ m → all_bytes (padded m values) ≡ all_bytes values
unfolding all_bytes
padded_bytes zero [] h = refl
padded_bytes (suc m) [] h = padded_bytes m [] (omega arith)
padded_bytes zero (v ∷ values) h = absurd (omega arith)
padded_bytes (suc m) (v ∷ values) h =
    ap all_bytes (padded_one m v values)
    ∙ ap₂ ◌&&◌ (capped_ltb v 256 (omega arith)) (padded_bytes m values (omega arith))

pub padded_take : (m n : ℕ) (values : List ℕ) → n ≤ length values → length values ≤ m → all_bytes values ≡ true
    → take n (padded m values) ≡ take n values
unfolding all_bytes
padded_take m zero values h l e = refl
padded_take m (suc n) [] h l e = absurd (omega arith)
padded_take zero (suc n) (v ∷ values) h l e = absurd (omega arith)
padded_take (suc m) (suc n) (v ∷ values) h l e =
    let b : v < 256 = ltb-true v 256 (and_left (ltb v 256) (all_bytes values) e) in
    let c : capped v ≡ v = omega arith in
    ap (take (suc n)) (padded_one m v values)
    ∙ ap₂ ◌∷◌ c (padded_take m n values (omega arith) (omega arith) (and_right (ltb v 256) (all_bytes values) e))

-- A record's line, byte by byte, and how long the lines are.
use Prim.Native.Nat.{ℕ, ◌+◌, ◌*◌, ◌^◌, ◌≤◌, ◌<◌}
use mathlib.Core.Path.{◌≡◌, refl}
use mathlib.Core.List.{List, [], ◌∷◌, ◌++◌}
use native.Mathlib.Numerals.{add-one}
use native.Mathlib.Omega.{arith}
use lib.ListN.{length, length-append, get_or, drop, drop_of_length-le}
use lib.Seq.{drop-cons}
use Rattle.digits.specs.Digits.{hex}
use Rattle.digits.proofs.Lengths.{hex_length, decimal_length_le}
use Rattle.show.specs.Lines.{pairs, refused_line}

-- two digits for each byte
pub pairs_length : (bs : List ℕ) → length (pairs bs) ≡ 2 * length bs
unfolding pairs
pairs_length [] = refl
pairs_length (b ∷ bs) = rw (length-append (hex 2 b) (pairs bs)) (omega (arith, hex_length 2 b, pairs_length bs))

-- bytes as digits begin with the first one's two
pub pairs_first : (b : List ℕ) (i : ℕ) → i < length b → pairs (drop i b) ≡ hex 2 (get_or b i 0) ++ pairs (drop (i + 1) b)
unfolding pairs
pairs_first b i h = rw (drop-cons b i 0 h, add-one i) refl

pub pairs_none : (b : List ℕ) (i : ℕ) → length b ≤ i → pairs (drop i b) ≡ []
unfolding pairs
pairs_none b i h = rw (drop_of_length-le b {i = i} h) refl

-- the line of a refusal whose numbers have 32 bits has at most 40 bytes
pub refused_fits : (number used : ℕ) → number < 2 ^ 32 → used < 2 ^ 32 → length (refused_line number used) ≤ 40
refused_fits number used h k =
    simp length-append (omega (arith, decimal_length_le number h, decimal_length_le used k))

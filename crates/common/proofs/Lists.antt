-- Laws of lists: a part read entry by entry.
use mathlib.Core.Path.{◌≡◌, sym, ap, ◌∙◌}
use mathlib.Core.List.{List, [], ◌∷◌}
use Prim.Native.Nat.{ℕ, zero, suc, ◌+◌, ◌≤◌}
use native.Mathlib.Nat.{add-zero}
use native.Mathlib.Omega.{arith}
use lib.ListN.{length, get_or}
use lib.Seq.{take_all, slice, slice-cons, slice_empty}

-- n entries of l from f on, each read by itself, as an array literal has them
abbrev pub reads : List ℕ → ℕ → ℕ → List ℕ
reads l f zero = []
reads l f (suc n) = get_or l f 0 ∷ reads l (suc f) n

-- they are the part of l
pub reads_slice : (l : List ℕ) (f n : ℕ) → f + n ≤ length l → reads l f n ≡ slice f (f + n) l
reads_slice l f zero h = rw add-zero (sym (slice_empty f l))
reads_slice l f (suc n) h =
    let e : f + suc n ≡ suc f + n = omega arith in
    rw e (ap (λ (r : List ℕ). get_or l f 0 ∷ r) (reads_slice l (suc f) n (omega arith))
    ∙ sym (slice-cons f (suc f + n) l 0 (omega arith) (omega arith)))

-- all of them are l
pub reads_all : (l : List ℕ) (n : ℕ) → length l ≡ n → reads l 0 n ≡ l
reads_all l n e = reads_slice l 0 n (omega arith) ∙ take_all (0 + n) l (omega arith)

-- Laws of writers: one after another, and what is in the buffer in the end.
use Prim.Native.Nat.{ℕ, zero, suc, ◌+◌, ◌≤◌, ◌<◌}
use mathlib.Core.Path.{◌≡◌, refl, sym, ap, ◌∙◌}
use mathlib.Core.List.{List, [], ◌∷◌, ◌++◌}
use native.Mathlib.Omega.{arith}
use native.Mathlib.Nat.{add-zero, zero-add}
use lib.ListN.{length, take, drop, set, length-append}
use lib.Seq.{sets, sets-eq, length-take-le, take-append_seam}
use Rattle.digits.specs.Written.{Put}

-- a text written in two parts
pub sets_append : (l : List ℕ) (i : ℕ) (xs ys : List ℕ) → sets l i (xs ++ ys) ≡ sets (sets l i xs) (i + length xs) ys
sets_append l i [] ys = ap (λ (k : ℕ). sets l k ys) (sym (add-zero i))
sets_append l i (x ∷ xs) ys =
    let e : suc i + length xs ≡ i + suc (length xs) = omega arith in
    sets_append (set l i x) (suc i) xs ys ∙ ap (λ (k : ℕ). sets (sets (set l i x) (suc i) xs) k ys) e

set_swap : (l : List ℕ) (i j x y : ℕ) → i < j → set (set l i x) j y ≡ set (set l j y) i x
set_swap [] i j x y h = refl
set_swap (z ∷ l) zero zero x y h = absurd (omega arith)
set_swap (z ∷ l) zero (suc j) x y h = refl
set_swap (z ∷ l) (suc i) zero x y h = absurd (omega arith)
set_swap (z ∷ l) (suc i) (suc j) x y h = ap (λ m. z ∷ m) (set_swap l i j x y (omega arith))

-- a byte behind a text may be stored first
sets_behind : (l xs : List ℕ) (i j y : ℕ) → i + length xs ≤ j → set (sets l i xs) j y ≡ sets (set l j y) i xs
sets_behind l [] i j y h = refl
sets_behind l (x ∷ xs) i j y h =
    sets_behind (set l i x) xs (suc i) j y (omega arith)
    ∙ ap (λ m. sets m (suc i) xs) (set_swap l i j x y (omega arith))

-- the last byte of a text may be stored first
pub last_first : (l : List ℕ) (i : ℕ) (xs : List ℕ) (y : ℕ)
    → sets l i (xs ++ y ∷ []) ≡ sets (set l (i + length xs) y) i xs
last_first l i xs y = sets_append l i xs (y ∷ []) ∙ sets_behind l xs i (i + length xs) y (omega arith)

-- one writer after another
pub then : {o m n xs ys : List ℕ} {a p q : ℕ} → Put o a xs m p → Put m p ys n q → Put o a (xs ++ ys) n q
then {o} {m} {n} {xs} {ys} {a} {p} {q} s t = record {
  bytes = rw (sets_append o a xs ys, ← s.bytes, ← s.place) t.bytes;
  place = rw (length-append xs ys) (omega (arith, s.place, t.place));
}

-- a line written from the front on: the line, then what was there
pub printed : {o m xs : List ℕ} {p : ℕ} → Put o 0 xs m p → length xs ≤ length o
    → (m ≡ xs ++ drop (length xs) o) × (p ≡ length xs)
printed {o} {m} {xs} {p} s h =
    let z : 0 + length xs ≡ length xs = zero-add (length xs) in
    (s.bytes ∙ sets-eq xs o 0 (rw z h) ∙ ap (λ (k : ℕ). xs ++ drop k o) z, s.place ∙ z)

-- what a writer puts behind the n bytes of a line that are written
pub appended : {o m xs t : List ℕ} {n p : ℕ} → Put o n xs m p → take n o ≡ t → n ≤ length o → length t + length xs ≤ length o
    → take p m ≡ t ++ xs
appended {o} {m} {xs} {t} {n} {p} s e l h =
    let w : length (take n o) ≡ n = length-take-le n o l in
    let g : length t ≡ n = rw (← e) w in
    let u : m ≡ (t ++ xs) ++ drop (n + length xs) o =
    s.bytes ∙ sets-eq xs o n (omega arith) ∙ ap (λ (k : List ℕ). k ++ xs ++ drop (n + length xs) o) e in
    let q : p ≡ length (t ++ xs) = s.place ∙ rw (length-append t xs, g) in
    rw (u, q) (take-append_seam (t ++ xs) (drop (n + length xs) o))

-- The number of identifiers let through is the number of those that pass the filter.
use mathlib.Core.Path.{◌≡◌, refl, sym, ap, ap₂, ◌∙◌}
use mathlib.Core.Bool.{Bool, true, false, ◌&&◌, ◌||◌}
use Prim.Native.Nat.{ℕ, zero, suc, ◌+◌, ◌*◌, ◌%◌, ◌^◌, ◌≤◌, ◌<◌}
use native.Mathlib.Nat.{le_refl, add-suc, add_assoc, add-zero, zero-add, one-mul, zero-mul, mod-eq_of_lt}
use native.Mathlib.Omega.{arith}
use lib.Dec.{eqb}
use lib.Pow.{high}
use Rattle.common.specs.Choice.{pick}
use Rattle.ids.specs.Ids.{bit, is_format, id_bits}
use Rattle.filters.specs.Filters.{is_filter, filter_low, free, field_meets, id_passes, free_bits, let_through}
use Rattle.filters.specs.Counting.{how_many}
use Rattle.filters.specs.declared.Filter.{Filter}
use Rattle.ids.proofs.Bits.{Bit, off, on, bit_is, bit_above}

-- ---- `how_many`

many_same : (p q : ℕ → Bool) (n : ℕ) → ((v : ℕ) → v < n → p v ≡ q v) → how_many p n ≡ how_many q n
unfolding how_many
many_same p q zero h = refl
many_same p q (suc n) h = ap₂ (λ (t : Bool) (m : ℕ). pick t 1 0 + m) (h n (le_refl (suc n)))
    (many_same p q n (λ v l. h v (omega arith)))

many_add : (p : ℕ → Bool) (a b : ℕ) → how_many p (a + b) ≡ how_many (λ v. p (a + v)) b + how_many p a
unfolding how_many
many_add p a zero = ap (how_many p) (add-zero a) ∙ sym (zero-add (how_many p a))
many_add p a (suc b) =
    ap (how_many p) (add-suc a b) ∙ ap (λ (m : ℕ). pick (p (a + b)) 1 0 + m) (many_add p a b)
    ∙ sym (add_assoc (pick (p (a + b)) 1 0) (how_many (λ v. p (a + v)) b) (how_many p a))

many_twice : (p : ℕ → Bool) (n : ℕ) → how_many p (n + n)
    ≡ how_many (λ v. p (1 * n + v)) n + how_many (λ v. p (0 * n + v)) n
many_twice p n = simp (one-mul, zero-mul, zero-add) (many_add p n n)

many_and : (t : Bool) (p : ℕ → Bool) (n : ℕ) → how_many (λ v. t && p v) n ≡ pick t (how_many p n) 0
unfolding how_many
many_and true p n = refl
many_and false p zero = refl
many_and false p (suc n) = omega (arith, many_and false p n)

-- ---- one bit more: twice as many where it is free, and as many where it must match

field_above : (q : Filter) (low t v w n : ℕ) → n ≤ w → field_meets q low (t * 2 ^ w + v) n ≡ field_meets q low v n
unfolding field_meets
field_above q low t v w zero h = refl
field_above q low t v w (suc n) h =
    ap₂ (λ (b : ℕ) (m : Bool). (free q (low + n) || eqb b (bit q.code (low + n))) && m) (bit_above t v w n h)
    (field_above q low t v w n (omega arith))

-- of the 2^w numbers whose bit w is t, as many meet w + 1 filter bits as numbers of w bits meet w of them, or none
half : (q : Filter) (low w t : ℕ) → t < 2
    → how_many (λ v. field_meets q low (t * 2 ^ w + v) (suc w)) (2 ^ w)
    ≡ pick (free q (low + w) || eqb t (bit q.code (low + w))) (how_many (λ v. field_meets q low v w) (2 ^ w)) 0
unfolding field_meets
half q low w t ht =
    many_same (λ v. field_meets q low (t * 2 ^ w + v) (suc w))
    (λ v. (free q (low + w) || eqb t (bit q.code (low + w))) && field_meets q low v w) (2 ^ w)
    (λ v h.
    ap₂ (λ (b : ℕ) (m : Bool). (free q (low + w) || eqb b (bit q.code (low + w))) && m)
    (ap (λ (n : ℕ). n % 2) (high t w h) ∙ mod-eq_of_lt ht) (field_above q low t v w w (le_refl w)))
    ∙ many_and (free q (low + w) || eqb t (bit q.code (low + w))) (λ v. field_meets q low v w) (2 ^ w)

both : (f : Bool) {b : ℕ} → Bit b → (n m : ℕ) → n ≡ 2 ^ m
    → pick (f || eqb 1 b) n 0 + pick (f || eqb 0 b) n 0 ≡ 2 ^ (pick f 1 0 + m)
both true b n m e = let one : 1 + m ≡ suc m = omega arith in rw (one, e) (omega arith)
both false off n m e = rw (zero-add n, zero-add m) e
both false on n m e = rw (add-zero n, zero-add m) e

counted : (q : Filter) (low w : ℕ) → how_many (λ v. field_meets q low v w) (2 ^ w) ≡ 2 ^ free_bits q low w
unfolding field_meets free_bits how_many
counted q low zero = refl
counted q low (suc w) =
    let twice : 2 ^ suc w ≡ 2 ^ w + 2 ^ w = omega arith in
    ap (how_many (λ v. field_meets q low v (suc w))) twice ∙ many_twice (λ v. field_meets q low v (suc w)) (2 ^ w)
    ∙ ap₂ ◌+◌ (half q low w 1 (omega arith)) (half q low w 0 (omega arith))
    ∙ both (free q (low + w)) (bit_is q.code (low + w)) (how_many (λ v. field_meets q low v w) (2 ^ w))
    (free_bits q low w) (counted q low w)

-- the number that the filter lets through counts the identifiers of the format that pass, whatever the settings
pub let_through_counts : (align : ℕ) (q : Filter) (format : ℕ)
    → let_through align q format ≡ how_many (λ id. id_passes align q format id) (2 ^ id_bits format)
unfolding let_through id_passes
let_through_counts align q format =
    ap (λ (n : ℕ). pick (is_filter align q.active && is_format format) n 0)
    (sym (counted q (filter_low format align) (id_bits format)))
    ∙ sym (many_and (is_filter align q.active && is_format format)
    (λ id. field_meets q (filter_low format align) id (id_bits format)) (2 ^ id_bits format))

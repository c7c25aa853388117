-- What a byte is, by the range that it lies in.
use Prim.Native.Nat.{ℕ, ◌-◌, ◌≤◌, ◌<◌}
use mathlib.Core.Path.{◌≡◌, refl}
use mathlib.Core.Bool.{false, ◌||◌}
use mathlib.Core.Logic.{◌⊎◌, inl, inr, ⊎_elim}
use native.Mathlib.Omega.{arith}
use borrow.Author.Tests.{le-leb, lt-leb, ne_eqb}
use lib.Dec.{eqb}
use Rattle.digits.specs.Reading.{byte_kind}
use Rattle.digits.specs.declared.reading.ByteKind.TheVariants.{Digit, Separator, End}

no_end : (b : ℕ) → 13 < b → (eqb b 13 || eqb b 10 || eqb b 0) ≡ false
no_end b h = rw (ne_eqb b 13 (omega arith), ne_eqb b 10 (omega arith), ne_eqb b 0 (omega arith))

-- a decimal digit
pub decimal_kind : (b : ℕ) → 48 ≤ b → b ≤ 57 → Digit (b - 48) ≡ byte_kind b
unfolding byte_kind
decimal_kind b lo hi = simp (no_end b (omega arith), le-leb 48 b lo, le-leb b 57 hi)

-- an upper case digit
pub upper_kind : (b : ℕ) → 65 ≤ b → b ≤ 70 → Digit (b - 55) ≡ byte_kind b
unfolding byte_kind
upper_kind b lo hi =
    simp (no_end b (omega arith), le-leb 48 b (omega arith), lt-leb b 57 (omega arith), le-leb 65 b lo, le-leb b 70 hi)

-- a lower case digit
pub lower_kind : (b : ℕ) → 97 ≤ b → b ≤ 102 → Digit (b - 87) ≡ byte_kind b
unfolding byte_kind
lower_kind b lo hi =
    simp (
      no_end b (omega arith),
      le-leb 48 b (omega arith),
      lt-leb b 57 (omega arith),
      le-leb 65 b (omega arith),
      lt-leb b 70 (omega arith),
      le-leb 97 b lo,
      le-leb b 102 hi,
    )

-- an end
pub end_kind : (b : ℕ) → (b ≡ 0) ⊎ ((b ≡ 10) ⊎ (b ≡ 13)) → End ≡ byte_kind b
unfolding byte_kind
end_kind b = ⊎_elim (λ e. rw e) (⊎_elim (λ e. rw e) (λ e. rw e))

-- no end, and in none of the ranges of digits: a separator
pub separator_kind : (b : ℕ) → ((b ≡ 0) ⊎ ((b ≡ 10) ⊎ (b ≡ 13)) → ⊥)
    → (b < 48) ⊎ (((57 < b) × (b < 65)) ⊎ (((70 < b) × (b < 97)) ⊎ (102 < b))) → Separator ≡ byte_kind b
unfolding byte_kind
separator_kind b ends gaps =
    let e : (eqb b 13 || eqb b 10 || eqb b 0) ≡ false =
    rw (ne_eqb b 13 (λ e. ends (inr (inr e))), ne_eqb b 10 (λ e. ends (inr (inl e))), ne_eqb b 0 (λ e. ends (inl e))) in
    ⊎_elim
    (λ h. simp (e, lt-leb 48 b h, lt-leb 65 b (omega arith), lt-leb 97 b (omega arith)))
    (⊎_elim
    (λ h. simp (e, le-leb 48 b (omega arith), lt-leb b 57 h.0, lt-leb 65 b h.1, lt-leb 97 b (omega arith)))
    (⊎_elim
    (λ h. simp (
      e,
      le-leb 48 b (omega arith),
      lt-leb b 57 (omega arith),
      le-leb 65 b (omega arith),
      lt-leb b 70 h.0,
      lt-leb 97 b h.1,
    ))
    (λ h. simp (
      e,
      le-leb 48 b (omega arith),
      lt-leb b 57 (omega arith),
      le-leb 65 b (omega arith),
      lt-leb b 70 (omega arith),
      le-leb 97 b (omega arith),
      lt-leb b 102 h,
    ))))
    gaps

-- blank, TAB, 'G' and 'x' are separators, zero, LF and CR ends, '0' is zero, and F is fifteen in either letter case
pub kinds :
    (byte_kind 32 ≡ Separator) × (byte_kind 9 ≡ Separator) × (byte_kind 71 ≡ Separator) × (byte_kind 120 ≡ Separator)
    × (byte_kind 0 ≡ End) × (byte_kind 10 ≡ End) × (byte_kind 13 ≡ End)
    × (byte_kind 48 ≡ Digit 0) × (byte_kind 70 ≡ Digit 15) × (byte_kind 102 ≡ Digit 15)
unfolding byte_kind
kinds = (refl, refl, refl, refl, refl, refl, refl, refl, refl, refl)

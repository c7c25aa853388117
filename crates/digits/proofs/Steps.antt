-- How printed digits begin, and what one step of each writer leaves to write.
use Prim.Native.Nat.{ℕ, zero, suc, ◌+◌, ◌-◌, ◌*◌, ◌/◌, ◌%◌, ◌^◌, ◌≤◌, ◌<◌}
use mathlib.Core.Path.{◌≡◌, refl, sym, ap, ◌∙◌}
use mathlib.Core.List.{List, [], ◌∷◌, ◌++◌}
use native.Mathlib.Numerals.{add-one}
use native.Mathlib.Omega.{arith}
use lib.ListN.{length, get_or, take, drop, set, drop_of_length-le}
use lib.Seq.{sets, drop-cons}
use Rattle.std.proofs.lemmas.List.{append_assoc, drop-set, take_all, length-drop, length-set}
use Rattle.digits.specs.Digits.{hex_digit, hex, decimal, fields}
use Rattle.digits.specs.Written.{Put}
use Rattle.digits.proofs.Written.{sets_append, last_first}
use Rattle.digits.proofs.Lengths.{hex_length, fields_length}
use Rattle.digits.proofs.Decimal.{decimal_small, decimal_large, lows, lows_length, decimal_lows}

-- a shift by 4 k bits divides by 16 to the k
pub pow16 : (k : ℕ) → 2 ^ (4 * k) ≡ 16 ^ k
pow16 zero = refl
pow16 (suc k) =
    let e : 4 * suc k ≡ suc (suc (suc (suc (4 * k)))) = omega arith in
    rw e (omega (arith, pow16 k))

-- a hexadecimal number begins with its highest digit
pub hex_first : (k n : ℕ) → 0 < k → hex k n ≡ hex_digit (n / 2 ^ (4 * (k - 1)) % 16) ∷ hex (k - 1) n
unfolding hex
hex_first zero n p = absurd (omega arith)
hex_first (suc k) n p =
    let e : suc k - 1 ≡ k = omega arith in
    rw (e, pow16 k) refl

-- no digit, where none is asked for
pub hex_none : (n k : ℕ) → k ≤ 0 → hex k n ≡ []
unfolding hex
hex_none n zero h = refl
hex_none n (suc k) h = absurd (omega arith)

-- one digit of a hexadecimal number
pub hex_step : (n k : ℕ) (out : List ℕ) (i d : ℕ) → 0 < k → d ≡ hex_digit (n / 2 ^ (4 * (k - 1)) % 16)
    → sets out i (hex k n) ≡ sets (set out i d) (i + 1) (hex (k - 1) n)
hex_step n k out i d p q = rw (hex_first k n p, ← q, add-one i)

-- no digit is left
pub hex_done : {o out : List ℕ} {a i : ℕ} (w n k : ℕ) → sets o a (hex w n) ≡ sets out i (hex k n) → i + k ≡ a + w
    → k ≤ 0 → Put o a (hex w n) out i
hex_done w n k e f z = record { bytes = sym (e ∙ rw (hex_none n k z)); place = rw (hex_length w n) (omega arith) }

-- one byte of a text
pub text_step : (text out : List ℕ) (at i : ℕ) → i < length text
    → sets out (at + i) (drop i text) ≡ sets (set out (at + i) (get_or text i 0)) (at + (i + 1)) (drop (i + 1) text)
text_step text out at i h =
    let e : at + (i + 1) ≡ suc (at + i) = omega arith in
    rw (drop-cons text i 0 h, e, add-one i)

-- no byte is left
pub text_done : {o out : List ℕ} {a : ℕ} (text : List ℕ) (i : ℕ) → sets o a text ≡ sets out (a + i) (drop i text)
    → i ≤ length text → length text ≤ i → Put o a text out (a + i)
text_done {o} {out} {a} text i e f z =
    let q : i ≡ length text = omega arith in
    record { bytes = sym (e ∙ rw (drop_of_length-le text z)); place = rw q }

-- all digits of a decimal number are left
pub lows_starts : (out : List ℕ) (at n w : ℕ) → w ≡ length (decimal n)
    → sets out at (decimal n) ≡ sets out at (lows (at + w - at) n)
lows_starts out at n w h =
    let e : at + w - at ≡ length (decimal n) = omega arith in
    ap (sets out at) (decimal_lows n ∙ ap (λ k. lows k n) (sym e))

-- the last digit of those that are left
pub lows_step : (n : ℕ) (out : List ℕ) (at i : ℕ) → at < i
    → sets out at (lows (i - at) n) ≡ sets (set out (i - 1) (48 + n % 10)) at (lows (i - 1 - at) (n / 10))
unfolding lows
lows_step n out at i p =
    let e : i - at ≡ suc (i - 1 - at) = omega arith in
    let f : at + (i - 1 - at) ≡ i - 1 = omega arith in
    rw (e, last_first out at (lows (i - 1 - at) (n / 10)) (48 + n % 10), lows_length (i - 1 - at) (n / 10), f)

-- no digit is left
pub lows_done : {o out : List ℕ} {a i w : ℕ} (n m : ℕ) → sets o a (decimal n) ≡ sets out a (lows (i - a) m) → i ≤ a
    → w ≡ length (decimal n) → Put o a (decimal n) out (a + w)
unfolding lows
lows_done {o} {out} {a} {i} {w} n m e z f =
    let y : i - a ≡ 0 = omega arith in
    record { bytes = sym (e ∙ rw y); place = rw f }

-- bytes as fields begin with the first one's
pub fields_first : (separator i : ℕ) (b : List ℕ) → i < length b
    → fields separator (drop i b) ≡ (separator ∷ hex 2 (get_or b i 0)) ++ fields separator (drop (i + 1) b)
unfolding fields
fields_first separator i b h = rw (drop-cons b i 0 h, add-one i) refl

-- nothing, behind the last byte
pub fields_none : (separator : ℕ) (b : List ℕ) (i : ℕ) → length b ≤ i → fields separator (drop i b) ≡ []
unfolding fields
fields_none separator b i h = rw (drop_of_length-le b {i = i} h) refl

-- one byte of the data
pub fields_step :
    (separator i : ℕ) (b : List ℕ) {out next : List ℕ} {j p : ℕ} → i < length b
    → Put out j (separator ∷ hex 2 (get_or b i 0)) next p
    → sets out j (fields separator (drop i b)) ≡ sets next p (fields separator (drop (i + 1) b))
fields_step separator i b {out} {next} {j} {p} h s =
    rw (
      fields_first separator i b h,
      sets_append out j (separator ∷ hex 2 (get_or b i 0)) (fields separator (drop (i + 1) b)),
      s.bytes,
      s.place,
    )

-- no byte is left
pub fields_done :
    {o out : List ℕ} {a j : ℕ} (separator i : ℕ) (b : List ℕ)
    → sets o a (fields separator b) ≡ sets out j (fields separator (drop i b))
    → j ≡ a + 3 * i → i ≤ length b → length b ≤ i → Put o a (fields separator b) out j
fields_done separator i b e f h z =
    record {
      bytes = sym (e ∙ rw (fields_none separator b i z));
      place = rw (fields_length separator b) (omega arith);
    }

-- ---- decimal digits set in a list of its own from the last one on: those from place i + 1 on stand in d

-- one digit more
pub decimal_next : (n i : ℕ) (d : List ℕ) → 10 ≤ n → n < 2 ^ 64 → 1 ≤ i → i < length d
    → decimal (n / 10) ++ drop (i - 1 + 1) (set d i (48 + n % 10)) ≡ decimal n ++ drop (i + 1) d
decimal_next n i d l h a b =
    let e : i - 1 + 1 ≡ i = omega arith in
    rw (e, drop-set d i (48 + n % 10) b, decimal_large n l h)
    (sym (append_assoc (decimal (n / 10)) ((48 + n % 10) ∷ []) (drop (i + 1) d)))

-- the first digit
pub decimal_done : (n i : ℕ) (d : List ℕ) → n < 10 → i < 20 → length d ≡ 20
    → take (20 - i) (drop i (set d i (48 + n))) ≡ decimal n ++ drop (i + 1) d
decimal_done n i d h b l =
    let x : List ℕ = set d i (48 + n) in
    let f : length (drop i x) ≤ 20 - i = rw (length-drop i x, length-set d i (48 + n)) (omega arith) in
    take_all (20 - i) (drop i x) f ∙ rw (drop-set d i (48 + n) (omega arith), decimal_small n h) refl

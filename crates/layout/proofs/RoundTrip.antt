-- Numbers one behind the other come back, and so do the bytes that they were read from.
use mathlib.Core.Path.{◌≡◌, refl}
use mathlib.Core.List.{List, [], ◌∷◌, ◌++◌}
use Prim.Native.Nat.{ℕ, zero, suc, ◌+◌, ◌*◌, ◌≤◌, ◌<◌}
use native.Mathlib.Nat.{not-suc-le-zero, le_of_suc-le-suc}
use native.Mathlib.Omega.{arith}
use lib.ListN.{length, get_or}
use Rattle.common.specs.Numbers.{Bytes, bytes_of}
use Rattle.common.proofs.Lists.{reads, reads_slice}
use Rattle.common.proofs.Numbers.{number_back, number_below, bytes_back}
use Rattle.messages.proofs.RoundTrip.{reads_bytes}
use Rattle.layout.specs.Parts.{word_bytes, word}

-- a number that was written is read: number k stands at 4 * k
pub word_words : (ns r : List ℕ) (k : ℕ) → k < length ns → get_or ns k 0 < 4294967296
    → word (word_bytes ns ++ r) (4 * k) ≡ get_or ns k 0
unfolding word
word_words [] r k h b = absurd (not-suc-le-zero h)
word_words (n ∷ ns) r zero h b = number_back 4 n b
word_words (n ∷ ns) r (suc k) h b =
    let e : 4 * suc k ≡ suc (suc (suc (suc (4 * k)))) = omega arith in
    let f : 4 * suc k + 4 ≡ suc (suc (suc (suc (4 * k + 4)))) = omega arith in
    rw (f, e) (word_words ns r k (le_of_suc-le-suc h) b)

-- a number that bytes stand for has 32 bits
pub word_below : (b : List ℕ) (at : ℕ) → Bytes b → at + 4 ≤ length b → word b at < 4294967296
unfolding word
word_below b at g h = rw (← reads_slice b at 4 h) (number_below (reads b at 4) (reads_bytes b at 4 g))

-- n numbers from number k on
abbrev pub words_from : List ℕ → ℕ → ℕ → List ℕ
words_from b k zero = []
words_from b k (suc n) = word b (4 * k) ∷ words_from b (suc k) n

-- their bytes are those that they were read from
pub words_reads : (b : List ℕ) (k n : ℕ) → Bytes b → 4 * k + 4 * n ≤ length b
    → word_bytes (words_from b k n) ≡ reads b (4 * k) (4 * n)
unfolding word
words_reads b k zero g h = refl
words_reads b k (suc n) g h =
    let e : 4 * suc n ≡ suc (suc (suc (suc (4 * n)))) = omega arith in
    let f : 4 * suc k ≡ suc (suc (suc (suc (4 * k)))) = omega arith in
    let x : bytes_of 4 (word b (4 * k)) ≡ reads b (4 * k) 4 =
    rw (← reads_slice b (4 * k) 4 (omega arith)) (bytes_back (reads b (4 * k) 4) (reads_bytes b (4 * k) 4 g)) in
    rw (e, ← f) (λ i. x i ++ words_reads b (suc k) n g (omega arith) i)

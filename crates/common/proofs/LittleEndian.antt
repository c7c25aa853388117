-- The library's little-endian bytes are the paper's.
use Rattle.std.proofs.Common.{◌≡◌, ap, ◌∙◌, ℕ, List, [], ◌∷◌, length, arith}
use Rattle.std.specs.Int.{w16, w32, w64, to_le_bytes, from_le_bytes}
use Rattle.common.specs.Numbers.{bytes_of, number_of}
use Rattle.common.proofs.Lists.{reads, reads_all}

pub from_16 : (a b : ℕ) → from_le_bytes w16 (a ∷ b ∷ []) ≡ number_of (a ∷ b ∷ [])
from_16 a b = omega arith

pub from_32 : (a b c d : ℕ) → from_le_bytes w32 (a ∷ b ∷ c ∷ d ∷ []) ≡ number_of (a ∷ b ∷ c ∷ d ∷ [])
from_32 a b c d = omega arith

pub to_32 : (n : ℕ) → to_le_bytes w32 n ≡ bytes_of 4 n
to_32 n = grind arith

-- of eight bytes, each read by itself
pub from_64 : (s : List ℕ) → length s ≡ 8 → from_le_bytes w64 (reads s 0 8) ≡ number_of s
from_64 s h =
    let e : from_le_bytes w64 (reads s 0 8) ≡ number_of (reads s 0 8) = omega arith in
    e ∙ ap number_of (reads_all s 8 h)

pub to_64 : (n : ℕ) → to_le_bytes w64 n ≡ bytes_of 8 n
to_64 n = grind arith

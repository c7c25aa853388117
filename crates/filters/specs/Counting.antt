-- Counting by trying each number: what the number of identifiers let through is held to.
use Rattle.std.specs.Prelude.{ℕ, zero, suc, ◌+◌, Bool}
use Rattle.common.specs.Choice.{pick}

-- how many numbers below n pass a test
unfoldable pub how_many : (ℕ → Bool) → ℕ → ℕ
how_many test zero = 0
how_many test (suc n) = pick (test n) 1 0 + how_many test n

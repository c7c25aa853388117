-- TxMode: whether a transmitted event is raised, and when (01, "Sending").
use Rattle.std.specs.Prelude.{ℕ, Bool, ◌&&◌, ◌||◌, eqb}
use Rattle.ids.specs.Ids.{bit}

-- TxMode is 1, 3, 5 or 7
unfoldable pub good_tx : ℕ → Bool
good_tx tx = eqb tx 1 || eqb tx 3 || eqb tx 5 || eqb tx 7

-- a transmitted event is raised at take: TxMode bit 1 set, bit 2 not
unfoldable pub raises_at_take : ℕ → Bool
raises_at_take tx = eqb (bit tx 1) 1 && eqb (bit tx 2) 0

-- a transmitted event is raised at done: TxMode bits 1 and 2 set
unfoldable pub raises_at_done : ℕ → Bool
raises_at_done tx = eqb (bit tx 1) 1 && eqb (bit tx 2) 1

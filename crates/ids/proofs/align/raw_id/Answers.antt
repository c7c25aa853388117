use mathlib.Core.Path.{refl}
use lib.Pow.{pow_pos}
use Rattle.ids.proofs.Bits.{one_shl}
use Rattle.ids.proofs.Columns.{id_in_word}
use Rattle.ids.proofs.align.raw_id.Goals as goal

pub nonzero_rem-shown : goal.nonzero_rem-shown
nonzero_rem-shown c =
    rw (one_shl _ (id_in_word _ _ _ _ c.id_low-low.ensures refl).0) (pow_pos c.id_low-low.result)

use Rattle.ids.proofs.RoundTrip.{align_good}
use Rattle.ids.proofs.align.align_id.Goals as goal

pub returns : goal.returns
returns c =
    align_good _ _ _ _ _ c.if-align-gt3.false (cc) c.if-id_limit-raw.false c.id_limit.ensures c.id_low.ensures

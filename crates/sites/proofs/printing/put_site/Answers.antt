use Rattle.digits.proofs.Written.{then}
use Rattle.sites.specs.Texts.{site_text}
use Rattle.sites.proofs.printing.put_site.Goals as goal

pub returns : goal.returns
unfolding site_text
returns c = then (then c.put_byte-at.ensures c.put_offset-at.ensures) c.put_number.ensures

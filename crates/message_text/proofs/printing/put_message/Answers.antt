use Rattle.digits.proofs.Written.{then}
use Rattle.message_text.specs.Printing.{message_text}
use Rattle.message_text.proofs.printing.put_message.Goals as goal

pub returns : goal.returns
unfolding message_text
returns c =
    let t = rw c.carried.ensures at c.put_bytes-s.ensures in
    then (then (then (then c.put_hex-p.ensures c.put_field-q.ensures) c.put_field-r.ensures) t) c.put_byte.ensures

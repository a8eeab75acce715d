use Rattle.copy_text.proofs.EscapeLemmas.{front_digits_pass}
use Rattle.copy_text.proofs.escape.digits_at_front.Goals as goal

pub returns-clause-digits : goal.returns-clause-digits
returns-clause-digits c = front_digits_pass c.args.base c.args.most c.args.bytes.now c.digits_len-len.result c.digits_len-len.ensures.value

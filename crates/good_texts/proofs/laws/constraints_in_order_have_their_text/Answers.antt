use Rattle.good_texts.proofs.Constraints.{in_order_read}
use Rattle.good_texts.proofs.laws.constraints_in_order_have_their_text.Goals as goal

pub returns : goal.returns
returns c = in_order_read

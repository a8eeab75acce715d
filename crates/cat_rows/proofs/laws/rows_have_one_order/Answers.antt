use Rattle.cat_rows.proofs.OneOrder.{one_order, order_again}
use Rattle.cat_rows.proofs.laws.rows_have_one_order.Goals as goal

pub returns : goal.returns
returns c = record { one = one_order; kept = order_again }

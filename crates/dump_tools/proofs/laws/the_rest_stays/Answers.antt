use Rattle.dump_tools.proofs.Staying.{short_keeps, short_left, short_printed}
use Rattle.dump_tools.proofs.laws.the_rest_stays.Goals as goal

pub returns : goal.returns
returns c = record { files = short_keeps; input = short_left; printed = short_printed }

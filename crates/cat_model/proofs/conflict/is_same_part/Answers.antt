use Rattle.std.proofs.Common.{◌∙◌}
use Rattle.cat_model.proofs.Parts.{constraint_parts, index_parts}
use Rattle.cat_model.proofs.conflict.is_same_part.Goals as goal

pub returns : goal.returns
returns c = record {
  constraint = c.are_same.ensures ∙ constraint_parts c.args.q.now c.args.table.now c.args.n.now c.args.name.now;
  index = c.are_same.ensures ∙ index_parts c.args.q.now c.args.table.now c.args.n.now c.args.name.now;
}

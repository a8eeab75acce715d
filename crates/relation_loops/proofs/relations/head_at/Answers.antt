use Rattle.std.proofs.Common.{sym}
use Rattle.cat_model.specs.declared.key.Key.TheVariants as key
use Rattle.relation_loops.proofs.relations.head_at.Goals as goal

pub returns : goal.returns
returns c = c.in_ok-head_of.ensures (key.Rel c.args.path.now) (sym c.in_ok-own.ensures)

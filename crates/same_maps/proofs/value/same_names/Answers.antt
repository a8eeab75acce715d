use Rattle.same_maps.proofs.Bytes.{same_lists}
use Rattle.same_maps.proofs.value.same_names.Goals as goal

pub returns : goal.returns
returns c = same_lists c.args.a.now c.args.b.now c.eq.result c.eq.ensures

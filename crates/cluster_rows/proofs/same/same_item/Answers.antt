use Rattle.std.proofs.lemmas.Bool.Decides.{Decides-at}
use Rattle.cluster_rows.proofs.Holdings.{same_item}
use Rattle.cluster_rows.proofs.same.same_item.Goals as goal

pub returns : goal.returns
returns c = Decides-at c.eq.result _ c.eq.ensures (same_item c.args.a.now c.args.b.now)

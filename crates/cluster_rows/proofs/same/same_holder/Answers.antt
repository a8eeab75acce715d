use Rattle.std.proofs.lemmas.Bool.Decides.{Decides-at}
use Rattle.cluster_rows.proofs.Holdings.{same_holder}
use Rattle.cluster_rows.proofs.same.same_holder.Goals as goal

pub returns : goal.returns
returns c = Decides-at c.eq.result _ c.eq.ensures (same_holder c.args.a.now c.args.b.now)

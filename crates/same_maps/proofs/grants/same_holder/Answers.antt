use Rattle.std.proofs.lemmas.Bool.Decides.{Decides-at}
use Rattle.same_maps.proofs.Holdings.{same_holder}
use Rattle.same_maps.proofs.grants.same_holder.Goals as goal

pub returns : goal.returns
returns c = Decides-at c.eq.result _ c.eq.ensures (same_holder c.args.a.now c.args.b.now)

use Rattle.std.proofs.lemmas.Bool.Decides.{Decides-at}
use Rattle.cat_model.specs.KeyLaws.{key_eq-Decides}
use Rattle.same_statements.proofs.marks.same_key.Goals as goal

pub returns : goal.returns
returns c = Decides-at c.eq.result _ c.eq.ensures (key_eq-Decides c.args.a.now c.args.b.now)

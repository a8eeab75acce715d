use Rattle.std.proofs.lemmas.Result.{IfOk-weaker}
use Rattle.plain_loads.proofs.Steps.{differ_at}
use Rattle.plain_loads.proofs.uniques.names_differ.Goals as goal

pub returns-in-Some : goal.returns-in-Some
returns-in-Some c =
    IfOk-weaker c.keys_apart.result _ _
    (λ apart again yes. differ_at c.args.columns.now c.args.names.now c.in-Some.place c.args.text.now c.in-Some.ensures (again yes))
    c.keys_apart.ensures

use Rattle.std.proofs.lemmas.Result.{IfOk-weaker}
use Rattle.plain_loads.proofs.trying.are_on.Goals as goal

pub returns-clause-unique : goal.returns-clause-unique
returns-clause-unique c = IfOk-weaker c.all_are_on-2.result _ _ (λ on distinct yes. c.in_ok-all_are_on.ensures c.if-not-branch.false) c.all_are_on-2.ensures

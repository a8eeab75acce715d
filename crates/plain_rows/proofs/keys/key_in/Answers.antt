use Rattle.std.proofs.Common.{sym, inr}
use Rattle.std.proofs.lemmas.Result.{IfOk-weaker}
use Rattle.plain_rows.proofs.KeySteps.{at_most, some_weaker}
use Rattle.plain_rows.proofs.keys.key_in.Goals as goal

pub returns-in-Some : goal.returns-in-Some
returns-in-Some c = at_most c.args.columns.now c.args.place c.args.line.now c.in-Some.key.now c.in-Some.ensures

pub returns-in-None : goal.returns-in-None
returns-in-None c = IfOk-weaker c.read_key.result _ _ (λ found read. some_weaker _ _ (λ key is. inr (sym is)) found read) c.read_key.ensures

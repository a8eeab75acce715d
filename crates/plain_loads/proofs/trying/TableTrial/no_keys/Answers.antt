use Rattle.std.proofs.lemmas.Result.{IfOk-weaker}
use Rattle.plain_loads.proofs.PartsSeen.{seen_nothing}
use Rattle.plain_loads.proofs.trying.TableTrial.no_keys.Goals as goal

pub returns : goal.returns
returns c = IfOk-weaker c.new.result _ _ (λ keys none. seen_nothing c.args.self.now keys none) c.new.ensures

use Rattle.std.proofs.Common.{IfOk, subst}
use Rattle.cat_model.specs.Values.{Named}
use Rattle.cat_same.specs.Verdicts.{IsVerdict}
use Rattle.openings.specs.Openings.{export_named}
use Rattle.dump_tools.proofs.tools.compare.Goals as goal

pub returns : goal.returns
returns c =
    subst (λ (b : Named). IfOk c.compare_maps.result (λ verdict. IsVerdict (export_named c.args.one.now) b verdict)) c.named-2.ensures
    (subst (λ (a : Named). IfOk c.compare_maps.result (λ verdict. IsVerdict a c.named-2.result.now verdict)) c.named.ensures c.compare_maps.ensures)

use Rattle.std.proofs.Common.{subst}
use Rattle.std.proofs.lemmas.Result.{IfOk-weaker}
use Rattle.cat_model.specs.Values.{Named}
use Rattle.cat_naming.specs.Entries.{catalogue_named}
use Rattle.cat_naming.specs.Texts.{rows_by_oid}
use Rattle.cat_same.specs.Verdicts.{IsVerdict}
use Rattle.cat_same.proofs.compare.same.Goals as goal

pub returns : goal.returns
returns c = IfOk-weaker c.compare_maps.result _ _
    (λ verdict h. subst (λ (a : Named). IsVerdict a (catalogue_named c.args.b.now (rows_by_oid c.args.b_rows.now)) verdict) c.in_ok-of_a.ensures
    (subst (λ (b : Named). IsVerdict c.in_ok-of_a.of_a b verdict) c.in_ok-of_b.ensures h))
    c.compare_maps.ensures

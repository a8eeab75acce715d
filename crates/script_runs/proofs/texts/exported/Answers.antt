use Rattle.std.proofs.Common.{◌≡◌, None, IfOk, IfSome, subst}
use Rattle.cat_rows.specs.declared.catalogue.Catalogue.{Catalogue}
use Rattle.opening_written.specs.Export.{CanBeExported, IsExported}
use Rattle.script_runs.specs.Writing.{NoOidIsLeft}
use Rattle.script_runs.proofs.texts.exported.Goals as goal

pub returns-clause-made : goal.returns-clause-made
returns-clause-made c =
    let a = c.args in
    subst (λ (o : Catalogue). IfOk c.looked_up_export.result (λ made. IfSome made (λ out. CanBeExported o a.named.now → IsExported o a.named.now a.current.now out.catalogue out.rows))) c.in_ok-opening.ensures c.looked_up_export.ensures.made

pub returns-clause-left : goal.returns-clause-left
returns-clause-left c = subst (λ (o : Catalogue). IfOk c.looked_up_export.result (λ made. made ≡ None → NoOidIsLeft o)) c.in_ok-opening.ensures c.looked_up_export.ensures.left

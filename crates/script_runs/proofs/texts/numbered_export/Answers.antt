use Rattle.std.proofs.Common.{◌≡◌, None, IfOk, IfSome, ap, sym, subst, ◌∙◌}
use Rattle.cat_rows.specs.declared.catalogue.Catalogue.{Catalogue}
use Rattle.opening_ids.specs.Opening.{opening_ids}
use Rattle.opening_written.specs.Export.{CanBeExported, IsExported}
use Rattle.script_runs.specs.Writing.{NoOidIsLeft}
use Rattle.script_runs.proofs.Exported.{made_by, left_by}
use Rattle.script_runs.proofs.texts.numbered_export.Goals as goal

pub returns-clause-made : goal.returns-clause-made
returns-clause-made c =
    let a = c.args in
    subst (λ (o : Catalogue). IfOk c.export.result (λ made. IfSome made (λ out. CanBeExported o a.named.now → IsExported o a.named.now a.current.now out.catalogue out.rows))) c.tables.ensures
    (made_by c.tables.result.now a.named.now c.in_ok-ids.ids c.export.new.ids a.numbers.now a.current.now c.export.result (c.in_ok-ids.ensures ∙ ap opening_ids (sym c.tables.ensures))
    c.export.ensures.stand c.export.ensures.rows c.export.ensures.kept c.export.ensures.unused)

pub returns-clause-left : goal.returns-clause-left
returns-clause-left c =
    subst (λ (o : Catalogue). IfOk c.export.result (λ made. made ≡ None → NoOidIsLeft o)) c.tables.ensures
    (left_by c.tables.result.now c.in_ok-ids.ids c.export.new.ids c.export.result (c.in_ok-ids.ensures ∙ ap opening_ids (sym c.tables.ensures)) c.export.ensures.left c.export.ensures.kept c.export.ensures.unused)

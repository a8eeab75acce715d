use Rattle.std.proofs.Common.{◌≡◌, ◌++◌, List, [], ap, ◌∙◌}
use Rattle.cat_rows.specs.declared.catalogue.Catalogue.{Catalogue}
use Rattle.cat_rows.specs.declared.notes.DependRow.{DependRow}
use Rattle.cat_rows.specs.declared.relations.AttributeRow.{AttributeRow}
use Rattle.whole_export.specs.Made.{other_columns, catalogue_with}
use Rattle.whole_export.proofs.catalogues.joined.Goals as goal

pub returns : goal.returns
returns c =
    let cluster = c.args.cluster in
    let made = c.args.objects in
    let parts = c.args.parts in
    let opening = c.args.opening.now in
    let depends : c.in_ok-depends.depends ≡ opening.pg_depend = c.in_ok-depends.ensures ∙ c.as_slice.ensures in
    let joined : c.assembled-cat.result ≡ catalogue_with cluster made.types made.labels made.relations parts [] opening.pg_depend =
    c.assembled-cat.ensures ∙ ap (λ (ds : List DependRow). catalogue_with cluster made.types made.labels made.relations parts [] ds) depends in
    c.in_ok-with_columns.ensures
    ∙ ap (λ (x : Catalogue). record x { pg_attribute = made.columns ++ other_columns x.pg_class c.as_slice-others.result.now }) joined
    ∙ ap (λ (os : List AttributeRow). catalogue_with cluster made.types made.labels made.relations parts (made.columns ++ other_columns made.relations os) opening.pg_depend) c.as_slice-others.ensures

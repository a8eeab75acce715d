use Rattle.std.proofs.Common.{Option, Some, None, option_map, subst, ap, ◌∙◌}
use Rattle.std.specs.FinMap.{get}
use Rattle.cat_model.specs.declared.object.QName.{QName}
use Rattle.cat_model.specs.declared.object.Object.TheVariants as object
use Rattle.cat_model.specs.declared.key.Key.TheVariants as key
use Rattle.cat_model.specs.declared.value.Value.TheVariants as value
use Rattle.cat_model.specs.Values.{Bytes}
use Rattle.cluster_loops.specs.Ids.{of_keys}
use Rattle.map_export.specs.Making.{IsRowOf}
use Rattle.map_export.specs.Things.{owner_of}
use Rattle.object_rows.specs.Relations.{IsRelationRow}
use Rattle.cluster_loops.proofs.Owned.{owner_given}
use Rattle.relation_loops.specs.Wholes.{relation_of}
use Rattle.relation_loops.proofs.relations.named_index.Goals as goal

pub returns-in_ok-index_row-in-Some : goal.returns-in_ok-index_row-in-Some
returns-in_ok-index_row-in-Some c =
    let table = c.args.table.now in
    let owner = c.in-Some.ensures ∙ ap (λ (q : QName). owner_of c.args.named.now (object.Relation q)) c.in_ok-clone.ensures.cases in
    subst (λ (o : Option Bytes). IsRowOf (IsRelationRow c.args.named.now (of_keys c.args.ids.now)) (option_map (λ (owner : Bytes). relation_of c.args.path.now (value.IndexOf table)) o) (Some c.in_ok-index_row-in-Some.field-0)) owner
    (c.in_ok-index_row-in-Some.ensures c.args.named.now table (owner_given (get c.args.named.now (key.Owner (object.Relation table))) c.in-Some.owner.now owner))

pub returns-in-None : goal.returns-in-None
returns-in-None c =
    let owner = c.in-None.ensures ∙ ap (λ (q : QName). owner_of c.args.named.now (object.Relation q)) c.in_ok-clone.ensures.cases in
    subst (λ (o : Option Bytes). IsRowOf (IsRelationRow c.args.named.now (of_keys c.args.ids.now)) (option_map (λ (owner : Bytes). relation_of c.args.path.now (value.IndexOf c.args.table.now)) o) None) owner tt

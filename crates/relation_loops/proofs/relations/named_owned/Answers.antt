use Rattle.std.proofs.Common.{ap, ◌∙◌}
use Rattle.cat_model.specs.declared.object.QName.{QName}
use Rattle.cat_model.specs.declared.object.Object.TheVariants as object
use Rattle.cat_model.specs.Values.{Bytes, Grants}
use Rattle.cluster_loops.specs.Ids.{of_keys}
use Rattle.map_export.specs.Things.{owner_of, grants_on}
use Rattle.object_rows.specs.Relations.{IsRelationRow}
use Rattle.cluster_loops.proofs.Owned.{no_owner}
use Rattle.relation_loops.specs.Wholes.{is_owned, relation_of}
use Rattle.relation_loops.proofs.relations.named_owned.Goals as goal

pub returns-in_ok-granted_relation-in-Some : goal.returns-in_ok-granted_relation-in-Some
returns-in_ok-granted_relation-in-Some c =
    c.in_ok-granted_relation-in-Some.ensures (c.in-Some.ensures ∙ ap (λ (q : QName). owner_of c.args.named.now (object.Relation q)) c.in_ok-clone.ensures.cases)

pub returns-in-None : goal.returns-in-None
returns-in-None c =
    no_owner (IsRelationRow c.args.named.now (of_keys c.args.ids.now)) (λ (owner : Bytes) (grants : Grants). relation_of c.args.path.now c.args.value.now) (owner_of c.args.named.now (object.Relation c.args.path.now)) (grants_on c.args.named.now (object.Relation c.args.path.now)) (is_owned c.args.value.now) (c.in-None.ensures ∙ ap (λ (q : QName). owner_of c.args.named.now (object.Relation q)) c.in_ok-clone.ensures.cases)

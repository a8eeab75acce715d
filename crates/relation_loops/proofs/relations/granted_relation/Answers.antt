use Rattle.std.proofs.Common.{ap, ◌∙◌}
use Rattle.std.specs.FinMap.{get}
use Rattle.cat_model.specs.declared.object.QName.{QName}
use Rattle.cat_model.specs.declared.object.Object.TheVariants as object
use Rattle.cat_model.specs.declared.key.Key.TheVariants as key
use Rattle.cat_model.specs.Values.{Bytes, Grants}
use Rattle.cluster_loops.specs.Ids.{of_keys}
use Rattle.map_export.specs.Things.{owner_of, grants_on}
use Rattle.object_rows.specs.Relations.{IsRelationRow}
use Rattle.cluster_loops.proofs.Owned.{both_said, no_grants, owner_given, grants_given}
use Rattle.relation_loops.specs.Wholes.{is_owned, relation_of}
use Rattle.relation_loops.proofs.relations.granted_relation.Goals as goal

pub returns-in_ok-owned_row-in-Some : goal.returns-in_ok-owned_row-in-Some
returns-in_ok-owned_row-in-Some c = λ owned.
    let grants = c.in-Some.ensures ∙ ap (λ (q : QName). grants_on c.args.named.now (object.Relation q)) c.in_ok-clone.ensures.cases in
    both_said (IsRelationRow c.args.named.now (of_keys c.args.ids.now)) (λ (owner : Bytes) (grants : Grants). relation_of c.args.path.now c.args.value.now) (owner_of c.args.named.now (object.Relation c.args.path.now)) (grants_on c.args.named.now (object.Relation c.args.path.now)) (is_owned c.args.value.now) c.args.owner.now c.in-Some.grants.now c.in_ok-owned_row-in-Some.field-0 owned grants
    (c.in_ok-owned_row-in-Some.ensures c.args.named.now
    (owner_given (get c.args.named.now (key.Owner (object.Relation c.args.path.now))) c.args.owner.now owned)
    (grants_given (get c.args.named.now (key.Acl (object.Relation c.args.path.now))) c.in-Some.grants.now grants))

pub returns-in-None : goal.returns-in-None
returns-in-None c = λ owned.
    no_grants (IsRelationRow c.args.named.now (of_keys c.args.ids.now)) (λ (owner : Bytes) (grants : Grants). relation_of c.args.path.now c.args.value.now) (owner_of c.args.named.now (object.Relation c.args.path.now)) (grants_on c.args.named.now (object.Relation c.args.path.now)) (is_owned c.args.value.now) (c.in-None.ensures ∙ ap (λ (q : QName). grants_on c.args.named.now (object.Relation q)) c.in_ok-clone.ensures.cases)

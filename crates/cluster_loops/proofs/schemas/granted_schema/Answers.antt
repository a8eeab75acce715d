use Rattle.std.proofs.Common.{Some, true, ap, ◌∙◌}
use Rattle.cat_model.specs.declared.object.Object.TheVariants as object
use Rattle.cat_model.specs.Values.{Bytes, Grants}
use Rattle.entry_ids.specs.Ids.{of_keys}
use Rattle.map_export.specs.Things.{owner_of, grants_on}
use Rattle.named_tables.specs.Cluster.{IsSchemaRow}
use Rattle.cluster_loops.proofs.Owned.{both_said, no_grants}
use Rattle.cluster_loops.proofs.schemas.granted_schema.Goals as goal

pub returns-in_ok-owned_row-in-Some : goal.returns-in_ok-owned_row-in-Some
returns-in_ok-owned_row-in-Some c = λ owned.
    let grants = c.in-Some.ensures ∙ ap (λ (n : Bytes). grants_on c.args.named.now (object.Schema n)) c.in_ok-clone.ensures.cases in
    both_said (IsSchemaRow (of_keys c.args.ids.now)) (λ (owner : Bytes) (grants : Grants). record { name = c.args.name.now; owner = owner; grants = grants }) (owner_of c.args.named.now (object.Schema c.args.name.now)) (grants_on c.args.named.now (object.Schema c.args.name.now)) true c.args.owner.now c.in-Some.grants.now (Some c.in_ok-owned_row-in-Some.field-0) owned grants c.in_ok-owned_row-in-Some.ensures

pub returns-in-None : goal.returns-in-None
returns-in-None c = λ owned.
    let grants = c.in-None.ensures ∙ ap (λ (n : Bytes). grants_on c.args.named.now (object.Schema n)) c.in_ok-clone.ensures.cases in
    no_grants (IsSchemaRow (of_keys c.args.ids.now)) (λ (owner : Bytes) (grants : Grants). record { name = c.args.name.now; owner = owner; grants = grants }) (owner_of c.args.named.now (object.Schema c.args.name.now)) (grants_on c.args.named.now (object.Schema c.args.name.now)) true grants

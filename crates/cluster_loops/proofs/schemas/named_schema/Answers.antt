use Rattle.std.proofs.Common.{true, ap, ◌∙◌}
use Rattle.cat_model.specs.declared.object.Object.TheVariants as object
use Rattle.cat_model.specs.Values.{Bytes, Grants}
use Rattle.entry_ids.specs.Ids.{of_keys}
use Rattle.map_export.specs.Things.{owner_of, grants_on}
use Rattle.named_tables.specs.Cluster.{IsSchemaRow}
use Rattle.cluster_loops.proofs.Owned.{no_owner}
use Rattle.cluster_loops.proofs.schemas.named_schema.Goals as goal

pub returns-in_ok-granted_schema-in-Some : goal.returns-in_ok-granted_schema-in-Some
returns-in_ok-granted_schema-in-Some c =
    c.in_ok-granted_schema-in-Some.ensures (c.in-Some.ensures ∙ ap (λ (n : Bytes). owner_of c.args.named.now (object.Schema n)) c.in_ok-clone.ensures.cases)

pub returns-in-None : goal.returns-in-None
returns-in-None c =
    no_owner (IsSchemaRow (of_keys c.args.ids.now)) (λ (owner : Bytes) (grants : Grants). record { name = c.args.name.now; owner = owner; grants = grants }) (owner_of c.args.named.now (object.Schema c.args.name.now)) (grants_on c.args.named.now (object.Schema c.args.name.now)) true (c.in-None.ensures ∙ ap (λ (n : Bytes). owner_of c.args.named.now (object.Schema n)) c.in_ok-clone.ensures.cases)

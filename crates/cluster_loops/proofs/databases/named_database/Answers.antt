use Rattle.std.proofs.Common.{◌≡◌, Option, Some, None, option_map, subst, ap, ◌∙◌}
use Rattle.cat_model.specs.declared.object.Object.TheVariants as object
use Rattle.cat_model.specs.Values.{Bytes}
use Rattle.entry_ids.specs.Ids.{of_keys}
use Rattle.map_export.specs.Making.{IsRowOf}
use Rattle.map_export.specs.Things.{owner_of}
use Rattle.named_tables.specs.Cluster.{NamedDatabase, database_row}
use Rattle.cluster_loops.proofs.databases.named_database.Goals as goal

pub returns-in_ok-owned_row-in-Some : goal.returns-in_ok-owned_row-in-Some
returns-in_ok-owned_row-in-Some c =
    let owner = c.in-Some.ensures ∙ ap (λ (n : Bytes). owner_of c.args.named.now (object.Database n)) c.in_ok-clone.ensures.cases in
    subst (λ (o : Option Bytes). IsRowOf (λ (d : NamedDatabase) row. row ≡ database_row (of_keys c.args.ids.now) c.args.current.now d) (option_map (λ (owner : Bytes). record { name = c.args.name.now; owner = owner }) o) (Some c.in_ok-owned_row-in-Some.field-0)) owner c.in_ok-owned_row-in-Some.ensures

pub returns-in-None : goal.returns-in-None
returns-in-None c =
    let owner = c.in-None.ensures ∙ ap (λ (n : Bytes). owner_of c.args.named.now (object.Database n)) c.in_ok-clone.ensures.cases in
    subst (λ (o : Option Bytes). IsRowOf (λ (d : NamedDatabase) row. row ≡ database_row (of_keys c.args.ids.now) c.args.current.now d) (option_map (λ (owner : Bytes). record { name = c.args.name.now; owner = owner }) o) None) owner tt

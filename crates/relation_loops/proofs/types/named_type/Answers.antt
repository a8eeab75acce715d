use Rattle.std.proofs.Common.{ap, ◌∙◌}
use Rattle.cat_model.specs.declared.object.QName.{QName}
use Rattle.cat_model.specs.declared.object.Object.TheVariants as object
use Rattle.cluster_loops.specs.Ids.{of_keys}
use Rattle.map_export.specs.Things.{owner_of, grants_on}
use Rattle.object_rows.specs.Types.{IsTypeRow}
use Rattle.cluster_loops.proofs.Owned.{no_owner}
use Rattle.relation_loops.specs.Wholes.{is_type, type_with}
use Rattle.relation_loops.proofs.types.named_type.Goals as goal

pub returns-in_ok-granted_type-in-Some : goal.returns-in_ok-granted_type-in-Some
returns-in_ok-granted_type-in-Some c = λ fits.
    c.in_ok-granted_type-in-Some.ensures (c.in-Some.ensures ∙ ap (λ (q : QName). owner_of c.args.named.now (object.Type q)) c.in_ok-clone.ensures.cases) fits

pub returns-in-None : goal.returns-in-None
returns-in-None c = λ fits.
    no_owner (IsTypeRow (of_keys c.args.ids.now)) (type_with c.args.path.now c.args.value.now) (owner_of c.args.named.now (object.Type c.args.path.now)) (grants_on c.args.named.now (object.Type c.args.path.now)) (is_type c.args.value.now) (c.in-None.ensures ∙ ap (λ (q : QName). owner_of c.args.named.now (object.Type q)) c.in_ok-clone.ensures.cases)

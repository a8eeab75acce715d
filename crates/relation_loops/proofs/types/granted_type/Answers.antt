use Rattle.std.proofs.Common.{ap, ◌∙◌}
use Rattle.cat_model.specs.declared.object.QName.{QName}
use Rattle.cat_model.specs.declared.object.Object.TheVariants as object
use Rattle.cluster_loops.specs.Ids.{of_keys}
use Rattle.map_export.specs.Things.{owner_of, grants_on}
use Rattle.object_rows.specs.Types.{IsTypeRow}
use Rattle.cluster_loops.proofs.Owned.{both_said, no_grants}
use Rattle.relation_loops.specs.Wholes.{is_type, type_with}
use Rattle.relation_loops.proofs.types.granted_type.Goals as goal

pub returns-in_ok-owned_row-in-Some : goal.returns-in_ok-owned_row-in-Some
returns-in_ok-owned_row-in-Some c = λ owned fits.
    let grants = c.in-Some.ensures ∙ ap (λ (q : QName). grants_on c.args.named.now (object.Type q)) c.in_ok-clone.ensures.cases in
    both_said (IsTypeRow (of_keys c.args.ids.now)) (type_with c.args.path.now c.args.value.now) (owner_of c.args.named.now (object.Type c.args.path.now)) (grants_on c.args.named.now (object.Type c.args.path.now)) (is_type c.args.value.now) c.args.owner.now c.in-Some.grants.now c.in_ok-owned_row-in-Some.field-0 owned grants (c.in_ok-owned_row-in-Some.ensures fits)

pub returns-in-None : goal.returns-in-None
returns-in-None c = λ owned fits.
    no_grants (IsTypeRow (of_keys c.args.ids.now)) (type_with c.args.path.now c.args.value.now) (owner_of c.args.named.now (object.Type c.args.path.now)) (grants_on c.args.named.now (object.Type c.args.path.now)) (is_type c.args.value.now) (c.in-None.ensures ∙ ap (λ (q : QName). grants_on c.args.named.now (object.Type q)) c.in_ok-clone.ensures.cases)

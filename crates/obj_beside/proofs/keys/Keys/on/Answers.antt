use Rattle.std.proofs.Common.{◌≡◌, ◌&&◌, Bool, false, cond, Some, None, filter_map, option_and_then, ap, ◌∙◌}
use Rattle.std.specs.List.{slice_get}
use Rattle.cat_model.specs.Tables.{same_set}
use Rattle.oid_groups.specs.Groups.{same_oid, group_of}
use Rattle.obj_graph.specs.declared.key_of.KeyOf.{KeyOf}
use Rattle.obj_graph.specs.ConstraintLinks.{key_on}
use Rattle.obj_beside.proofs.Grouped.{found_in_group}
use Rattle.obj_beside.proofs.keys.Keys.on.Goals as goal

pub returns : goal.returns
returns c =
    let table = c.args.table in
    let names = c.args.names.now in
    let keys = c.self.inside.keys.items in
    let apart : (k : KeyOf) → same_oid table k.table ≡ false → key_on table names k ≡ None = λ k is. ap (λ (b : Bool). cond (b && same_set names k.columns) (Some k.id) None) is in
    c.in_ok-ids.ensures
    ∙ ap (λ ks. filter_map (λ place. option_and_then (key_on table names) (slice_get ks place)) c.group.result.now) c.deref.ensures.value
    ∙ ap (filter_map (λ place. option_and_then (key_on table names) (slice_get keys place))) (c.group.ensures ∙ ap (λ gs. group_of gs table) c.self.invariant)
    ∙ found_in_group table keys (key_on table names) apart
    ∙ ap (filter_map (key_on table names)) c.self.view_is

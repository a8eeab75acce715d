use Rattle.std.proofs.Common.{◌≡◌, ap, ◌∙◌}
use Rattle.obj_graph.specs.ConstraintLinks.{constraint_links, index_links}
use Rattle.obj_graph.specs.RelationLinks.{sequence_links, view_links}
use Rattle.obj_graph.specs.DependLinks.{depend_links}
use Rattle.obj_graph.specs.Graphs.{other_links}
use Rattle.obj_links.proofs.Appended.{first, behind}
use Rattle.obj_links.proofs.graph.add_other_links.Goals as goal

pub returns : goal.returns
unfolding other_links
returns c =
    let cat = c.args.beside.now in
    let tables : c.tables-tables.result.now ≡ cat = c.tables-tables.ensures ∙ c.book.ensures in
    let to_constraint = first (constraint_links cat) _ _ _ _ c.in_ok-add_all.ensures (c.as_slice.ensures ∙ ap (λ k. k.pg_constraint) tables) in
    let to_index = behind index_links _ _ _ _ _ _ to_constraint c.in_ok-add_all-2.ensures (c.as_slice-2.ensures ∙ ap (λ k. k.pg_index) tables) in
    let to_sequence = behind sequence_links _ _ _ _ _ _ to_index c.in_ok-add_all-3.ensures (c.as_slice-3.ensures ∙ ap (λ k. k.pg_sequence) tables) in
    let to_rewrite = behind (view_links cat) _ _ _ _ _ _ to_sequence c.in_ok-add_all-4.ensures (c.as_slice-4.ensures ∙ ap (λ k. k.pg_rewrite) tables) in
    behind (depend_links cat) _ _ _ _ _ _ to_rewrite c.in_ok-add_all-5.ensures (c.as_slice-5.ensures ∙ ap (λ k. k.pg_depend) tables)

use Rattle.std.proofs.Common.{◌≡◌, ap, ◌∙◌}
use Rattle.obj_graph.specs.TypeLinks.{type_links}
use Rattle.obj_graph.specs.RelationLinks.{class_links, column_links, default_links}
use Rattle.obj_graph.specs.Graphs.{holder_links}
use Rattle.obj_links.proofs.Appended.{first, behind}
use Rattle.obj_links.proofs.graph.add_holder_links.Goals as goal

pub returns : goal.returns
unfolding holder_links
returns c =
    let cat = c.args.beside.now in
    let tables : c.tables-tables.result.now ≡ cat = c.tables-tables.ensures ∙ c.book.ensures in
    let to_type = first (type_links cat) _ _ _ _ c.in_ok-add_all.ensures (c.as_slice.ensures ∙ ap (λ k. k.pg_type) tables) in
    let to_class = behind class_links _ _ _ _ _ _ to_type c.in_ok-add_all-2.ensures (c.as_slice-2.ensures ∙ ap (λ k. k.pg_class) tables) in
    let to_attribute = behind column_links _ _ _ _ _ _ to_class c.in_ok-add_all-3.ensures (c.as_slice-3.ensures ∙ ap (λ k. k.pg_attribute) tables) in
    behind (default_links cat) _ _ _ _ _ _ to_attribute c.in_ok-add_all-4.ensures (c.as_slice-4.ensures ∙ ap (λ k. k.pg_attrdef) tables)

use Rattle.std.proofs.Common.{◌≡◌, ℕ, map, Bor, ap, subst, ◌∙◌, rules}
use Rattle.std.specs.List.{filter}
use Rattle.std.specs.Ordering.{nat_cmp}
use Rattle.cat_rows.specs.declared.constraints.ConstraintRow.{ConstraintRow}
use Rattle.cat_book.specs.Leads.{is_key}
use Rattle.graph_parts.specs.declared.object.ObjId.{ObjId}
use Rattle.obj_beside.specs.Firsts.{AreFirsts}
use Rattle.obj_graph.specs.Ids.{constraint_id}
use Rattle.obj_graph.specs.Links.{key_ends, relation_ends, type_ends}
use Rattle.obj_beside.proofs.Rows.{map_through}
use Rattle.obj_beside.proofs.beside.ends_of.Goals as goal

pub relation_ends-requires : goal.relation_ends-requires
unfolding key_ends
relation_ends-requires c =
    let now : Bor ConstraintRow → ConstraintRow = λ r. r.now in
    let end : ConstraintRow → ℕ × ObjId = λ r. (r.conindid, constraint_id r.oid) in
    let held : Bor ConstraintRow → ℕ × ObjId = λ r. end (now r) in
    let rows : map now c.in_ok-rows.rows.items ≡ filter is_key c.args.book.now.pg_constraint = search rules in
    subst (AreFirsts nat_cmp c.in_ok-keys.keys) (ap (map held) c.deref.ensures.value ∙ map_through now end c.in_ok-rows.rows.items ∙ ap (map end) rows) c.in_ok-keys.ensures

pub returns : goal.returns
unfolding key_ends relation_ends type_ends
returns c =
    let now : Bor ConstraintRow → ConstraintRow = λ r. r.now in
    let end : ConstraintRow → ℕ × ObjId = λ r. (r.conindid, constraint_id r.oid) in
    let held : Bor ConstraintRow → ℕ × ObjId = λ r. end (now r) in
    let rows : map now c.in_ok-rows.rows.items ≡ filter is_key c.args.book.now.pg_constraint = search rules in record {
      keys = subst (AreFirsts nat_cmp c.in_ok-keys.keys) (ap (map held) c.deref.ensures.value ∙ map_through now end c.in_ok-rows.rows.items ∙ ap (map end) rows) c.in_ok-keys.ensures;
      relations = search rules;
      types = search rules;
    }

use Rattle.std.proofs.Common.{rules, ◌≡◌, ◌∙◌, sym, List, [], ◌++◌, map}
use Rattle.std.proofs.lemmas.List.{nil_from_length}
use Rattle.std.specs.Vec.Iter.{into_iter_items}
use Rattle.cat_rows.specs.RowCells.{namespace_cells}
use Rattle.cat_rows.specs.declared.cell.Cell.{Cell}
use Rattle.schema_folders.specs.declared.schemas.SchemaRow.{SchemaRow}
use Rattle.schema_folders.specs.Folder.{cells_of_row}
use Rattle.schema_folders.proofs.namespaces.rows_text.Goals as goal

append_none : (xs : List (List Cell)) (left : List SchemaRow) → left ≡ [] → xs ≡ xs ++ map cells_of_row left
append_none xs left none = search (rules, none)

-- all rows are in the catalogue whose text was written
pub returns : goal.returns
returns c =
    let none : into_iter_items c.rows.left ≡ [] = search (rules, nil_from_length) in
    let e : map namespace_cells c.rows.catalogue.pg_namespace ≡ map cells_of_row c.args.rows.items = append_none (map namespace_cells c.rows.catalogue.pg_namespace) (into_iter_items c.rows.left) none ∙ c.rows.invariant in
    let w = c.in_ok-write_table.ensures.ok in
    (w.0, rw (sym e) (rw (sym c.new-text.ensures.items) w.1))

use Rattle.std.proofs.Common.{◌≡◌, Bool, ◌&&◌, Option, Some, sym, ap, ◌∙◌}
use Rattle.std.specs.Option.{option_map}
use Rattle.cat_rows.specs.declared.schemas.NamespaceRow.{NamespaceRow}
use Rattle.cat_names.specs.Kinds.{relation_kind, is_table}
use Rattle.cat_book.specs.Paths.{class_path}
use Rattle.rows_named.specs.Tables.{at_path}
use Rattle.plain_loads.proofs.parents.is_table_at.Goals as goal

pub returns-then-is_path : goal.returns-then-is_path
returns-then-is_path c =
    let path = c.args.path.now in
    let row = c.args.row.now in
    let at : at_path path (class_path c.args.book.now.pg_namespace row) ≡ c.is_path.result =
    ap (λ (o : Option NamespaceRow). at_path path (option_map (λ s. record { schema = s.nspname; name = row.relname }) o)) (sym c.schema_of.ensures) ∙ sym c.is_path.ensures in
    c.is_table.ensures ∙ ap (λ (b : Bool). b && is_table (Some (relation_kind row.relkind))) (sym (at ∙ c.if-is_path.true))

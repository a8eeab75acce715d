-- The schemas of a folder that is read as an opening.
use Rattle.std.specs.Prelude.{◌≡◌, List, true, false}
use Rattle.std.specs.List.{AllByRecursion, IsDistinct}
use Rattle.std.specs.Ordering.{nat_cmp, eq_by_cmp}
use Rattle.copy_text.specs.Texts.{IsName}
use Rattle.cat_model.specs.References.{is_system}
use Rattle.cat_model.specs.Values.{bytes_cmp}
use Rattle.cat_names.specs.Lookups.{is_no_oid}
use Rattle.schema_folders.specs.Folder.{has_public}
use Rattle.schema_folders.specs.declared.schemas.SchemaRow.{SchemaRow}

-- each has an oid and a name that isn't one of the system's own, and no two have the same
pub record AreSchemas (rows : List SchemaRow) : Type 0 where
  pub ids : AllByRecursion (λ row. is_no_oid row.oid ≡ false) rows
  pub users : AllByRecursion (λ row. is_system row.name ≡ false) rows
  pub oids : IsDistinct (λ a b. eq_by_cmp nat_cmp a.oid b.oid) rows
  pub names : IsDistinct (λ a b. eq_by_cmp bytes_cmp a.name b.name) rows

-- they were read, so that their names are names, and public is among them
pub record WereRead (rows : List SchemaRow) : Type 0 where
  pub schemas : AreSchemas rows
  pub named : AllByRecursion (λ row. IsName row.name) rows
  pub public : has_public rows ≡ true

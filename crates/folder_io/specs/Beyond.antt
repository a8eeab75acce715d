-- Rows beyond those of roles, databases and schemas.
use Rattle.std.specs.Prelude.{Bool, true, false, List, [], ◌∷◌}
use Rattle.std.specs.List.{list_any}
use Rattle.cat_rows.specs.declared.table.SysTable.{SysTable}
use Rattle.cat_rows.specs.declared.table.SysTable.TheVariants.{PgType, PgEnum, PgClass, PgAttribute, PgAttrdef, PgConstraint, PgIndex, PgSequence, PgRewrite, PgDescription, PgDepend}
use Rattle.cat_rows.specs.declared.catalogue.Catalogue.{Catalogue}
use Rattle.cat_rows.specs.Catalogues.{rows_in}

-- the tables other than pg_authid, pg_auth_members, pg_database and pg_namespace
abbrev pub further_tables : List SysTable
further_tables = PgType ∷ PgEnum ∷ PgClass ∷ PgAttribute ∷ PgAttrdef ∷ PgConstraint ∷ PgIndex ∷ PgSequence ∷ PgRewrite ∷ PgDescription ∷ PgDepend ∷ []

abbrev pub has_one : {A : Type 0} → List A → Bool
has_one [] = false
has_one (x ∷ xs) = true

-- one of them has a row
abbrev pub has_rows_beyond : Catalogue → Bool
has_rows_beyond cat = list_any (λ table. has_one (rows_in table cat)) further_tables

-- The catalogue as the rows of its tables.
use Rattle.std.specs.Prelude.{◌≡◌, List, [], map}
use Rattle.cat_rows.specs.declared.table.SysTable.{SysTable}
use Rattle.cat_rows.specs.declared.table.SysTable.TheVariants.{PgAuthid, PgAuthMembers, PgDatabase, PgNamespace, PgType, PgEnum, PgClass, PgAttribute, PgAttrdef, PgConstraint, PgIndex, PgSequence, PgRewrite, PgDescription, PgDepend}
use Rattle.cat_rows.specs.declared.cell.Cell.{Cell}
use Rattle.cat_rows.specs.declared.catalogue.Catalogue.{Catalogue}
use Rattle.cat_rows.specs.RowCells.{authid_cells, auth_members_cells, database_cells, namespace_cells, type_cells, enum_cells, class_cells, attribute_cells, attrdef_cells, constraint_cells, index_cells, sequence_cells, rewrite_cells, description_cells, depend_cells}

-- the rows of a table as lists of cells
abbrev pub rows_in : SysTable → Catalogue → List (List Cell)
rows_in PgAuthid cat = map authid_cells cat.pg_authid
rows_in PgAuthMembers cat = map auth_members_cells cat.pg_auth_members
rows_in PgDatabase cat = map database_cells cat.pg_database
rows_in PgNamespace cat = map namespace_cells cat.pg_namespace
rows_in PgType cat = map type_cells cat.pg_type
rows_in PgEnum cat = map enum_cells cat.pg_enum
rows_in PgClass cat = map class_cells cat.pg_class
rows_in PgAttribute cat = map attribute_cells cat.pg_attribute
rows_in PgAttrdef cat = map attrdef_cells cat.pg_attrdef
rows_in PgConstraint cat = map constraint_cells cat.pg_constraint
rows_in PgIndex cat = map index_cells cat.pg_index
rows_in PgSequence cat = map sequence_cells cat.pg_sequence
rows_in PgRewrite cat = map rewrite_cells cat.pg_rewrite
rows_in PgDescription cat = map description_cells cat.pg_description
rows_in PgDepend cat = map depend_cells cat.pg_depend

-- the catalogue without rows
abbrev pub no_rows : Catalogue
no_rows = record {
  pg_authid = [];
  pg_auth_members = [];
  pg_database = [];
  pg_namespace = [];
  pg_type = [];
  pg_enum = [];
  pg_class = [];
  pg_attribute = [];
  pg_attrdef = [];
  pg_constraint = [];
  pg_index = [];
  pg_sequence = [];
  pg_rewrite = [];
  pg_description = [];
  pg_depend = [];
}

-- the catalogues differ at most in one table
abbrev pub SameBut : SysTable → Catalogue → Catalogue → Type 0
SameBut PgAuthid old new = new ≡ record old { pg_authid = new.pg_authid }
SameBut PgAuthMembers old new = new ≡ record old { pg_auth_members = new.pg_auth_members }
SameBut PgDatabase old new = new ≡ record old { pg_database = new.pg_database }
SameBut PgNamespace old new = new ≡ record old { pg_namespace = new.pg_namespace }
SameBut PgType old new = new ≡ record old { pg_type = new.pg_type }
SameBut PgEnum old new = new ≡ record old { pg_enum = new.pg_enum }
SameBut PgClass old new = new ≡ record old { pg_class = new.pg_class }
SameBut PgAttribute old new = new ≡ record old { pg_attribute = new.pg_attribute }
SameBut PgAttrdef old new = new ≡ record old { pg_attrdef = new.pg_attrdef }
SameBut PgConstraint old new = new ≡ record old { pg_constraint = new.pg_constraint }
SameBut PgIndex old new = new ≡ record old { pg_index = new.pg_index }
SameBut PgSequence old new = new ≡ record old { pg_sequence = new.pg_sequence }
SameBut PgRewrite old new = new ≡ record old { pg_rewrite = new.pg_rewrite }
SameBut PgDescription old new = new ≡ record old { pg_description = new.pg_description }
SameBut PgDepend old new = new ≡ record old { pg_depend = new.pg_depend }

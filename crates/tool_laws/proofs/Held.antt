-- The rows of an opening are such as tables hold.
use Rattle.std.proofs.Common.{◌≡◌, ℕ, List, [], ◌∷◌, map, Some, Ok, refl, subst, ◌∙◌}
use Rattle.std.specs.Fmt.{digits}
use Rattle.std.specs.List.{AllByRecursion}
use Rattle.std.specs.Str.{is_utf8, chars}
use Rattle.std.proofs.Math.Utf8.{encode}
use Rattle.copy_text.specs.Lines.{lines}
use Rattle.copy_text.specs.Pieces.{pieces_after, ends_escaping}
use Rattle.copy_text.specs.Escapes.{decode_behind, escape}
use Rattle.copy_text.specs.Reading.{row_of, fields_of, field_of}
use Rattle.dump_ports.specs.Tree.{Tree}
use Rattle.cat_rows.specs.declared.catalogue.Catalogue.{Catalogue}
use Rattle.cat_rows.specs.declared.cell.Cell.{Cell}
use Rattle.cat_rows.specs.declared.cell.Cell.TheVariants as cell
use Rattle.cat_rows.specs.declared.schemas.NamespaceRow.{NamespaceRow}
use Rattle.cat_rows.specs.declared.table.SysTable.{SysTable}
use Rattle.cat_rows.specs.declared.table.SysTable.TheVariants.{PgAuthid, PgAuthMembers, PgDatabase, PgNamespace, PgType, PgEnum, PgClass, PgAttribute, PgAttrdef, PgConstraint, PgIndex, PgSequence, PgRewrite, PgDescription, PgDepend}
use Rattle.cat_rows.specs.Catalogues.{rows_in}
use Rattle.cat_rows.specs.Numbers.{oid_of, int_of}
use Rattle.cat_rows.specs.Cells.{cell_of}
use Rattle.cat_rows.specs.Reading.{cell_at, cells_at, row_start, cells_of, table_from, table_of}
use Rattle.cat_rows.specs.RowCells.{namespace_cells}
use Rattle.cat_rows.specs.Writing.{IsRowOf, AreRowsOf}
use Rattle.cat_model.specs.Values.{Bytes}
use Rattle.exports.specs.Cells.{schema_of}
use Rattle.exports.specs.Exports.{export_of}
use Rattle.schema_folders.specs.declared.schemas.SchemaRow.{SchemaRow}
use Rattle.schema_folders.specs.Folder.{cells_of_row, namespace_row, schemas_alone, plain_text, opening_in, opening_of}
use Rattle.schema_folders.proofs.Standing.{reads_as}
use Rattle.tool_laws.proofs.Bare.{opening_is}
use Rattle.tool_laws.proofs.Opened.{bind_ok, export_read, catalogue_has}

-- rows that were read can be written
abbrev pub AllReadLaw : Type 0
AllReadLaw = (table : SysTable) (text : List ℕ) (rows : List (List Cell)) → table_of table text ≡ Ok rows → AreRowsOf table rows

-- ---- the tables beside pg_namespace

none_reads : table_of PgNamespace [] ≡ Ok (map cells_of_row [])
unfolding digits is_utf8 chars encode pieces_after ends_escaping decode_behind row_of fields_of field_of lines escape oid_of int_of cell_of cell_at cells_at row_start cells_of table_from table_of
none_reads = refl

beside : AllReadLaw → (table : SysTable) → AreRowsOf table (rows_in table (schemas_alone []))
beside law table = law table (plain_text [] table) (rows_in table (schemas_alone [])) (reads_as [] [] none_reads table)

-- ---- pg_namespace

abbrev CanStand : NamespaceRow → Type 0
CanStand row = IsRowOf PgNamespace (namespace_cells row)

can_stand : (cells : List Cell) (row : NamespaceRow) → schema_of cells ≡ Some row → IsRowOf PgNamespace cells → CanStand row
can_stand (cell.Oid oid ∷ cell.Name name ∷ cell.Oid owner ∷ cell.Acl acl ∷ []) row e h =
    let same : record { oid = oid; nspname = name; nspowner = owner; nspacl = acl } ≡ row = cc in
    subst CanStand same h
can_stand _ row e h = absurd cc

all_stand : (rows : List SchemaRow) → AllByRecursion CanStand (map namespace_row rows) → AreRowsOf PgNamespace (rows_in PgNamespace (schemas_alone rows))
all_stand [] h = tt
all_stand (row ∷ rows) h = (h.0, all_stand rows h.1)

namespaces : AllReadLaw → (folder : Bytes) (tree : Tree) (rows : List SchemaRow) → opening_of folder tree ≡ Ok rows → AreRowsOf PgNamespace (rows_in PgNamespace (schemas_alone rows))
unfolding opening_of
namespaces law folder tree rows e =
    let export = bind_ok (export_of folder tree) (λ export. opening_in export.cat) rows e in
    let read = export_read folder tree export.0 export.1 in
    all_stand rows
    (subst (λ (cat : Catalogue). AllByRecursion CanStand cat.pg_namespace) (read.is ∙ opening_is export.0.cat rows export.2)
    (catalogue_has CanStand can_stand (λ text found r. law PgNamespace text found r) folder tree read.tables read.read))

-- ---- all of them

pub held : AllReadLaw → (folder : Bytes) (tree : Tree) (rows : List SchemaRow) → opening_of folder tree ≡ Ok rows → (table : SysTable) → AreRowsOf table (rows_in table (schemas_alone rows))
held law folder tree rows e PgAuthid = beside law PgAuthid
held law folder tree rows e PgAuthMembers = beside law PgAuthMembers
held law folder tree rows e PgDatabase = beside law PgDatabase
held law folder tree rows e PgNamespace = namespaces law folder tree rows e
held law folder tree rows e PgType = beside law PgType
held law folder tree rows e PgEnum = beside law PgEnum
held law folder tree rows e PgClass = beside law PgClass
held law folder tree rows e PgAttribute = beside law PgAttribute
held law folder tree rows e PgAttrdef = beside law PgAttrdef
held law folder tree rows e PgConstraint = beside law PgConstraint
held law folder tree rows e PgIndex = beside law PgIndex
held law folder tree rows e PgSequence = beside law PgSequence
held law folder tree rows e PgRewrite = beside law PgRewrite
held law folder tree rows e PgDescription = beside law PgDescription
held law folder tree rows e PgDepend = beside law PgDepend

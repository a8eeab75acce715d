-- The comments on an object and on what belongs to it: behind those on a table and on its columns those on its checks, and
-- behind that on a key that on its index.
use Rattle.std.specs.Prelude.{ℕ, pos, List, [], ◌∷◌, ◌++◌, filter_map, Option, Some, None, option_map, if◌then◌else◌, codes}
use Rattle.std.specs.List.{flat_map}
use Rattle.std.specs.Ordering.{int_eq}
use Rattle.std.specs.Option.{option_and_then}
use Rattle.cat_rows.specs.declared.catalogue.Catalogue.{Catalogue}
use Rattle.cat_rows.specs.declared.constraints.ConstraintRow.{ConstraintRow}
use Rattle.cat_rows.specs.declared.notes.DescriptionRow.{DescriptionRow}
use Rattle.cat_rows.specs.declared.types.TypeRow.{TypeRow}
use Rattle.cat_model.specs.declared.grant.Commented.{Commented}
use Rattle.cat_model.specs.declared.grant.Commented.TheVariants as commented
use Rattle.cat_model.specs.declared.object.QName.{QName}
use Rattle.cat_model.specs.declared.stmt.Stmt.TheVariants as stmt
use Rattle.cat_model.specs.Values.{Bytes}
use Rattle.cat_book.specs.Chains.{type_of, is_domain_letter}
use Rattle.cat_book.specs.Leads.{constraint_of}
use Rattle.cat_book.specs.Paths.{class_path_of}
use Rattle.graph_parts.specs.declared.object.Obj.{Obj}
use Rattle.graph_parts.specs.declared.object.ObjKind.{ObjKind}
use Rattle.graph_parts.specs.declared.object.ObjKind.TheVariants as kind
use Rattle.dump_rows.specs.Rows.{column_at, comments_on, table_checks}
use Rattle.dump_stmts.specs.Paths.{path_of, written}
use Rattle.dump_toc.specs.declared.draft.Draft.{Draft}
use Rattle.dump_toc.specs.Drafts.{beside}
use Rattle.dump_toc.specs.Tags.{comment_tag}

-- ---- what a comment is on

abbrev pub type_as : TypeRow → QName → Commented
type_as row q = if is_domain_letter row.typtype then commented.Domain q else commented.Type q

-- a column of a number, and a table or its column
abbrev pub column_as : Catalogue → DescriptionRow → QName → Option Commented
column_as cat row q = option_map (λ a. commented.Column q a.attname) (column_at cat row.objoid row.objsubid)

abbrev pub table_as : Catalogue → DescriptionRow → QName → Option Commented
table_as cat row q = if int_eq row.objsubid (pos 0) then Some (commented.Table q) else column_as cat row q

abbrev pub constraint_as : Catalogue → ConstraintRow → Option Commented
constraint_as cat row = option_map (λ q. commented.Constraint q row.conname) (class_path_of cat row.conrelid)

abbrev pub commented_as : Catalogue → Obj → DescriptionRow → ObjKind → Option Commented
commented_as cat o row kind.Schema = option_map commented.Schema o.name
commented_as cat o row kind.UserType = option_and_then (λ q. option_map (λ t. type_as t q) (type_of cat.pg_type o.id.oid)) (path_of o)
commented_as cat o row kind.Table = option_and_then (table_as cat row) (path_of o)
commented_as cat o row kind.View = option_map commented.View (path_of o)
commented_as cat o row kind.Dummy = option_map commented.View (path_of o)
commented_as cat o row kind.Sequence = option_map commented.Sequence (path_of o)
commented_as cat o row kind.Index = option_map commented.Index (path_of o)
commented_as cat o row kind.Constraint = option_and_then (constraint_as cat) (constraint_of cat o.id.oid)
commented_as cat o row kind.Foreign = option_and_then (constraint_as cat) (constraint_of cat o.id.oid)
commented_as cat o row other = None

-- ---- the comments

-- a comment with what it is on
abbrev pub Remark : Type 0
Remark = Commented × Bytes

abbrev pub remark : Bytes → Commented → Remark
remark text what = (what, text)

-- those on the object itself
abbrev pub own_remark : Catalogue → Obj → DescriptionRow → Option Remark
own_remark cat o d = option_map (remark d.description) (commented_as cat o d o.kind)

abbrev pub own_remarks : Catalogue → Obj → List Remark
own_remarks cat o = filter_map (own_remark cat o) (comments_on cat o.id.class o.id.oid)

-- those on a check of a table, and on the index of a key
abbrev pub check_remark : Catalogue → ConstraintRow → DescriptionRow → Option Remark
check_remark cat row d = option_map (remark d.description) (constraint_as cat row)

abbrev pub check_remarks : Catalogue → ConstraintRow → List Remark
check_remarks cat row = filter_map (check_remark cat row) (comments_on cat 2606 row.oid)

abbrev pub index_as : Catalogue → ℕ → Option Commented
index_as cat index = option_map commented.Index (class_path_of cat index)

abbrev pub index_remark : Catalogue → ℕ → DescriptionRow → Option Remark
index_remark cat index d = option_map (remark d.description) (index_as cat index)

abbrev pub index_remarks : Catalogue → ℕ → List Remark
index_remarks cat index = filter_map (index_remark cat index) (comments_on cat 1259 index)

abbrev pub key_remarks : Catalogue → Option ConstraintRow → List Remark
key_remarks cat None = []
key_remarks cat (Some row) = index_remarks cat row.conindid

abbrev pub part_remarks : Catalogue → Obj → ObjKind → List Remark
part_remarks cat o kind.Table = flat_map (check_remarks cat) (table_checks cat o.id.oid)
part_remarks cat o kind.Constraint = key_remarks cat (constraint_of cat o.id.oid)
part_remarks cat o other = []

unfoldable pub remarks_of : Catalogue → Obj → List Remark
remarks_of cat o = own_remarks cat o ++ part_remarks cat o o.kind

-- ---- their entries, which need the object

abbrev pub remark_draft : Catalogue → Obj → ℕ → Remark → Draft
remark_draft cat o place r = beside cat o (codes "COMMENT") 1 (comment_tag r.0) (written (Some (stmt.Comment r.0 (Some r.1)))) (place ∷ [])

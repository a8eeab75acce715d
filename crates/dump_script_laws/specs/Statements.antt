-- The statements of a dump, told by the rows of a catalogue: what a script does, one statement after another.
use Rattle.std.specs.Prelude.{◌≡◌, ℕ, Bool, true, List, [], ◌++◌, map, Option, Some, None, unwrap_or, if◌then◌else◌}
use Rattle.std.specs.List.{AllByRecursion, flat_map}
use Rattle.std.specs.Option.{option_and_then, option_map, option_to_list}
use Rattle.cat_model.specs.declared.grant.Owned.{Owned}
use Rattle.cat_model.specs.declared.grant.Owned.TheVariants as owned
use Rattle.cat_model.specs.declared.object.QName.{QName}
use Rattle.cat_model.specs.declared.stmt.Stmt.{Stmt}
use Rattle.cat_model.specs.declared.stmt.Stmt.TheVariants as stmt
use Rattle.cat_model.specs.Values.{Bytes}
use Rattle.cat_rows.specs.declared.catalogue.Catalogue.{Catalogue}
use Rattle.cat_rows.specs.declared.types.TypeRow.{TypeRow}
use Rattle.cat_book.specs.Chains.{type_of, is_domain_letter}
use Rattle.ddl_laws.specs.Rows.{AreRows}
use Rattle.dep_sort.specs.Ordering.{Sorted}
use Rattle.dump_grants.specs.Stmts.{grant_stmts}
use Rattle.dump_rows.specs.Rows.{columns_of}
use Rattle.dump_stmts.specs.Paths.{path_of}
use Rattle.dump_stmts.specs.Sequences.{owned_stmt}
use Rattle.dump_stmts.specs.Stmts.{stmt_of}
use Rattle.dump_toc.specs.Comments.{Remark, remarks_of}
use Rattle.dump_toc.specs.Owners.{owner_of}
use Rattle.dump_toc.specs.Rights.{granted_as, grant_kind, acl_of}
use Rattle.dump_toc.specs.Toc.{standing_of}
use Rattle.graph_parts.specs.declared.object.Obj.{Obj}
use Rattle.graph_parts.specs.declared.object.ObjKind.{ObjKind}
use Rattle.graph_parts.specs.declared.object.ObjKind.TheVariants as kind
use Rattle.obj_graph.specs.declared.select.Select.{Select}
use Rattle.obj_graph.specs.Closed.{is_in_sections}
use Rattle.toc_entry.specs.declared.entry.Entry.{Entry}
use Rattle.script_laws.specs.Scripts.{AllEntries, given_to, rows_of, session_statements}
use Rattle.toc_laws.specs.Dumps.{ended}

-- ---- the rows

-- the text of the rows of each table, by the table's oid
abbrev pub Texts : Type 0
Texts = ℕ → Bytes

-- the rows of an entry that has rows are those of its table, and they are ended
abbrev pub HasText : Texts → Entry → Option Bytes → Type 0
HasText texts e rows = e.has_rows ≡ true → AreRows (texts e.oid) × (rows ≡ Some (ended (texts e.oid)))

abbrev pub HaveTexts : Texts → AllEntries → Type 0
HaveTexts texts entries = AllByRecursion (λ e. HasText texts e.0 (rows_of e)) entries

-- ---- an object

-- COPY with all columns of a table and its rows
abbrev pub copied : Catalogue → Texts → Obj → QName → Stmt
copied cat texts o q = stmt.CopyRows q (map (λ a. a.attname) (columns_of cat o.id.oid)) (texts o.id.oid)

abbrev pub copied_of : Catalogue → Texts → Obj → ObjKind → Option Stmt
copied_of cat texts o kind.TableData = option_map (copied cat texts o) (path_of o)
copied_of cat texts o other = None

-- a type by what it is; a view without a body yet is a view
abbrev pub type_owned : Option TypeRow → QName → Owned
type_owned None q = owned.Type q
type_owned (Some row) q = if is_domain_letter row.typtype then owned.Domain q else owned.Type q

-- what is given to its owner; an object of another kind has none of its own
abbrev pub owned_as : Catalogue → Obj → ObjKind → Option Owned
owned_as cat o kind.Schema = option_map owned.Schema o.name
owned_as cat o kind.UserType = option_map (type_owned (type_of cat.pg_type o.id.oid)) (path_of o)
owned_as cat o kind.Table = option_map owned.Table (path_of o)
owned_as cat o kind.View = option_map owned.View (path_of o)
owned_as cat o kind.Dummy = option_map owned.View (path_of o)
owned_as cat o kind.Sequence = option_map owned.Sequence (path_of o)
owned_as cat o other = None

abbrev pub given : Bool → Catalogue → Obj → List Stmt
given owners cat o = if owners then given_to (owned_as cat o o.kind) (owner_of cat o) else []

-- it is made, or its rows are copied, and it is given to its owner
abbrev pub object_said : Bool → Catalogue → List ℕ → Texts → Obj → List Stmt
object_said owners cat standing texts o =
    option_to_list (stmt_of cat standing o) ++ option_to_list (copied_of cat texts o o.kind) ++ given owners cat o

-- the column that owns a sequence, where one does
abbrev pub column_said : Catalogue → Obj → ObjKind → List Stmt
column_said cat o kind.Sequence = option_to_list (owned_stmt cat o)
column_said cat o other = []

-- ---- what stands beside it

abbrev pub comment : Remark → Stmt
comment r = stmt.Comment r.0 (Some r.1)

abbrev pub comments_said : Select → Catalogue → Obj → List Stmt
comments_said select cat o = if select.comments then map comment (remarks_of cat o) else []

-- the statements for its list of rights, where that isn't a new object's
abbrev pub rights_of : Catalogue → Obj → Option (List Stmt)
rights_of cat o =
    option_and_then (λ acl. option_and_then (λ owner. option_and_then (λ what. grant_stmts (grant_kind o.kind) what owner acl) (granted_as o o.kind)) (owner_of cat o)) (acl_of cat o o.kind)

-- ---- all of them

-- of an object whose section is taken
abbrev pub said_of : Bool → Catalogue → Select → List ℕ → Texts → Obj → List Stmt
said_of owners cat select standing texts o =
    if is_in_sections select.sections o.kind
    then object_said owners cat standing texts o ++ (column_said cat o o.kind ++ comments_said select cat o)
    else []

abbrev pub granted_of : Catalogue → Select → Obj → List Stmt
granted_of cat select o = if is_in_sections select.sections o.kind then unwrap_or (rights_of cat o) [] else []

abbrev pub grants_said : Catalogue → Select → List Obj → List Stmt
grants_said cat select objects = if select.grants then flat_map (granted_of cat select) objects else []

-- The session is prepared; then comes object by object, in the order of the dump, and at the end the grants.
abbrev pub dump_statements : Bool → Catalogue → Select → Texts → Sorted → List Stmt
dump_statements owners cat select texts order =
    session_statements
    ++ (flat_map (said_of owners cat select (standing_of order.objects) texts) order.objects
    ++ grants_said cat select order.objects)

-- What the definition of an entry says lies in it, and so do the rows of a table.
use Rattle.std.proofs.Common.{◌≡◌, ℕ, Bool, true, false, List, [], ◌∷◌, ◌++◌, map, append_assoc, append-nil, Option, Some, None, refl, sym, ap, subst, ◌∙◌, codes}
use Rattle.std.specs.Prelude.{unwrap_or, if◌then◌else◌}
use Rattle.std.specs.List.{AllByRecursion, flat_map}
use Rattle.std.specs.Option.{option_map, option_to_list}
use Rattle.std.specs.Str.{is_utf8, chars}
use Rattle.std.proofs.Math.Utf8.{encode}
use Rattle.std.proofs.lemmas.Bool.{cases_Bool}
use Rattle.std.proofs.Common.{inl, inr}
use Rattle.sql_lex.specs.Bytes.{in_line}
use Rattle.sql_lex.specs.Written.{written_name}
use Rattle.copy_text.specs.Texts.{IsName}
use Rattle.cat_model.specs.declared.object.QName.{QName}
use Rattle.cat_model.specs.declared.stmt.Stmt.{Stmt}
use Rattle.cat_model.specs.declared.stmt.Stmt.TheVariants as stmt
use Rattle.cat_model.specs.Values.{Bytes}
use Rattle.cat_rows.specs.declared.catalogue.Catalogue.{Catalogue}
use Rattle.cat_rows.specs.declared.relations.AttributeRow.{AttributeRow}
use Rattle.cat_rows.specs.declared.table.SysTable.TheVariants as table
use Rattle.cat_rows.specs.declared.types.TypeRow.{TypeRow}
use Rattle.cat_rows.specs.RowCells.{attribute_cells}
use Rattle.cat_book.specs.Chains.{type_of, is_domain_letter}
use Rattle.ddl_laws.specs.Rows.{AreRows}
use Rattle.ddl_spelling.specs.Paths.{path, listed}
use Rattle.ddl_laws.specs.Laying.{Lays, no_more, comment_line, statement_text}
use Rattle.ddl_laws.specs.Respelling.{IsPath, IsWritable, AllWritable, spelling}
use Rattle.graph_parts.specs.declared.object.Obj.{Obj}
use Rattle.graph_parts.specs.declared.object.ObjKind.{ObjKind}
use Rattle.graph_parts.specs.declared.object.ObjKind.TheVariants as kind
use Rattle.dump_rows.specs.Rows.{columns_of}
use Rattle.dump_grants.specs.Stmts.{texts}
use Rattle.dump_stmts.specs.Paths.{path_of, written, is_public}
use Rattle.dump_stmts.specs.Stmts.{schema_stmt, stmt_of_kind, schema_defn, defn_of_kind}
use Rattle.dump_stmts.specs.Tables.{more_names, column_list, copy_line, copy_of}
use Rattle.dump_toc.specs.Drafts.{copy_of_kind}
use Rattle.dump_toc.specs.Tags.{type_desc, desc_of_kind}
use Rattle.fmt_text.specs.Parts.{is_table_data, text_or_none}
use Rattle.script_laws.proofs.Lines.{lays_both, known_shown, two_lines}
use Rattle.stmt_laws.specs.Named.{HoldsCells}
use Rattle.ddl_grammar.proofs.Spelled.{by_syntax}
use Rattle.stmt_laws.proofs.Lists.{Known, seen_have}
use Rattle.stmt_laws.proofs.Rows.{IsOf}
use Rattle.stmt_laws.proofs.Objects.{columns_hold}
use Rattle.toc_laws.specs.Dumps.{is_data}

-- statements that a text says
abbrev pub Said : List ℕ → Type 0
Said text = (statements : List Stmt) × Lays text statements

abbrev pub SpelledLaw : Type 0
SpelledLaw = (s : Stmt) → IsWritable s → Lays (spelling s) (s ∷ [])

-- ---- statements

pub spelled_lays : SpelledLaw → (s : Stmt) → IsWritable s → Lays (written (Some s)) (s ∷ [])
spelled_lays law s is = law s is

pub written_lays : SpelledLaw → (o : Option Stmt) → Known IsWritable o → Lays (written o) (option_to_list o)
written_lays law None k = no_more
written_lays law (Some s) k = spelled_lays law s k

pub texts_lay : SpelledLaw → (ss : List Stmt) → AllWritable ss → Lays (texts ss) ss
texts_lay law [] all = no_more
texts_lay law (s ∷ ss) all = lays_both (spelling s) (texts ss) (s ∷ []) ss (spelled_lays law s all.0) (texts_lay law ss all.1)

-- ---- definitions

schema_by : SpelledLaw → (public : Bool) (name : List ℕ) → Known IsWritable (if public then None else Some (stmt.CreateSchema name))
    → Lays (if public then codes "-- *not* creating schema, since initdb creates it\n" else written (if public then None else Some (stmt.CreateSchema name))) (option_to_list (if public then None else Some (stmt.CreateSchema name)))
unfolding in_line is_utf8 chars encode
schema_by law true name k = comment_line (codes " *not* creating schema, since initdb creates it") [] [] (known_shown _ refl refl) no_more
schema_by law false name k = spelled_lays law (stmt.CreateSchema name) k

schema_lays : SpelledLaw → (name : Option (List ℕ)) → Known IsWritable (schema_stmt name) → Lays (schema_defn name) (option_to_list (schema_stmt name))
schema_lays law None k = no_more
schema_lays law (Some name) k = schema_by law (is_public name) name k

defn_lays : SpelledLaw → (cat : Catalogue) (standing : List ℕ) (o : Obj) (k : ObjKind) → Known IsWritable (stmt_of_kind cat standing o k) → Lays (defn_of_kind cat standing o k) (option_to_list (stmt_of_kind cat standing o k))
defn_lays law cat standing o kind.Schema can = schema_lays law o.name can
defn_lays law cat standing o other can = written_lays law (stmt_of_kind cat standing o other) can

-- ---- rows

abbrev names_in : List AttributeRow → List (List ℕ)
names_in columns = map (λ (a : AttributeRow). a.attname) columns

more_is : (columns : List AttributeRow) → more_names columns ≡ flat_map (λ n. codes ", " ++ written_name n) (names_in columns)
more_is [] = refl
more_is (a ∷ columns) = ap (λ (x : List ℕ). (codes ", " ++ written_name a.attname) ++ x) (more_is columns)

-- the line of COPY, the rows and two empty lines, parted otherwise
parted : (path list rows : List ℕ) → ((codes "COPY " ++ path) ++ list ++ codes " FROM stdin;\n") ++ (rows ++ codes "\\.\n\n\n") ≡ (((codes "COPY " ++ (path ++ (list ++ codes " FROM stdin;"))) ++ codes "\n") ++ (rows ++ codes "\\.\n")) ++ codes "\n\n"
parted path list rows = simp append_assoc

line_and_rows : (q : QName) (columns : List AttributeRow) (r : List ℕ) → copy_line q columns ++ (r ++ codes "\\.\n\n\n") ≡ spelling (stmt.CopyRows q (names_in columns) r) ++ codes "\n\n"
unfolding copy_line column_list listed by_syntax
line_and_rows q [] r = parted (path q) [] r
line_and_rows q (a ∷ columns) r =
    ap (λ (x : List ℕ). ((codes "COPY " ++ path q) ++ ((codes " (" ++ written_name a.attname) ++ x ++ codes ")") ++ codes " FROM stdin;\n") ++ (r ++ codes "\\.\n\n\n")) (more_is columns)
    ∙ parted (path q) ((codes " (" ++ written_name a.attname) ++ flat_map (λ n. codes ", " ++ written_name n) (names_in columns) ++ codes ")") r

-- the statement of the rows of a table
abbrev pub copy_stmt : Catalogue → ℕ → QName → List ℕ → Stmt
copy_stmt cat oid q r = stmt.CopyRows q (names_in (columns_of cat oid)) r

rows_lay : (cat : Catalogue) → HoldsCells cat → (oid : ℕ) (q : QName) → IsPath q → (r : List ℕ) → AreRows r → Lays (copy_line q (columns_of cat oid) ++ (r ++ codes "\\.\n\n\n")) (copy_stmt cat oid q r ∷ [])
unfolding by_syntax
rows_lay cat holds oid q is r are =
    let columns = columns_of cat oid in
    let s = copy_stmt cat oid q r in
    let named : AllByRecursion IsName (names_in columns) = seen_have (IsOf table.PgAttribute attribute_cells) IsName (λ a. a.attname) columns (columns_hold cat holds oid) (λ a row. row.cells.1.1.0) in
    let lays : Lays (spelling s ++ codes "\n\n") (s ∷ []) = statement_text s (codes "\n\n") [] (((is, named), refl), are) two_lines in
    subst (λ (x : List ℕ). Lays x (s ∷ [])) (sym (line_and_rows q columns r)) lays

abbrev copied_of : Catalogue → Obj → Option QName → Bytes
copied_of cat o q = unwrap_or (option_map (λ q. copy_line q (columns_of cat o.id.oid)) q) []

pub rows_are : (cat : Catalogue) → HoldsCells cat → (o : Obj) (q : QName) → Known IsPath (path_of o) → path_of o ≡ Some q → (rows : Option Bytes) (r : Bytes) → AreRows r → rows ≡ Some (r ++ codes "\\.\n\n\n") → Lays (copy_of cat o ++ text_or_none rows) (copy_stmt cat o.id.oid q r ∷ [])
rows_are cat holds o q known is rows r are e =
    let path : IsPath q = subst (Known IsPath) is known in
    subst (λ (x : List ℕ). Lays x (copy_stmt cat o.id.oid q r ∷ [])) (ap (λ (p : Option QName). copied_of cat o p ++ (r ++ codes "\\.\n\n\n")) (sym is) ∙ ap (λ (x : Option (List ℕ)). copy_of cat o ++ text_or_none x) (sym e))
    (rows_lay cat holds o.id.oid q path r are)

-- ---- the body of an object's entry

abbrev pub object_body : Catalogue → List ℕ → Obj → ObjKind → Option Bytes → Bytes
object_body cat standing o k rows =
    if is_table_data (desc_of_kind cat o k) then text_or_none (copy_of_kind cat o k) ++ text_or_none rows else defn_of_kind cat standing o k ++ codes "\n\n"

type_is_none : (r : Option TypeRow) → is_table_data (type_desc r) ≡ false
type_is_none None = refl
type_is_none (Some row) = elim (cases_Bool (is_domain_letter row.typtype)) [ inl is ↦ rw is refl | inr isnt ↦ rw isnt refl ]

pub lines_behind : (text : List ℕ) (ss : List Stmt) → Lays text ss → Lays (text ++ codes "\n\n") ss
lines_behind text ss lays = subst (Lays (text ++ codes "\n\n")) (append-nil ss) (lays_both text (codes "\n\n") ss [] lays two_lines)

pub object_lays : SpelledLaw → (cat : Catalogue) (standing : List ℕ) (o : Obj) (rows : Option Bytes) (k : ObjKind) → Known IsWritable (stmt_of_kind cat standing o k) → is_data k ≡ false → Lays (object_body cat standing o k rows) (option_to_list (stmt_of_kind cat standing o k))
object_lays law cat standing o rows kind.TableData can e = absurd cc
object_lays law cat standing o rows kind.UserType can e = rw (type_is_none (type_of cat.pg_type o.id.oid)) (lines_behind _ _ (defn_lays law cat standing o kind.UserType can))
object_lays law cat standing o rows kind.Schema can e = lines_behind _ _ (defn_lays law cat standing o kind.Schema can)
object_lays law cat standing o rows other can e = lines_behind _ _ (defn_lays law cat standing o other can)

-- where an object is the rows of a table, these
abbrev pub DataSays : Catalogue → Obj → ObjKind → Option Bytes → Type 0
DataSays cat o k rows = is_data k ≡ true → Said (copy_of cat o ++ text_or_none rows)

pub object_says : SpelledLaw → (cat : Catalogue) (standing : List ℕ) (o : Obj) (rows : Option Bytes) (k : ObjKind) → Known IsWritable (stmt_of_kind cat standing o k) → DataSays cat o k rows → Said (object_body cat standing o k rows)
object_says law cat standing o rows kind.TableData can copied = copied refl
object_says law cat standing o rows other can copied = (option_to_list (stmt_of_kind cat standing o other), object_lays law cat standing o rows other can refl)

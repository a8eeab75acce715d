-- The statements of objects, kind by kind.
use Rattle.std.proofs.Common.{◌≡◌, ℕ, ◌&&◌, List, map, Option, Some, None, refl, inl, inr}
use Rattle.std.specs.Prelude.{ℤ}
use Rattle.std.specs.List.{AllByRecursion, filter}
use Rattle.std.specs.Option.{option_and_then, option_map}
use Rattle.std.specs.Ordering.{int_eq}
use Rattle.std.proofs.lemmas.Bool.{cases_Bool}
use Rattle.copy_text.specs.Texts.{IsName, IsText}
use Rattle.cat_model.specs.declared.constraint.SequenceKind.{SequenceKind}
use Rattle.cat_model.specs.declared.object.QName.{QName}
use Rattle.cat_model.specs.declared.stmt.Stmt.{Stmt}
use Rattle.cat_model.specs.declared.stmt.Stmt.TheVariants as stmt
use Rattle.cat_model.specs.declared.type_name.TypeName.{TypeName}
use Rattle.cat_model.specs.Values.{Bytes}
use Rattle.cat_rows.specs.declared.catalogue.Catalogue.{Catalogue}
use Rattle.cat_rows.specs.declared.constraints.ConstraintRow.{ConstraintRow}
use Rattle.cat_rows.specs.declared.relations.AttrdefRow.{AttrdefRow}
use Rattle.cat_rows.specs.declared.relations.AttributeRow.{AttributeRow}
use Rattle.cat_rows.specs.declared.relations.IndexRow.{IndexRow}
use Rattle.cat_rows.specs.declared.relations.RewriteRow.{RewriteRow}
use Rattle.cat_rows.specs.declared.sequences.SequenceRow.{SequenceRow}
use Rattle.cat_rows.specs.declared.table.SysTable.TheVariants as table
use Rattle.cat_rows.specs.declared.types.TypeRow.{TypeRow}
use Rattle.cat_rows.specs.RowCells.{type_cells, enum_cells, attribute_cells, constraint_cells, sequence_cells}
use Rattle.cat_names.specs.Lookups.{same_oid, has_oid}
use Rattle.cat_book.specs.Chains.{type_of, is_domain_letter}
use Rattle.cat_book.specs.Leads.{constraint_of}
use Rattle.cat_book.specs.Paths.{class_path_of}
use Rattle.constraint_table.specs.declared.constraint_text.ConstraintText.{ConstraintText}
use Rattle.constraint_table.specs.declared.constraint_text.ConstraintText.TheVariants.{Check}
use Rattle.constraint_table.specs.Said.{statement_said, constraint_said}
use Rattle.row_texts.specs.declared.index_text.IndexText.{IndexText}
use Rattle.row_texts.specs.DefaultTexts.{default_said}
use Rattle.row_texts.specs.IndexTexts.{index_said}
use Rattle.row_texts.specs.SequenceTypes.{sequence_kind}
use Rattle.row_texts.specs.TypeTexts.{type_named}
use Rattle.row_texts.specs.ViewTexts.{view_body}
use Rattle.text_laws.specs.Indexes.{IsIndex}
use Rattle.ddl_grammar.specs.Respelling.{IsWritable, IsPath, IsType, IsDefault, IsDefaultText, IsExpressionText, IsCheck, IsColumn}
use Rattle.graph_parts.specs.declared.object.Obj.{Obj}
use Rattle.graph_parts.specs.declared.object.ObjKind.{ObjKind}
use Rattle.graph_parts.specs.declared.object.ObjKind.TheVariants as kind
use Rattle.dump_rows.specs.Rows.{columns_of, labels_of, table_checks, domain_checks, column_at, default_at, default_of, sequence_of, index_of, rewrite_of, view_rewrite, is_check, name_less}
use Rattle.dump_stmts.specs.Paths.{joined, path_of, is_public}
use Rattle.dump_stmts.specs.Types.{check_text, check_def, check_defs, domain_over, domain_stmt, type_in, type_stmt}
use Rattle.dump_stmts.specs.Tables.{unless_standing, inline_default, typed_column, column_def, table_at, table_stmt, set_default, default_in, default_stmt}
use Rattle.dump_stmts.specs.Views.{dummy_body, view_of, view_stmt, dummy_stmt, replaced_by, rule_stmt}
use Rattle.dump_stmts.specs.Sequences.{of_kind, sequence_in, sequence_stmt, value_of, value_stmt, owned, owned_in, owned_stmt}
use Rattle.dump_stmts.specs.Keys.{added_to, added, constraint_stmt, index_by, index_stmt}
use Rattle.dump_stmts.specs.Stmts.{schema_stmt, stmt_of_kind, stmt_of}
use Rattle.stmt_laws.specs.Named.{HoldsCells, IsNamed}
use Rattle.stmt_laws.proofs.Lists.{Known, known_so, so_known, known_then, known_map, found_has, kept_have, numbered_have, ordered_have, chosen_have, seen_have}
use Rattle.stmt_laws.proofs.Rows.{IsOf, All, rows_hold, class_path_known}
use Rattle.stmt_laws.proofs.Dummies.{nulls_are}
use Rattle.ddl_grammar.proofs.Spelled.{by_syntax}

-- ---- what texts say

pub record TextLaws : Type 0 where
  pub types : (text : Bytes) (name : TypeName) → type_named text ≡ Some name → IsType name
  pub defaults : (text said : Bytes) → default_said text ≡ Some said → IsDefaultText said
  pub views : (text body : Bytes) → view_body text ≡ Some body → IsExpressionText body
  pub indexes : (text : Bytes) (said : IndexText) → index_said text ≡ Some said → IsIndex said
  pub constraints : (text : Bytes) (statement : Stmt) → statement_said text ≡ Some statement → IsWritable statement
  pub checks : (text said : Bytes) → constraint_said text ≡ Some (Check said) → IsExpressionText said

-- what each statement of an object is made by
pub record Given (cat : Catalogue) (o : Obj) : Type 0 where
  pub laws : TextLaws
  pub holds : HoldsCells cat
  pub path : Known IsPath (path_of o)

path_so : (schema name : Option (List ℕ)) → Known IsName schema → Known IsName name → Known IsPath (joined schema name)
path_so (Some schema) (Some name) s n = (s, n)
path_so None name s n = tt
path_so (Some schema) None s n = tt

given_default : (o : Option Bytes) → Known IsDefaultText o → IsDefault o
given_default None k = tt
given_default (Some v) k = k

-- ---- schemas

schema_can : (name : Option (List ℕ)) → Known IsName name → Known IsWritable (schema_stmt name)
unfolding by_syntax
schema_can None k = tt
schema_can (Some name) k = elim (cases_Bool (is_public name)) [ inl is ↦ rw is tt | inr isnt ↦ rw isnt (k, refl) ]

-- ---- checks

check_known : (laws : TextLaws) (row : ConstraintRow) → IsOf table.PgConstraint constraint_cells row → Known IsCheck (check_def row)
check_known laws row is =
    known_map IsExpressionText IsCheck (λ text. record { name = row.conname; text = text }) (check_text (constraint_said row.condef)) (by (constraint_said row.condef) (laws.checks row.condef)) (λ text said. (is.cells.1.0, said))
  where
    by : (o : Option ConstraintText) → ((said : Bytes) → o ≡ Some (Check said) → IsExpressionText said) → Known IsExpressionText (check_text o)
    by None h = tt
    by (Some (Check text)) h = h text refl
    by (Some other) h = tt

checks_can : (laws : TextLaws) (rows : List ConstraintRow) → All table.PgConstraint constraint_cells rows → AllByRecursion IsCheck (check_defs rows)
checks_can laws rows all = chosen_have (IsOf table.PgConstraint constraint_cells) IsCheck check_def rows all (check_known laws)

-- ---- types

type_can : (cat : Catalogue) (o : Obj) → Given cat o → Known IsWritable (type_stmt cat o)
unfolding type_stmt by_syntax
type_can cat o g =
    let types = rows_hold cat g.holds table.PgType type_cells cat.pg_type refl in
    known_then (IsOf table.PgType type_cells) IsWritable (λ row. option_and_then (type_in cat row) (path_of o)) (type_of cat.pg_type o.id.oid)
    (found_has (IsOf table.PgType type_cells) (λ t. same_oid o.id.oid t.oid) cat.pg_type types)
    (λ row is. known_then IsPath IsWritable (type_in cat row) (path_of o) g.path (λ q path. one row q path))
  where
    labels : (row : TypeRow) → AllByRecursion IsText (map (λ e. e.enumlabel) (labels_of cat row.oid))
    labels row =
        seen_have (IsOf table.PgEnum enum_cells) IsText (λ e. e.enumlabel) (labels_of cat row.oid)
        (numbered_have (IsOf table.PgEnum enum_cells) (λ e. e.enumpos) (filter (λ e. same_oid row.oid e.enumtypid) cat.pg_enum)
        (kept_have (IsOf table.PgEnum enum_cells) (λ e. same_oid row.oid e.enumtypid) cat.pg_enum (rows_hold cat g.holds table.PgEnum enum_cells cat.pg_enum refl)))
        (λ e is. is.cells.1.1.1.0)

    of_domain : (row : TypeRow) → AllByRecursion IsCheck (check_defs (domain_checks cat row.oid))
    of_domain row =
        let constraints = rows_hold cat g.holds table.PgConstraint constraint_cells cat.pg_constraint refl in
        let mine = kept_have (IsOf table.PgConstraint constraint_cells) (λ c. same_oid row.oid c.contypid) cat.pg_constraint constraints in
        let checks = kept_have (IsOf table.PgConstraint constraint_cells) is_check (filter (λ c. same_oid row.oid c.contypid) cat.pg_constraint) mine in
        checks_can g.laws (domain_checks cat row.oid) (ordered_have (IsOf table.PgConstraint constraint_cells) name_less (filter is_check (filter (λ c. same_oid row.oid c.contypid) cat.pg_constraint)) checks)

    default : (row : TypeRow) → IsDefault (option_and_then default_said row.typdefault)
    default row = given_default (option_and_then default_said row.typdefault) (known_then (λ text. Unit {0}) IsDefaultText default_said row.typdefault (any row.typdefault) (λ text u. known_so IsDefaultText (default_said text) (g.laws.defaults text)))
      where
        any : (o : Option Bytes) → Known (λ (text : Bytes). Unit {0}) o
        any None = tt
        any (Some text) = tt

    domain : (row : TypeRow) (q : QName) → IsPath q → Known IsWritable (domain_stmt cat row q)
    domain row q path = known_map IsType IsWritable (domain_over cat row q) (type_named row.basetext) (known_so IsType (type_named row.basetext) (g.laws.types row.basetext)) (λ base is. ((path, ((is, default row), of_domain row)), refl))

    one : (row : TypeRow) (q : QName) → IsPath q → Known IsWritable (type_in cat row q)
    one row q path = elim (cases_Bool (is_domain_letter row.typtype)) [ inl is ↦ rw is (domain row q path) | inr isnt ↦ rw isnt ((path, labels row), refl) ]

-- ---- tables

pub columns_hold : (cat : Catalogue) → HoldsCells cat → (relation : ℕ) → All table.PgAttribute attribute_cells (columns_of cat relation)
columns_hold cat holds relation =
    numbered_have (IsOf table.PgAttribute attribute_cells) (λ a. a.attnum) (filter (λ a. same_oid relation a.attrelid) cat.pg_attribute)
    (kept_have (IsOf table.PgAttribute attribute_cells) (λ a. same_oid relation a.attrelid) cat.pg_attribute (rows_hold cat holds table.PgAttribute attribute_cells cat.pg_attribute refl))

column_known : (cat : Catalogue) (laws : TextLaws) (standing : List ℕ) (row : AttributeRow) → IsOf table.PgAttribute attribute_cells row → Known IsColumn (column_def cat standing row)
column_known cat laws standing row is =
    known_map IsType IsColumn (typed_column cat standing row) (type_named row.typtext) (known_so IsType (type_named row.typtext) (laws.types row.typtext))
    (λ type_name typed. (is.cells.1.1.0, typed, given_default (inline_default cat standing row) (by (default_at cat row.attrelid row.attnum))))
  where
    one : (d : AttrdefRow) → Known IsDefaultText (unless_standing standing d)
    one d = elim (cases_Bool (has_oid standing d.oid)) [ inl is ↦ rw is tt | inr isnt ↦ rw isnt (known_so IsDefaultText (default_said d.adexpr) (laws.defaults d.adexpr)) ]

    by : (o : Option AttrdefRow) → Known IsDefaultText (option_and_then (unless_standing standing) o)
    by None = tt
    by (Some d) = one d

table_can : (cat : Catalogue) (standing : List ℕ) (o : Obj) → Given cat o → Known IsWritable (table_stmt cat standing o)
unfolding table_stmt by_syntax
table_can cat standing o g =
    let oid = o.id.oid in
    let constraints = rows_hold cat g.holds table.PgConstraint constraint_cells cat.pg_constraint refl in
    let mine = kept_have (IsOf table.PgConstraint constraint_cells) (λ c. same_oid oid c.conrelid) cat.pg_constraint constraints in
    let checks = kept_have (IsOf table.PgConstraint constraint_cells) is_check (filter (λ c. same_oid oid c.conrelid) cat.pg_constraint) mine in
    let checks_ok = checks_can g.laws (table_checks cat oid) (ordered_have (IsOf table.PgConstraint constraint_cells) name_less (filter is_check (filter (λ c. same_oid oid c.conrelid) cat.pg_constraint)) checks) in
    let columns_ok = chosen_have (IsOf table.PgAttribute attribute_cells) IsColumn (column_def cat standing) (columns_of cat oid) (columns_hold cat g.holds oid) (column_known cat g.laws standing) in
    known_map IsPath IsWritable (table_at cat standing oid) (path_of o) g.path (λ q path. ((path, (columns_ok, checks_ok)), refl))

pub column_found : (cat : Catalogue) → HoldsCells cat → (relation : ℕ) (number : ℤ) → Known (IsOf table.PgAttribute attribute_cells) (column_at cat relation number)
column_found cat holds relation number = found_has (IsOf table.PgAttribute attribute_cells) (λ a. same_oid relation a.attrelid && int_eq number a.attnum) cat.pg_attribute (rows_hold cat holds table.PgAttribute attribute_cells cat.pg_attribute refl)

default_can : (cat : Catalogue) (o : Obj) → Given cat o → Known IsWritable (default_stmt cat o)
unfolding default_stmt by_syntax
default_can cat o g = by (default_of cat o.id.oid)
  where
    one : (row : AttrdefRow) (q : QName) → IsPath q → Known IsWritable (default_in cat row q)
    one row q path =
        known_then IsDefaultText IsWritable (λ text. option_map (set_default q text) (column_at cat row.adrelid row.adnum)) (default_said row.adexpr) (known_so IsDefaultText (default_said row.adexpr) (g.laws.defaults row.adexpr))
        (λ text is. known_map (IsOf table.PgAttribute attribute_cells) IsWritable (set_default q text) (column_at cat row.adrelid row.adnum) (column_found cat g.holds row.adrelid row.adnum) (λ a column. ((path, ((column.cells.1.1.0, is), refl)), refl)))

    by : (r : Option AttrdefRow) → Known IsWritable (option_and_then (λ row. option_and_then (default_in cat row) (path_of o)) r)
    by None = tt
    by (Some row) = known_then IsPath IsWritable (default_in cat row) (path_of o) g.path (one row)

-- ---- views

view_can : (cat : Catalogue) (o : Obj) → Given cat o → Known IsWritable (view_stmt cat o)
unfolding view_stmt by_syntax
view_can cat o g = by (view_rewrite cat o.id.oid)
  where
    by : (r : Option RewriteRow) → Known IsWritable (option_and_then (λ row. option_and_then (view_of row) (path_of o)) r)
    by None = tt
    by (Some row) = known_then IsPath IsWritable (view_of row) (path_of o) g.path (λ q path. known_map IsExpressionText IsWritable (stmt.CreateView q) (view_body row.viewdef) (known_so IsExpressionText (view_body row.viewdef) (g.laws.views row.viewdef)) (λ body is. ((path, is), refl)))

rule_can : (cat : Catalogue) (o : Obj) → Given cat o → Known IsWritable (rule_stmt cat o)
unfolding rule_stmt by_syntax
rule_can cat o g = by (rewrite_of cat o.id.oid)
  where
    by : (r : Option RewriteRow) → Known IsWritable (option_and_then (λ row. option_and_then (replaced_by row) (path_of o)) r)
    by None = tt
    by (Some row) = known_then IsPath IsWritable (replaced_by row) (path_of o) g.path (λ q path. known_map IsExpressionText IsWritable (stmt.ReplaceView q) (view_body row.viewdef) (known_so IsExpressionText (view_body row.viewdef) (g.laws.views row.viewdef)) (λ body is. ((path, is), refl)))

dummy_can : (cat : Catalogue) (o : Obj) → Given cat o → Known IsWritable (dummy_stmt cat o)
unfolding dummy_stmt by_syntax
dummy_can cat o g =
    known_map IsPath IsWritable (λ q. stmt.CreateView q (dummy_body cat o.id.oid)) (path_of o) g.path (λ q path. ((path, nulls_are g.laws.types (columns_of cat o.id.oid) (columns_hold cat g.holds o.id.oid)), refl))

-- ---- sequences

sequence_found : (cat : Catalogue) → HoldsCells cat → (oid : ℕ) → Known (IsOf table.PgSequence sequence_cells) (sequence_of cat oid)
sequence_found cat holds oid = found_has (IsOf table.PgSequence sequence_cells) (λ s. same_oid oid s.seqrelid) cat.pg_sequence (rows_hold cat holds table.PgSequence sequence_cells cat.pg_sequence refl)

sequence_can : (cat : Catalogue) (o : Obj) → Given cat o → Known IsWritable (sequence_stmt cat o)
unfolding sequence_stmt by_syntax
sequence_can cat o g =
    known_then (IsOf table.PgSequence sequence_cells) IsWritable (sequence_in o) (sequence_of cat o.id.oid) (sequence_found cat g.holds o.id.oid) (λ row is. by row is (sequence_kind row.seqtype))
  where
    by : (row : SequenceRow) → IsOf table.PgSequence sequence_cells row → (k : Option SequenceKind) → Known IsWritable (option_and_then (λ kind. option_map (of_kind row kind) (path_of o)) k)
    by row is None = tt
    by row is (Some kind) =
        let c = is.cells.1.1 in
        known_map IsPath IsWritable (of_kind row kind) (path_of o) g.path (λ q path. ((path, (c.0, c.1.0, c.1.1.1.0, c.1.1.0, c.1.1.1.1.0)), refl))

value_can : (cat : Catalogue) (o : Obj) → Given cat o → Known IsWritable (value_stmt cat o)
unfolding value_stmt by_syntax
value_can cat o g =
    known_then (IsOf table.PgSequence sequence_cells) IsWritable (λ row. option_map (value_of row) (path_of o)) (sequence_of cat o.id.oid) (sequence_found cat g.holds o.id.oid)
    (λ row is. known_map IsPath IsWritable (value_of row) (path_of o) g.path (λ q path. ((path, (is.cells.1.1.1.1.1.1.1.1.0, tt)), refl)))

pub owned_can : (cat : Catalogue) (o : Obj) → Given cat o → Known IsWritable (owned_stmt cat o)
unfolding owned_stmt by_syntax
owned_can cat o g = by (sequence_of cat o.id.oid)
  where
    one : (row : SequenceRow) (q : QName) → IsPath q → Known IsWritable (owned_in cat row q)
    one row q path =
        known_then IsPath IsWritable (λ t. option_map (owned q t) (column_at cat row.ownrel row.owncol)) (class_path_of cat row.ownrel) (class_path_known cat g.holds row.ownrel)
        (λ t is. known_map (IsOf table.PgAttribute attribute_cells) IsWritable (owned q t) (column_at cat row.ownrel row.owncol) (column_found cat g.holds row.ownrel row.owncol) (λ a column. ((path, ((is, column.cells.1.1.0), refl)), refl)))

    by : (r : Option SequenceRow) → Known IsWritable (option_and_then (λ row. option_and_then (owned_in cat row) (path_of o)) r)
    by None = tt
    by (Some row) = known_then IsPath IsWritable (owned_in cat row) (path_of o) g.path (one row)

-- ---- constraints and indexes

added_can : (q : QName) (name : List ℕ) (s : Stmt) → IsPath q → IsName name → IsWritable s → Known IsWritable (added_to q name s)
unfolding by_syntax
added_can q name (stmt.AddPrimary t key columns rest) path named is = ((path, ((named, is.0.1.0.1), refl)), refl)
added_can q name (stmt.AddUnique t key columns rest) path named is = ((path, ((named, is.0.1.0.1), refl)), refl)
added_can q name (stmt.AddForeign t key columns parent parents rest) path named is = ((path, ((named, is.0.1.0.1), refl)), refl)
added_can q name s path named is = tt

constraint_can : (cat : Catalogue) (o : Obj) → Given cat o → Known IsWritable (constraint_stmt cat o)
unfolding constraint_stmt
constraint_can cat o g =
    known_then (IsOf table.PgConstraint constraint_cells) IsWritable (λ row. option_and_then (added row) (class_path_of cat row.conrelid)) (constraint_of cat o.id.oid)
    (found_has (IsOf table.PgConstraint constraint_cells) (λ c. same_oid o.id.oid c.oid) cat.pg_constraint (rows_hold cat g.holds table.PgConstraint constraint_cells cat.pg_constraint refl))
    (λ row is. known_then IsPath IsWritable (added row) (class_path_of cat row.conrelid) (class_path_known cat g.holds row.conrelid)
    (λ q path. known_then IsWritable IsWritable (added_to q row.conname) (statement_said row.condef) (known_so IsWritable (statement_said row.condef) (g.laws.constraints row.condef)) (λ s can. added_can q row.conname s path is.cells.1.0 can)))

index_can : (cat : Catalogue) (o : Obj) → Given cat o → Known IsWritable (index_stmt cat o)
unfolding index_stmt by_syntax
index_can cat o g = by (index_of cat o.id.oid)
  where
    one : (said : IndexText) → IsIndex said → IsWritable (index_by said)
    one said is = elim (cases_Bool said.unique) [ inl unique ↦ rw unique (((is.0, (is.1, (is.2, is.3))), refl), refl) | inr plain ↦ rw plain (((is.0, (is.1, (is.2, is.3))), refl), refl) ]

    by : (r : Option IndexRow) → Known IsWritable (option_and_then (λ row. option_map index_by (index_said row.indexdef)) r)
    by None = tt
    by (Some row) = known_map IsIndex IsWritable index_by (index_said row.indexdef) (known_so IsIndex (index_said row.indexdef) (g.laws.indexes row.indexdef)) one

-- ---- all kinds

pub kind_can : (cat : Catalogue) (standing : List ℕ) (o : Obj) → Given cat o → Known IsName o.name → (k : ObjKind) → Known IsWritable (stmt_of_kind cat standing o k)
kind_can cat standing o g name kind.Schema = schema_can o.name name
kind_can cat standing o g name kind.UserType = type_can cat o g
kind_can cat standing o g name kind.Table = table_can cat standing o g
kind_can cat standing o g name kind.View = view_can cat o g
kind_can cat standing o g name kind.Dummy = dummy_can cat o g
kind_can cat standing o g name kind.Sequence = sequence_can cat o g
kind_can cat standing o g name kind.Default = default_can cat o g
kind_can cat standing o g name kind.PreData = tt
kind_can cat standing o g name kind.TableData = tt
kind_can cat standing o g name kind.SeqValue = value_can cat o g
kind_can cat standing o g name kind.PostData = tt
kind_can cat standing o g name kind.Constraint = constraint_can cat o g
kind_can cat standing o g name kind.Index = index_can cat o g
kind_can cat standing o g name kind.Rule = rule_can cat o g
kind_can cat standing o g name kind.Foreign = constraint_can cat o g

pub given : (laws : TextLaws) (cat : Catalogue) (o : Obj) → HoldsCells cat → IsNamed o → Given cat o
given laws cat o holds named = record { laws = laws; holds = holds; path = path_so o.schema o.name (known_so IsName o.schema named.0) (known_so IsName o.name named.1) }

pub own_can : (laws : TextLaws) (cat : Catalogue) (standing : List ℕ) (o : Obj) (s : Stmt) → HoldsCells cat → IsNamed o → stmt_of cat standing o ≡ Some s → IsWritable s
unfolding stmt_of
own_can laws cat standing o s holds named is = so_known IsWritable (stmt_of cat standing o) s (kind_can cat standing o (given laws cat o holds named) (known_so IsName o.name named.1) o.kind) is

pub column_can : (laws : TextLaws) (cat : Catalogue) (o : Obj) (s : Stmt) → HoldsCells cat → IsNamed o → owned_stmt cat o ≡ Some s → IsWritable s
column_can laws cat o s holds named is = so_known IsWritable (owned_stmt cat o) s (owned_can cat o (given laws cat o holds named)) is

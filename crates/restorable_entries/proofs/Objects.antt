-- The entries of objects can be restored.
use Rattle.std.proofs.Common.{◌≡◌, ℕ, Bool, true, false, List, [], ◌∷◌, ◌++◌, Option, Some, None, codes, refl, ap, subst, inl, inr}
use Rattle.std.specs.Prelude.{is_some, if◌then◌else◌}
use Rattle.std.specs.Option.{option_to_list}
use Rattle.std.specs.Str.{is_utf8, chars}
use Rattle.std.proofs.Math.Utf8.{encode}
use Rattle.std.proofs.lemmas.Bool.{cases_Bool}
use Rattle.sql_lex.specs.Bytes.{in_line}
use Rattle.cat_book.specs.Chains.{type_of, is_domain_letter}
use Rattle.cat_model.specs.declared.stmt.Stmt.{Stmt}
use Rattle.cat_model.specs.declared.stmt.Stmt.TheVariants as stmt
use Rattle.cat_model.specs.declared.words.Sections.{Sections}
use Rattle.cat_model.specs.declared.words.What.TheVariants as what
use Rattle.cat_model.specs.Values.{Bytes}
use Rattle.cat_rows.specs.declared.catalogue.Catalogue.{Catalogue}
use Rattle.cat_rows.specs.declared.types.TypeRow.{TypeRow}
use Rattle.ddl_laws.specs.Laying.{Lays, no_more, comment_line}
use Rattle.ddl_laws.specs.Respelling.{IsWritable}
use Rattle.fmt_text.specs.Owners.{kind_of, owned_object, path_of as entry_path}
use Rattle.fmt_text.specs.Parts.{is_table_data, text_or_none, body}
use Rattle.graph_parts.specs.declared.object.Obj.{Obj}
use Rattle.graph_parts.specs.declared.object.ObjKind.{ObjKind}
use Rattle.graph_parts.specs.declared.object.ObjKind.TheVariants as kind
use Rattle.obj_graph.specs.Closed.{is_in_sections}
use Rattle.dump_stmts.specs.Paths.{written, is_public}
use Rattle.dump_stmts.specs.Stmts.{schema_stmt, stmt_of_kind, schema_defn, defn_of_kind, defn_of}
use Rattle.dump_stmts.specs.Tables.{copy_of}
use Rattle.dump_toc.specs.declared.draft.Draft.{Draft}
use Rattle.dump_toc.specs.Drafts.{copy_of_kind, object_draft, beside}
use Rattle.dump_toc.specs.Numbers.{entry_of}
use Rattle.dump_toc.specs.Tags.{type_desc, desc_of_kind, desc_of}
use Rattle.restore_steps.specs.Faults.{is_taken, left_out}
use Rattle.restore_steps.specs.Statements.{owner_statement, rows_steps, statements}
use Rattle.script_laws.proofs.Lines.{known_shown}
use Rattle.stmt_laws.specs.Named.{HoldsCells}
use Rattle.stmt_laws.proofs.Lists.{Known}
use Rattle.stmt_laws.proofs.Objects.{given}
use Rattle.toc_entry.specs.declared.entry.Entry.{Entry}
use Rattle.toc_laws.specs.Dumps.{is_data, IsDumpable, HasRows}
use Rattle.toc_laws.proofs.Bodies.{Said, SpelledLaw, copy_stmt, spelled_lays, written_lays, rows_are, lines_behind}
use Rattle.toc_laws.proofs.Dumps.{Laws, stmt_known, has_copy}
use Rattle.toc_laws.proofs.Statements.{LaidLaw}
use Rattle.restorable_entries.proofs.Running.{Runs, made_runs, rows_run}

-- it is not left out, and does what it says, with its rows where it has some
abbrev pub IsReady : Entry → Type 0
IsReady e = (left_out e ≡ None) × ((rows : Option Bytes) → HasRows e rows → Runs e rows)

-- an entry without a number
abbrev pub plain : Draft → Entry
plain d = entry_of [] 0 d

pub renumbered : (ids : List (Option ℕ)) (id : ℕ) (d : Draft) → IsReady (plain d) → IsReady (entry_of ids id d)
unfolding left_out statements rows_steps body owner_statement owned_object entry_path
renumbered ids id d ready = (ready.0, λ rows has. ready.1 rows has)

taken : (d : Draft) → is_taken d.desc ≡ true → left_out (plain d) ≡ None
unfolding left_out
taken d is = ap (λ (b : Bool). if b then None else Some (what.EntryKind d.desc)) is

-- what says something of an object, by statements alone
pub beside_ready : LaidLaw → (cat : Catalogue) (o : Obj) (desc tag defn : Bytes) (section : ℕ) (needs : List ℕ) → is_taken desc ≡ true → is_table_data desc ≡ false → (ss : List Stmt) → Lays defn ss → IsReady (plain (beside cat o desc section tag defn needs))
beside_ready law cat o desc tag defn section needs is other ss lays =
    let d = beside cat o desc section tag defn needs in
    (taken d is, λ rows has. made_runs (plain d) rows ss refl other (law defn ss lays) (law (defn ++ codes "\n\n") ss (lines_behind defn ss lays)))

-- ---- definitions

schema_by : SpelledLaw → (public : Bool) (name : List ℕ) → Known IsWritable (if public then None else Some (stmt.CreateSchema name))
    → Said (if public then codes "-- *not* creating schema, since initdb creates it\n" else written (if public then None else Some (stmt.CreateSchema name)))
unfolding in_line is_utf8 chars encode
schema_by law true name k = ([], comment_line (codes " *not* creating schema, since initdb creates it") [] [] (known_shown _ refl refl) no_more)
schema_by law false name k = (stmt.CreateSchema name ∷ [], spelled_lays law (stmt.CreateSchema name) k)

schema_said : SpelledLaw → (name : Option (List ℕ)) → Known IsWritable (schema_stmt name) → Said (schema_defn name)
schema_said law None k = ([], no_more)
schema_said law (Some name) k = schema_by law (is_public name) name k

defn_said : SpelledLaw → (cat : Catalogue) (standing : List ℕ) (o : Obj) (k : ObjKind) → Known IsWritable (stmt_of_kind cat standing o k) → Said (defn_of_kind cat standing o k)
defn_said law cat standing o kind.Schema can = schema_said law o.name can
defn_said law cat standing o other can = (option_to_list (stmt_of_kind cat standing o other), written_lays law (stmt_of_kind cat standing o other) can)

-- ---- kinds

type_taken : (r : Option TypeRow) → is_taken (type_desc r) ≡ true
type_taken None = refl
type_taken (Some row) = elim (cases_Bool (is_domain_letter row.typtype)) [ inl is ↦ rw is refl | inr isnt ↦ rw isnt refl ]

kind_taken : (cat : Catalogue) (o : Obj) (sections : Sections) (k : ObjKind) → is_in_sections sections k ≡ true → is_taken (desc_of_kind cat o k) ≡ true
kind_taken cat o sections kind.UserType is = type_taken (type_of cat.pg_type o.id.oid)
kind_taken cat o sections kind.PreData is = absurd cc
kind_taken cat o sections kind.PostData is = absurd cc
kind_taken cat o sections other is = refl

no_copy : (cat : Catalogue) (o : Obj) (k : ObjKind) → is_data k ≡ false → is_some (copy_of_kind cat o k) ≡ false
no_copy cat o kind.TableData e = absurd cc
no_copy cat o other e = refl

type_other : (r : Option TypeRow) → is_table_data (type_desc r) ≡ false
type_other None = refl
type_other (Some row) = elim (cases_Bool (is_domain_letter row.typtype)) [ inl is ↦ rw is refl | inr isnt ↦ rw isnt refl ]

not_data : (cat : Catalogue) (o : Obj) (k : ObjKind) → is_data k ≡ false → is_table_data (desc_of_kind cat o k) ≡ false
not_data cat o kind.TableData e = absurd cc
not_data cat o kind.UserType e = type_other (type_of cat.pg_type o.id.oid)
not_data cat o other e = refl

data_desc : (cat : Catalogue) (o : Obj) (k : ObjKind) → is_data k ≡ true → is_table_data (desc_of_kind cat o k) ≡ true
data_desc cat o kind.TableData e = refl
data_desc cat o other e = absurd cc

data_defn : (cat : Catalogue) (standing : List ℕ) (o : Obj) (k : ObjKind) → is_data k ≡ true → defn_of_kind cat standing o k ≡ []
data_defn cat standing o kind.TableData e = refl
data_defn cat standing o other e = absurd cc

data_owner : (cat : Catalogue) (o : Obj) (k : ObjKind) → is_data k ≡ true → kind_of (desc_of_kind cat o k) ≡ None
unfolding kind_of
data_owner cat o kind.TableData e = refl
data_owner cat o other e = absurd cc

data_copy : (cat : Catalogue) (o : Obj) (k : ObjKind) → is_data k ≡ true → copy_of cat o ≡ text_or_none (copy_of_kind cat o k)
data_copy cat o kind.TableData e = refl
data_copy cat o other e = absurd cc

-- ---- objects

pub object_ready : LaidLaw → (laws : Laws) (cat : Catalogue) (standing : List ℕ) (o : Obj) (needs : List ℕ) (sections : Sections) → HoldsCells cat → IsDumpable cat o → is_in_sections sections o.kind ≡ true → IsReady (plain (object_draft cat standing o needs))
unfolding object_draft desc_of defn_of
object_ready law laws cat standing o needs sections holds d is =
    let draft = object_draft cat standing o needs in (
      taken draft (kind_taken cat o sections o.kind is),
      λ rows has. elim (cases_Bool (is_data o.kind)) [
        | inl holds_rows ↦ (
            let q = d.path holds_rows in
            let r = has (has_copy cat o o.kind holds_rows) in
            let lays = rows_are cat holds o q.0 (given laws.text cat o holds d.named).path q.1 rows r.0 r.1 r.2 in
            rows_run law (plain draft) rows (copy_stmt cat o.id.oid q.0 r.0 ∷ []) (has_copy cat o o.kind holds_rows) (data_desc cat o o.kind holds_rows) (data_defn cat standing o o.kind holds_rows) (data_owner cat o o.kind holds_rows)
            (law _ _ (subst (λ (copy : Bytes). Lays (copy ++ text_or_none rows) (copy_stmt cat o.id.oid q.0 r.0 ∷ [])) (data_copy cat o o.kind holds_rows) lays)))
        | inr other ↦ (
            let text = defn_said laws.spelled cat standing o o.kind (stmt_known laws cat standing o holds d) in
            made_runs (plain draft) rows text.0 (no_copy cat o o.kind other) (not_data cat o o.kind other) (law _ text.0 text.1) (law _ text.0 (lines_behind _ text.0 text.1)))
      ],
    )

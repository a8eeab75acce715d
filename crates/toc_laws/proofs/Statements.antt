-- What each entry says.
use Rattle.std.proofs.Common.{◌≡◌, ℕ, Bool, true, false, List, [], ◌∷◌, ◌++◌, append-nil, Option, Some, None, Ok, refl, ap, ◌∙◌, inl, inr, codes}
use Rattle.std.specs.Prelude.{option_and_then}
use Rattle.std.specs.Option.{option_to_list}
use Rattle.std.proofs.lemmas.Bool.{cases_Bool}
use Rattle.cat_model.specs.declared.grant.Granted.{Granted}
use Rattle.cat_model.specs.declared.object.QName.{QName}
use Rattle.cat_model.specs.declared.stmt.Stmt.{Stmt}
use Rattle.cat_model.specs.declared.stmt.Stmt.TheVariants as stmt
use Rattle.cat_model.specs.Values.{Bytes}
use Rattle.cat_rows.specs.declared.catalogue.Catalogue.{Catalogue}
use Rattle.cat_rows.specs.declared.types.TypeRow.{TypeRow}
use Rattle.cat_book.specs.Chains.{type_of, is_domain_letter}
use Rattle.ddl_laws.specs.Rows.{AreRows}
use Rattle.ddl_laws.specs.located.Located.{Located}
use Rattle.ddl_laws.specs.Reading.{statements_of}
use Rattle.ddl_laws.specs.Laying.{Lays}
use Rattle.ddl_laws.specs.{Respelling.IsWritable, Respelling.AllWritable, Spellings.said}
use Rattle.fmt_text.specs.declared.owner.OwnedKind.{OwnedKind}
use Rattle.fmt_text.specs.Owners.{kind_of, name_in, object_of, owned_object}
use Rattle.fmt_text.specs.Parts.{is_of_session, is_table_data, text_or_none, body}
use Rattle.graph_parts.specs.declared.object.Obj.{Obj}
use Rattle.graph_parts.specs.declared.object.ObjKind.{ObjKind}
use Rattle.graph_parts.specs.declared.object.ObjKind.TheVariants as kind
use Rattle.toc_entry.specs.declared.entry.Entry.{Entry}
use Rattle.dump_grants.specs.Stmts.{texts}
use Rattle.dump_stmts.specs.Paths.{path_of, written}
use Rattle.dump_stmts.specs.Sequences.{owned_stmt}
use Rattle.dump_stmts.specs.Stmts.{stmt_of, defn_of}
use Rattle.dump_stmts.specs.Tables.{copy_of}
use Rattle.dump_toc.specs.Comments.{Remark, remark_draft}
use Rattle.dump_toc.specs.Drafts.{object_draft, beside, owned_with}
use Rattle.dump_toc.specs.Numbers.{entry_of}
use Rattle.dump_toc.specs.Rights.{grants_draft}
use Rattle.dump_toc.specs.Tags.{type_desc, desc_of_kind, desc_of}
use Rattle.script_laws.specs.Scripts.{found_in, given_to, owner_statements, entry_statements}
use Rattle.stmt_laws.specs.Named.{HoldsCells}
use Rattle.stmt_laws.proofs.Objects.{given, owned_can}
use Rattle.stmt_laws.proofs.Lists.{so_known}
use Rattle.toc_laws.specs.Dumps.{is_data, IsDumpable, ended}
use Rattle.toc_laws.proofs.Bodies.{SpelledLaw, copy_stmt, object_body, spelled_lays, texts_lay, object_lays, rows_are, lines_behind}
use Rattle.toc_laws.proofs.Dumps.{Laws, stmt_known}

abbrev pub LaidLaw : Type 0
LaidLaw = (text : List ℕ) (statements : List Stmt) → Lays text statements → (found : List Located) × (statements_of text ≡ Ok found) × (said found ≡ statements)

-- ---- what lies in the body of an entry is what it says

says_so : LaidLaw → (owners : Bool) (e : Entry) (rows : Option Bytes) (ss : List Stmt) → is_of_session e.desc ≡ false → Lays (body e rows) ss → entry_statements owners e rows ≡ ss ++ owner_statements owners e
unfolding entry_statements
says_so law owners e rows ss other lays =
    let r = law (body e rows) ss lays in
    rw other (ap (λ (x : List Stmt). x ++ owner_statements owners e) (ap found_in r.1 ∙ r.2))

pub nobody : (r : Option Bytes) → given_to None r ≡ []
nobody None = refl
nobody (Some role) = refl

no_owner : (owners : Bool) (e : Entry) → kind_of e.desc ≡ None → owner_statements owners e ≡ []
unfolding owned_object
no_owner false e is = refl
no_owner true e is = ap (λ (k : Option OwnedKind). given_to (object_of e k) (option_and_then name_in e.owner)) is ∙ nobody (option_and_then name_in e.owner)

says_alone : LaidLaw → (owners : Bool) (e : Entry) (rows : Option Bytes) (ss : List Stmt) → is_of_session e.desc ≡ false → kind_of e.desc ≡ None → Lays (body e rows) ss → entry_statements owners e rows ≡ ss
says_alone law owners e rows ss other none lays = says_so law owners e rows ss other lays ∙ ap (λ (x : List Stmt). ss ++ x) (no_owner owners e none) ∙ append-nil ss

-- ---- objects

type_plain : (r : Option TypeRow) → is_of_session (type_desc r) ≡ false
type_plain None = refl
type_plain (Some row) = elim (cases_Bool (is_domain_letter row.typtype)) [ inl is ↦ rw is refl | inr isnt ↦ rw isnt refl ]

kind_plain : (cat : Catalogue) (o : Obj) (k : ObjKind) → is_of_session (desc_of_kind cat o k) ≡ false
kind_plain cat o kind.UserType = type_plain (type_of cat.pg_type o.id.oid)
kind_plain cat o other = refl

pub object_says_so : LaidLaw → (laws : Laws) (cat : Catalogue) (standing : List ℕ) (o : Obj) (needs : List ℕ) (ids : List (Option ℕ)) (id : ℕ) (owners : Bool) (rows : Option Bytes) → HoldsCells cat → IsDumpable cat o → is_data o.kind ≡ false
    → entry_statements owners (entry_of ids id (object_draft cat standing o needs)) rows ≡ option_to_list (stmt_of cat standing o) ++ owner_statements owners (entry_of ids id (object_draft cat standing o needs))
unfolding object_draft body desc_of defn_of stmt_of
object_says_so law laws cat standing o needs ids id owners rows holds d e =
    says_so law owners (entry_of ids id (object_draft cat standing o needs)) rows (option_to_list (stmt_of cat standing o)) (kind_plain cat o o.kind)
    (object_lays laws.spelled cat standing o rows o.kind (stmt_known laws cat standing o holds d) e)

data_body : (cat : Catalogue) (standing : List ℕ) (o : Obj) (rows : Option Bytes) (ss : List Stmt) (k : ObjKind) → is_data k ≡ true → Lays (copy_of cat o ++ text_or_none rows) ss → Lays (object_body cat standing o k rows) ss
data_body cat standing o rows ss kind.TableData is lays = lays
data_body cat standing o rows ss other is lays = absurd cc

data_owner : (cat : Catalogue) (o : Obj) (k : ObjKind) → is_data k ≡ true → kind_of (desc_of_kind cat o k) ≡ None
unfolding kind_of
data_owner cat o kind.TableData is = refl
data_owner cat o other is = absurd cc

pub rows_say_so : LaidLaw → (laws : Laws) (cat : Catalogue) (standing : List ℕ) (o : Obj) (needs : List ℕ) (ids : List (Option ℕ)) (id : ℕ) (owners : Bool) (q : QName) (r : Bytes) → HoldsCells cat → IsDumpable cat o → is_data o.kind ≡ true → path_of o ≡ Some q → AreRows r
    → entry_statements owners (entry_of ids id (object_draft cat standing o needs)) (Some (ended r)) ≡ copy_stmt cat o.id.oid q r ∷ []
unfolding object_draft body desc_of defn_of
rows_say_so law laws cat standing o needs ids id owners q r holds d is path are =
    let lays = rows_are cat holds o q (given laws.text cat o holds d.named).path path (Some (ended r)) r are refl in
    says_alone law owners (entry_of ids id (object_draft cat standing o needs)) (Some (ended r)) (copy_stmt cat o.id.oid q r ∷ []) (kind_plain cat o o.kind) (data_owner cat o o.kind is)
    (data_body cat standing o (Some (ended r)) (copy_stmt cat o.id.oid q r ∷ []) o.kind is lays)

-- ---- what stands beside an object

beside_says : LaidLaw → (cat : Catalogue) (o : Obj) (desc tag defn : Bytes) (section : ℕ) (needs : List ℕ) (ids : List (Option ℕ)) (id : ℕ) (owners : Bool) (rows : Option Bytes) (ss : List Stmt) → is_of_session desc ≡ false → is_table_data desc ≡ false → kind_of desc ≡ None → Lays defn ss
    → entry_statements owners (entry_of ids id (beside cat o desc section tag defn needs)) rows ≡ ss
unfolding body
beside_says law cat o desc tag defn section needs ids id owners rows ss other plain none lays =
    says_alone law owners (entry_of ids id (beside cat o desc section tag defn needs)) rows ss other none (rw plain (lines_behind defn ss lays))

pub comment_says : LaidLaw → SpelledLaw → (cat : Catalogue) (o : Obj) (place : ℕ) (r : Remark) (ids : List (Option ℕ)) (id : ℕ) (owners : Bool) (rows : Option Bytes) → IsWritable (stmt.Comment r.0 (Some r.1))
    → entry_statements owners (entry_of ids id (remark_draft cat o place r)) rows ≡ stmt.Comment r.0 (Some r.1) ∷ []
unfolding kind_of
comment_says law spelled cat o place r ids id owners rows can =
    beside_says law cat o (codes "COMMENT") _ (written (Some (stmt.Comment r.0 (Some r.1)))) 1 (place ∷ []) ids id owners rows (stmt.Comment r.0 (Some r.1) ∷ []) refl refl refl (spelled_lays spelled (stmt.Comment r.0 (Some r.1)) can)

pub column_says : LaidLaw → (laws : Laws) (cat : Catalogue) (objects : List Obj) (o : Obj) (needs : List ℕ) (place : ℕ) (s : Stmt) (ids : List (Option ℕ)) (id : ℕ) (owners : Bool) (rows : Option Bytes) → HoldsCells cat → IsDumpable cat o → owned_stmt cat o ≡ Some s
    → entry_statements owners (entry_of ids id (owned_with cat objects o needs place (written (Some s)))) rows ≡ s ∷ []
unfolding kind_of
column_says law laws cat objects o needs place s ids id owners rows holds d is =
    beside_says law cat o (codes "SEQUENCE OWNED BY") _ (written (Some s)) 2 _ ids id owners rows (s ∷ []) refl refl refl (spelled_lays laws.spelled s (so_known IsWritable (owned_stmt cat o) s (owned_can cat o (given laws.text cat o holds d.named)) is))

pub grants_say : LaidLaw → SpelledLaw → (cat : Catalogue) (o : Obj) (place : ℕ) (what : Granted) (ss : List Stmt) (ids : List (Option ℕ)) (id : ℕ) (owners : Bool) (rows : Option Bytes) → AllWritable ss
    → entry_statements owners (entry_of ids id (grants_draft cat o place what ss)) rows ≡ ss
unfolding kind_of
grants_say law spelled cat o place what ss ids id owners rows can =
    beside_says law cat o (codes "ACL") _ (texts ss) 1 (place ∷ []) ids id owners rows ss refl refl refl (texts_lay spelled ss can)

-- The parts of a script lie in it, and it reads as its statements.
use Rattle.std.proofs.Common.{◌≡◌, ℕ, Bool, true, false, List, [], ◌∷◌, ◌++◌, append-nil, Option, Some, None, Ok, refl, sym, ap, subst, ◌∙◌, inl, inr, codes}
use Rattle.std.specs.Prelude.{◌↔◌, IsTrue, option_and_then}
use Rattle.std.specs.Option.{option_map}
use Rattle.std.specs.List.{AllByRecursion, flat_map}
use Rattle.std.specs.Str.{IsUtf8, is_utf8, chars}
use Rattle.std.proofs.Math.Utf8.{encode}
use Rattle.std.proofs.lemmas.Bool.{cases_Bool}
use Rattle.sql_lex.specs.Bytes.{in_line}
use Rattle.copy_text.specs.Texts.{IsName, is_name}
use Rattle.cat_model.specs.declared.grant.Owned.{Owned}
use Rattle.cat_model.specs.declared.grant.Owned.TheVariants as owned
use Rattle.cat_model.specs.declared.stmt.Stmt.{Stmt}
use Rattle.cat_model.specs.declared.stmt.Stmt.TheVariants as stmt
use Rattle.ddl_laws.specs.located.Located.{Located}
use Rattle.ddl_laws.specs.Reading.{statements_of}
use Rattle.ddl_grammar.proofs.Spelled.{by_syntax}
use Rattle.ddl_laws.specs.Respelling.{spelling}
use Rattle.ddl_laws.specs.Laying.{Lays, no_more, empty_line, statement_text}
use Rattle.ddl_laws.specs.{Respelling.IsPath, Respelling.IsWritable, Spellings.said}
use Rattle.fmt_text.specs.declared.owner.OwnedKind.{OwnedKind}
use Rattle.fmt_text.specs.declared.owner.OwnedKind.TheVariants as kinds
use Rattle.fmt_text.specs.Owners.{name_in, joined, path_of, object_of, owned_object, given, owner_part}
use Rattle.fmt_text.specs.Lines.{title}
use Rattle.fmt_text.specs.Parts.{is_of_session, about, body, part}
use Rattle.fmt_text.specs.Script.{script_head, script_end, parts, script}
use Rattle.toc_entry.specs.declared.entry.Entry.{Entry}
use Rattle.toc_entry.specs.declared.head.Head.{Head}
use Rattle.script_laws.specs.Scripts.{session_statements, found_in, statements_in, given_to, owner_statements, entry_statements, AllEntries, rows_of, script_statements, IsStated}
use Rattle.script_laws.proofs.Lines.{lays_both, known_shown, title_lays, versions_lay, about_shown}
use Rattle.script_laws.proofs.Session.{ReadLaw, session_lays}

abbrev pub LaidLaw : Type 0
LaidLaw = (text : List ℕ) (statements : List Stmt) → Lays text statements → (found : List Located) × (statements_of text ≡ Ok found) × (said found ≡ statements)

abbrev pub NameLaw : Type 0
NameLaw = (bytes : List ℕ) → IsTrue (is_name bytes) ↔ IsName bytes

-- ---- owners

-- what holds of a value, where there is one
abbrev Known : {A : Type 0} → (A → Type 0) → Option A → Type 0
Known P None = Unit {0}
Known P (Some x) = P x

name_known : NameLaw → (text : List ℕ) → Known IsName (name_in text)
unfolding name_in
name_known law text = elim (cases_Bool (is_name text)) [ inl is ↦ rw is ((law text).0 is) | inr isnt ↦ rw isnt tt ]

name_behind : NameLaw → (o : Option (List ℕ)) → Known IsName (option_and_then name_in o)
name_behind law None = tt
name_behind law (Some text) = name_known law text

path_known : (schema name : Option (List ℕ)) → Known IsName schema → Known IsName name → Known IsPath (joined schema name)
path_known (Some schema) (Some name) s n = (s, n)
path_known None name s n = tt
path_known (Some schema) None s n = tt

entry_path_known : NameLaw → (e : Entry) → Known IsPath (path_of e)
unfolding path_of
entry_path_known law e = path_known (option_and_then name_in e.namespace) (name_in e.tag) (name_behind law e.namespace) (name_known law e.tag)

-- an object that can be given to any role
abbrev IsOwned : Owned → Type 0
IsOwned object = (role : List ℕ) → IsName role → IsWritable (stmt.OwnerTo object role)

mapped : {A : Type 0} (P : A → Type 0) (f : A → Owned) (o : Option A) → ((x : A) → P x → IsOwned (f x)) → Known P o → Known IsOwned (option_map f o)
mapped P f None h k = tt
mapped P f (Some x) h k = h x k

object_known : NameLaw → (e : Entry) (kind : Option OwnedKind) → Known IsOwned (object_of e kind)
unfolding by_syntax
object_known law e None = tt
object_known law e (Some kinds.Schema) = mapped IsName owned.Schema (name_in e.tag) (λ n is role named. ((is, named), refl)) (name_known law e.tag)
object_known law e (Some kinds.Type) = mapped IsPath owned.Type (path_of e) (λ q is role named. ((is, named), refl)) (entry_path_known law e)
object_known law e (Some kinds.Domain) = mapped IsPath owned.Domain (path_of e) (λ q is role named. ((is, (named, refl)), refl)) (entry_path_known law e)
object_known law e (Some kinds.Table) = mapped IsPath owned.Table (path_of e) (λ q is role named. ((is, (named, refl)), refl)) (entry_path_known law e)
object_known law e (Some kinds.Sequence) = mapped IsPath owned.Sequence (path_of e) (λ q is role named. ((is, (named, refl)), refl)) (entry_path_known law e)
object_known law e (Some kinds.View) = mapped IsPath owned.View (path_of e) (λ q is role named. ((is, named), refl)) (entry_path_known law e)

given_lays : (o : Option Owned) (r : Option (List ℕ)) → Known IsOwned o → Known IsName r → Lays (given o r) (given_to o r)
given_lays (Some object) (Some role) is named = statement_text (stmt.OwnerTo object role) (10 ∷ []) [] (is role named) (empty_line [] [] no_more)
given_lays None r is named = no_more
given_lays (Some object) None is named = no_more

owner_lays : NameLaw → (owners : Bool) (e : Entry) → Lays (owner_part owners e) (owner_statements owners e)
unfolding owner_part owned_object
owner_lays law false e = no_more
owner_lays law true e = given_lays (owned_object e) (option_and_then name_in e.owner) (object_known law e _) (name_behind law e.owner)

-- ---- entries

body_says : LaidLaw → (text : List ℕ) (statements : List Stmt) → Lays text statements → Lays text (statements_in text)
body_says law text statements lays =
    let r = law text statements lays in
    subst (Lays text) (sym r.2 ∙ ap found_in (sym r.1)) lays

part_lays : LaidLaw → NameLaw → (owners : Bool) (e : Entry) (rows : Option (List ℕ)) → IsStated e rows → Lays (part owners e rows) (entry_statements owners e rows)
unfolding part entry_statements
part_lays law names owners e rows is = elim (cases_Bool (is_of_session e.desc)) [
  | inl session ↦ rw session no_more
  | inr isnt ↦ rw isnt (
      let h = is.lays isnt in
      let shown = about_shown owners e is.tag is.desc is.namespace is.owner in
      let named : Lays (title (about owners e) ++ body e rows) (statements_in (body e rows)) = lays_both (title (about owners e)) (body e rows) [] (statements_in (body e rows)) (title_lays (about owners e) shown) (body_says law (body e rows) h.0 h.1) in
      lays_both (title (about owners e) ++ body e rows) (owner_part owners e) (statements_in (body e rows)) (owner_statements owners e) named (owner_lays names owners e))
]

parts_lay : LaidLaw → NameLaw → (owners : Bool) (entries : AllEntries) → AllByRecursion (λ e. IsStated e.0 (rows_of e)) entries → Lays (parts owners entries) (flat_map (λ e. entry_statements owners e.0 (rows_of e)) entries)
unfolding parts
parts_lay law names owners [] all = no_more
parts_lay law names owners (e ∷ entries) all =
    lays_both (part owners e.0 (rows_of e)) (parts owners entries) (entry_statements owners e.0 (rows_of e)) (flat_map (λ e. entry_statements owners e.0 (rows_of e)) entries)
    (part_lays law names owners e.0 (rows_of e) all.0) (parts_lay law names owners entries all.1)

-- ---- scripts

head_lays : ReadLaw → (head : Head) → IsUtf8 head.server → IsUtf8 head.dumper → Lays (script_head head) session_statements
unfolding script_head in_line is_utf8 chars encode
head_lays law head server dumper =
    lays_both _ _ [] session_statements
    (lays_both _ _ [] [] (title_lays (codes "PostgreSQL database dump") (known_shown _ refl refl)) (versions_lay head.server head.dumper server dumper))
    (session_lays law)

end_lays : Lays script_end []
unfolding script_end in_line is_utf8 chars encode
end_lays = title_lays (codes "PostgreSQL database dump complete") (known_shown _ refl refl)

pub script_lays : LaidLaw → ReadLaw → NameLaw → (head : Head) (entries : AllEntries) (owners : Bool) → IsUtf8 head.server → IsUtf8 head.dumper → AllByRecursion (λ e. IsStated e.0 (rows_of e)) entries → Lays (script head entries owners) (script_statements owners entries)
unfolding script
script_lays law read names head entries owners server dumper all =
    let front = lays_both (script_head head) (parts owners entries) session_statements (flat_map (λ e. entry_statements owners e.0 (rows_of e)) entries) (head_lays read head server dumper) (parts_lay law names owners entries all) in
    subst (Lays (script_head head ++ parts owners entries ++ script_end)) (append-nil (script_statements owners entries))
    (lays_both (script_head head ++ parts owners entries) script_end (script_statements owners entries) [] front end_lays)

pub script_reads : LaidLaw → ReadLaw → NameLaw → (head : Head) (entries : AllEntries) (owners : Bool) → IsUtf8 head.server → IsUtf8 head.dumper → AllByRecursion (λ e. IsStated e.0 (rows_of e)) entries
    → (found : List Located) × (statements_of (script head entries owners) ≡ Ok found) × (said found ≡ script_statements owners entries)
script_reads law read names head entries owners server dumper all = law (script head entries owners) (script_statements owners entries) (script_lays law read names head entries owners server dumper all)

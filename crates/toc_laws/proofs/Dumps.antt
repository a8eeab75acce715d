-- The entries of a dump are stated, draft by draft.
use Rattle.std.proofs.Common.{◌≡◌, ℕ, ◌+◌, true, false, List, [], ◌∷◌, ◌++◌, Option, Some, None, refl, sym, subst, ◌∙◌, inl, inr, codes}
use Rattle.std.specs.Prelude.{Bool, is_some, filter_map, if◌then◌else◌}
use Rattle.std.specs.List.{AllByRecursion, enumerate_from, slice_index_or}
use Rattle.std.specs.Option.{ForSome, option_and_then, option_map, option_to_list}
use Rattle.std.specs.Str.{is_utf8, IsUtf8, chars}
use Rattle.std.proofs.Math.Utf8.{encode}
use Rattle.std.proofs.lemmas.Bool.{cases_Bool, false≢true}
use Rattle.std.proofs.lemmas.Str.{IsUtf8-from_is_utf8}
use Rattle.acl_text.specs.declared.list.AclItem.{AclItem}
use Rattle.copy_text.specs.Texts.{IsName}
use Rattle.cat_model.specs.declared.grant.Granted.{Granted}
use Rattle.cat_model.specs.declared.grant.Granted.TheVariants as granted
use Rattle.cat_model.specs.declared.stmt.Stmt.{Stmt}
use Rattle.cat_model.specs.declared.stmt.Stmt.TheVariants as stmt
use Rattle.cat_model.specs.Values.{Bytes}
use Rattle.cat_rows.specs.declared.catalogue.Catalogue.{Catalogue}
use Rattle.cat_rows.specs.declared.table.SysTable.TheVariants as table
use Rattle.cat_rows.specs.RowCells.{database_cells}
use Rattle.ddl_laws.specs.Laying.{Lays}
use Rattle.ddl_laws.specs.Respelling.{IsPath, IsWritable, AllWritable}
use Rattle.ddl_laws.specs.Writable.{IsObject}
use Rattle.dep_sort.specs.Ordering.{Sorted}
use Rattle.fmt_text.specs.Parts.{is_of_session, is_table_data, text_or_none, body}
use Rattle.graph_parts.specs.declared.object.Obj.{Obj}
use Rattle.graph_parts.specs.declared.object.ObjKind.{ObjKind}
use Rattle.graph_parts.specs.declared.object.ObjKind.TheVariants as kind
use Rattle.obj_graph.specs.declared.select.Select.{Select}
use Rattle.obj_graph.specs.Closed.{is_in_sections}
use Rattle.toc_entry.specs.declared.entry.Entry.{Entry}
use Rattle.dump_grants.specs.Stmts.{grant_stmts, texts}
use Rattle.dump_stmts.specs.Paths.{path_of, written}
use Rattle.dump_stmts.specs.Stmts.{stmt_of_kind, defn_of}
use Rattle.dump_stmts.specs.Sequences.{owned_stmt}
use Rattle.dump_toc.specs.declared.draft.Draft.{Draft}
use Rattle.dump_toc.specs.Owners.{owner_of}
use Rattle.dump_toc.specs.Tags.{tag_of, desc_of, comment_tag, grants_tag}
use Rattle.cat_names.specs.Lookups.{role_name}
use Rattle.dump_stmts.specs.Tables.{copy_of}
use Rattle.dump_toc.specs.Drafts.{copy_of_kind, object_draft, beside, owner_table, owner_needs, owned_with, owned_drafts_of}
use Rattle.dump_toc.specs.Comments.{Remark, remarks_of, remark_draft}
use Rattle.dump_toc.specs.Rights.{granted_as, grant_kind, acl_of, grants_draft, granted_draft, rights_draft}
use Rattle.dump_toc.specs.Numbers.{first_ids, entry_of, entries_from}
use Rattle.dump_toc.specs.Session.{pre_data, database_entry, current_database, session_entries}
use Rattle.dump_toc.specs.Toc.{standing_of, comment_drafts, drafts_at, taken_at, places_of, object_drafts, counts_of, granted_at, grants_of, drafts_of, toc_of}
use Rattle.script_laws.specs.Scripts.{AllEntries, rows_of, IsStated}
use Rattle.stmt_laws.specs.Named.{HoldsCells}
use Rattle.stmt_laws.proofs.Lists.{Known, known_so, known_map, found_has, seen_have, chosen_have}
use Rattle.stmt_laws.proofs.Rows.{IsOf, rows_hold}
use Rattle.stmt_laws.proofs.Objects.{TextLaws, given, kind_can, owned_can}
use Rattle.cat_names.specs.declared.rights.GrantKind.{GrantKind}
use Rattle.grant_laws.specs.Items.{kind_on, IsRoleName, IsItem}
use Rattle.toc_laws.specs.Dumps.{is_data, AreRights, IsDumpable, IsDump, HasRows, HaveRows, entries_in}
use Rattle.toc_laws.proofs.Names.{tag_text, desc_text, names_text, owner_text, role_known, comment_text, grants_text}
use Rattle.toc_laws.proofs.Remarks.{CanRemark, remarks_are, both_have, all_have}
use Rattle.toc_laws.proofs.Bodies.{Said, SpelledLaw, copy_stmt, spelled_lays, texts_lay, object_says, rows_are, lines_behind}

-- with its rows, where it has some, it is stated
abbrev Ready : Entry → Type 0
Ready e = (rows : Option Bytes) → HasRows e rows → IsStated e rows

-- an entry without a number
abbrev plain : Draft → Entry
plain d = entry_of [] 0 d

renumbered : (ids : List (Option ℕ)) (id : ℕ) (d : Draft) → Ready (plain d) → Ready (entry_of ids id d)
unfolding body
renumbered ids id d ready rows has = let h = ready rows has in record { tag = h.tag; desc = h.desc; namespace = h.namespace; owner = h.owner; lays = h.lays }

-- ---- what stands beside an object

beside_ready : (cat : Catalogue) → HoldsCells cat → (o : Obj) → Known IsName o.schema → (desc tag defn : Bytes) (section : ℕ) (needs : List ℕ) → is_utf8 desc ≡ true → is_table_data desc ≡ false → IsUtf8 tag → (ss : List Stmt) → Lays defn ss → Ready (plain (beside cat o desc section tag defn needs))
unfolding body
beside_ready cat holds o schema desc tag defn section needs text other called ss lays rows has = record {
  tag = called;
  desc = IsUtf8-from_is_utf8 desc text;
  namespace = names_text o.schema schema;
  owner = owner_text cat holds o;
  lays = λ e. (ss, rw other (lines_behind defn ss lays));
}

remark_ready : SpelledLaw → (cat : Catalogue) → HoldsCells cat → (o : Obj) → Known IsName o.schema → (place : ℕ) (r : Remark) → CanRemark r → Ready (plain (remark_draft cat o place r))
unfolding is_utf8 chars encode
remark_ready law cat holds o schema place r can =
    beside_ready cat holds o schema (codes "COMMENT") (comment_tag r.0) (written (Some (stmt.Comment r.0 (Some r.1)))) 1 (place ∷ []) refl refl (comment_text r.0 r.1 can) (stmt.Comment r.0 (Some r.1) ∷ []) (spelled_lays law (stmt.Comment r.0 (Some r.1)) can)

owned_ready : SpelledLaw → (cat : Catalogue) (order : Sorted) (o : Obj) (needs : List ℕ) (place : ℕ) → HoldsCells cat → Known IsName o.schema → IsUtf8 (tag_of cat o) → Known IsWritable (owned_stmt cat o) → (k : ObjKind) → Known (λ d. Ready (plain d)) (owned_drafts_of cat order.objects o needs place k)
unfolding is_utf8 chars encode
owned_ready law cat order o needs place holds schema tag can kind.Sequence =
    known_map IsWritable (λ d. Ready (plain d)) (λ s. owned_with cat order.objects o needs place (written (Some s))) (owned_stmt cat o) can
    (λ s is. beside_ready cat holds o schema (codes "SEQUENCE OWNED BY") (tag_of cat o) (written (Some s)) 2 (owner_needs order.objects needs (owner_table cat o.id.oid) place) refl refl tag (s ∷ []) (spelled_lays law s is))
owned_ready law cat order o needs place holds schema tag can other = tt

-- ---- grants

pub object_known : (o : Obj) → Known IsName o.name → Known IsPath (path_of o) → (k : ObjKind) → Known IsObject (granted_as o k)
object_known o name path kind.Schema = known_map IsName IsObject granted.Schema o.name name (λ n is. is)
object_known o name path kind.UserType = known_map IsPath IsObject granted.Type (path_of o) path (λ q is. is)
object_known o name path kind.Table = known_map IsPath IsObject granted.Table (path_of o) path (λ q is. is)
object_known o name path kind.View = known_map IsPath IsObject granted.Table (path_of o) path (λ q is. is)
object_known o name path kind.Dummy = known_map IsPath IsObject granted.Table (path_of o) path (λ q is. is)
object_known o name path kind.Sequence = known_map IsPath IsObject granted.Sequence (path_of o) path (λ q is. is)
object_known o name path other = tt

grants_ready : SpelledLaw → (cat : Catalogue) → HoldsCells cat → (o : Obj) → Known IsName o.schema → (place : ℕ) (what : Granted) → IsObject what → (ss : Option (List Stmt)) → ForSome ss AllWritable → Known (λ d. Ready (plain d)) (option_map (grants_draft cat o place what) ss)
unfolding is_utf8 chars encode
grants_ready law cat holds o schema place what is None can = tt
grants_ready law cat holds o schema place what is (Some ss) can =
    beside_ready cat holds o schema (codes "ACL") (grants_tag what) (texts ss) 1 (place ∷ []) refl refl (grants_text what is) ss (texts_lay law ss (can ss refl))

abbrev pub draft_by : Catalogue → Obj → ℕ → Option (Option (List AclItem)) → Option Bytes → Option Granted → Option Draft
draft_by cat o place acl owner what = option_and_then (λ acl. option_and_then (λ owner. option_and_then (granted_draft cat o place owner acl) what) owner) acl

-- a statement for grants can be written
abbrev pub GrantLaw : Type 0
GrantLaw = (what : Granted) (owner : Bytes) (items : List AclItem) (ss : List Stmt) → IsObject what → IsRoleName owner → AllByRecursion (IsItem (kind_on what)) items → grant_stmts (kind_on what) what owner (Some items) ≡ Some ss → AllWritable ss

mapped_kind : {A : Type 0} (f : A → Granted) (kind : GrantKind) → ((x : A) → kind_on (f x) ≡ kind) → (o : Option A) (what : Granted) → option_map f o ≡ Some what → kind_on what ≡ kind
mapped_kind f kind h None what e = absurd cc
mapped_kind f kind h (Some x) what e = let same : f x ≡ what = cc e in subst (λ (w : Granted). kind_on w ≡ kind) same (h x)

pub kind_same : (o : Obj) (k : ObjKind) (what : Granted) → granted_as o k ≡ Some what → kind_on what ≡ grant_kind k
kind_same o kind.Schema what e = mapped_kind granted.Schema (grant_kind kind.Schema) (λ n. refl) o.name what e
kind_same o kind.UserType what e = mapped_kind granted.Type (grant_kind kind.UserType) (λ q. refl) (path_of o) what e
kind_same o kind.Table what e = mapped_kind granted.Table (grant_kind kind.Table) (λ q. refl) (path_of o) what e
kind_same o kind.View what e = mapped_kind granted.Table (grant_kind kind.View) (λ q. refl) (path_of o) what e
kind_same o kind.Dummy what e = mapped_kind granted.Table (grant_kind kind.Dummy) (λ q. refl) (path_of o) what e
kind_same o kind.Sequence what e = mapped_kind granted.Sequence (grant_kind kind.Sequence) (λ q. refl) (path_of o) what e
kind_same o other what e = absurd cc

pub stmts_can : GrantLaw → (kind : GrantKind) (what : Granted) (owner : Bytes) (acl : Option (List AclItem)) → IsObject what → IsRoleName owner → kind_on what ≡ kind → ForSome acl (λ items. AllByRecursion (IsItem (kind_on what)) items) → ForSome (grant_stmts kind what owner acl) AllWritable
unfolding grant_stmts
stmts_can law kind what owner None is role same items = λ ss e. absurd cc
stmts_can law kind what owner (Some list) is role same items = λ ss e.
    law what owner list ss is role (items list refl) (subst (λ (k : GrantKind). grant_stmts k what owner (Some list) ≡ Some ss) (sym same) e)

rights_by : SpelledLaw → GrantLaw → (cat : Catalogue) → HoldsCells cat → (o : Obj) → Known IsName o.schema → (place : ℕ) (acl : Option (Option (List AclItem))) (owner : Option Bytes) (what : Option Granted) → Known IsObject what → ((w : Granted) → what ≡ Some w → kind_on w ≡ grant_kind o.kind) → ForSome owner IsRoleName → ForSome what (λ w. AreRights (kind_on w) acl)
    → Known (λ d. Ready (plain d)) (draft_by cat o place acl owner what)
rights_by law grants cat holds o schema place None owner what is same role rights = tt
rights_by law grants cat holds o schema place (Some acl) None what is same role rights = tt
rights_by law grants cat holds o schema place (Some acl) (Some owner) None is same role rights = tt
rights_by law grants cat holds o schema place (Some acl) (Some owner) (Some what) is same role rights =
    grants_ready law cat holds o schema place what is (grant_stmts (grant_kind o.kind) what owner acl) (stmts_can grants (grant_kind o.kind) what owner acl is (role owner refl) (same what refl) (rights what refl acl refl))

-- ---- an object

pub record Laws : Type 0 where
  pub spelled : SpelledLaw
  pub text : TextLaws
  pub grants : GrantLaw

pub stmt_known : (laws : Laws) (cat : Catalogue) (standing : List ℕ) (o : Obj) → HoldsCells cat → IsDumpable cat o → Known IsWritable (stmt_of_kind cat standing o o.kind)
stmt_known laws cat standing o holds d = kind_can cat standing o (given laws.text cat o holds d.named) (known_so IsName o.name d.named.1) o.kind

pub has_copy : (cat : Catalogue) (o : Obj) (k : ObjKind) → is_data k ≡ true → is_some (copy_of_kind cat o k) ≡ true
has_copy cat o kind.TableData e = refl
has_copy cat o other e = absurd cc

object_ready : (laws : Laws) (cat : Catalogue) (standing : List ℕ) (o : Obj) (needs : List ℕ) → HoldsCells cat → IsDumpable cat o → Ready (plain (object_draft cat standing o needs))
unfolding object_draft body desc_of defn_of
object_ready laws cat standing o needs holds d rows has =
    let of_rows : (is : is_data o.kind ≡ true) → Said (copy_of cat o ++ text_or_none rows) =
    λ is. (let r = has (has_copy cat o o.kind is) in let q = d.path is in (copy_stmt cat o.id.oid q.0 r.0 ∷ [], rows_are cat holds o q.0 (given laws.text cat o holds d.named).path q.1 rows r.0 r.1 r.2)) in
    record {
      tag = tag_text cat holds o d.named;
      desc = desc_text cat o;
      namespace = names_text o.schema (known_so IsName o.schema d.named.0);
      owner = owner_text cat holds o;
      lays = λ e. object_says laws.spelled cat standing o rows o.kind (stmt_known laws cat standing o holds d) of_rows;
    }

-- ---- all drafts

abbrev AreReady : List Draft → Type 0
AreReady ds = AllByRecursion (λ d. Ready (plain d)) ds

listed_have : {A : Type 0} (P : A → Type 0) (o : Option A) → Known P o → AllByRecursion P (option_to_list o)
listed_have P None k = tt
listed_have P (Some x) k = (k, tt)

comments_ready : (laws : Laws) (cat : Catalogue) (select : Select) (o : Obj) (place : ℕ) → HoldsCells cat → IsDumpable cat o → AreReady (comment_drafts cat select o place)
comments_ready laws cat select o place holds d = elim (cases_Bool select.comments) [
  | inl is ↦ rw is (seen_have CanRemark (λ d. Ready (plain d)) (remark_draft cat o place) (remarks_of cat o)
      (remarks_are cat holds o (known_so IsName o.name d.named.1) (given laws.text cat o holds d.named).path)
      (λ r can. remark_ready laws.spelled cat holds o (known_so IsName o.schema d.named.0) place r can))
  | inr isnt ↦ rw isnt tt
]

drafts_ready : (laws : Laws) (cat : Catalogue) (select : Select) (standing : List ℕ) (order : Sorted) (place : ℕ) (o : Obj) → HoldsCells cat → IsDumpable cat o → AreReady (drafts_at cat select standing order place o)
drafts_ready laws cat select standing order place o holds d =
    let needs = slice_index_or order.depends place [] in
    let owned = owned_ready laws.spelled cat order o needs place holds (known_so IsName o.schema d.named.0) (tag_text cat holds o d.named) (owned_can cat o (given laws.text cat o holds d.named)) o.kind in (
      object_ready laws cat standing o needs holds d,
      both_have (λ d. Ready (plain d)) (option_to_list (owned_drafts_of cat order.objects o needs place o.kind)) (comment_drafts cat select o place)
          (listed_have (λ d. Ready (plain d)) (owned_drafts_of cat order.objects o needs place o.kind) owned)
          (comments_ready laws cat select o place holds d),
    )

taken_ready : (laws : Laws) (cat : Catalogue) (select : Select) (standing : List ℕ) (order : Sorted) (place : ℕ × Obj) → HoldsCells cat → IsDumpable cat place.1 → AreReady (taken_at cat select standing order place)
unfolding taken_at
taken_ready laws cat select standing order place holds d = elim (cases_Bool (is_in_sections select.sections place.1.kind)) [
  | inl is ↦ rw is (drafts_ready laws cat select standing order place.0 place.1 holds d)
  | inr isnt ↦ rw isnt tt
]

granted_ready : (laws : Laws) (cat : Catalogue) (select : Select) (place : ℕ × Obj) → HoldsCells cat → IsDumpable cat place.1 → Known (λ d. Ready (plain d)) (granted_at cat select place)
unfolding granted_at rights_draft
granted_ready laws cat select place holds d = elim (cases_Bool (is_in_sections select.sections place.1.kind)) [
  | inl is ↦ rw is (
      let o = place.1 in
      let path = (given laws.text cat o holds d.named).path in
      rights_by laws.spelled laws.grants cat holds o (known_so IsName o.schema d.named.0) place.0 (acl_of cat o o.kind) (owner_of cat o) (granted_as o o.kind) (object_known o (known_so IsName o.name d.named.1) path o.kind) (kind_same o o.kind) d.owner d.rights)
  | inr isnt ↦ rw isnt tt
]

pub placed_have : {A : Type 0} (P : A → Type 0) (n : ℕ) (xs : List A) → AllByRecursion P xs → AllByRecursion (λ (p : ℕ × A). P p.1) (enumerate_from n xs)
placed_have P n [] all = tt
placed_have P n (x ∷ xs) all = (all.0, placed_have P (n + 1) xs all.1)

if_ready : (b : Bool) (ds : List Draft) → AreReady ds → AreReady (if b then ds else [])
if_ready true ds all = all
if_ready false ds all = tt

given_ready : (laws : Laws) (cat : Catalogue) (select : Select) (order : Sorted) → IsDump cat order → AreReady (filter_map (granted_at cat select) (places_of order))
given_ready laws cat select order dump =
    chosen_have (λ (p : ℕ × Obj). IsDumpable cat p.1) (λ d. Ready (plain d)) (granted_at cat select) (places_of order) (placed_have (IsDumpable cat) 0 order.objects dump.objects)
    (λ p d. granted_ready laws cat select p dump.cells d)

grants_are_ready : (laws : Laws) (cat : Catalogue) (select : Select) (order : Sorted) → IsDump cat order → AreReady (grants_of cat select order)
grants_are_ready laws cat select order dump = if_ready select.grants (filter_map (granted_at cat select) (places_of order)) (given_ready laws cat select order dump)

all_ready : (laws : Laws) (cat : Catalogue) (select : Select) (order : Sorted) → IsDump cat order → AreReady (drafts_of cat select order)
all_ready laws cat select order dump =
    both_have (λ d. Ready (plain d)) (object_drafts cat select order) (grants_of cat select order)
    (all_have (λ (p : ℕ × Obj). IsDumpable cat p.1) (λ d. Ready (plain d)) (taken_at cat select (standing_of order.objects) order) (places_of order) (placed_have (IsDumpable cat) 0 order.objects dump.objects)
    (λ p d. taken_ready laws cat select (standing_of order.objects) order p dump.cells d))
    (grants_are_ready laws cat select order dump)

-- ---- entries

numbered_ready : (ids : List (Option ℕ)) (id : ℕ) (ds : List Draft) → AreReady ds → AllByRecursion Ready (entries_from ids id ds)
unfolding entries_from
numbered_ready ids id [] all = tt
numbered_ready ids id (d ∷ ds) all = (renumbered ids id d all.0, numbered_ready ids (id + 1) ds all.1)

no_name : ForSome None IsUtf8
no_name = λ n e. absurd cc

-- what sets up the session stands in no part of the script
session_ready : (id : ℕ) (desc tag defn : Bytes) (owner : Option Bytes) (tableoid oid : ℕ) → is_utf8 desc ≡ true → is_of_session desc ≡ true → IsUtf8 tag → ForSome owner IsUtf8 → Ready (record (pre_data id desc tag defn) { tableoid = tableoid; oid = oid; owner = owner })
session_ready id desc tag defn owner tableoid oid text session called named rows has = record {
  tag = called;
  desc = IsUtf8-from_is_utf8 desc text;
  namespace = no_name;
  owner = named;
  lays = λ e. absurd (false≢true (sym e ∙ session));
}

database_ready : (cat : Catalogue) → HoldsCells cat → Known Ready (option_map (database_entry cat) (current_database cat))
unfolding is_utf8 chars encode
database_ready cat holds =
    known_map (IsOf table.PgDatabase database_cells) Ready (database_entry cat) (current_database cat)
    (found_has (IsOf table.PgDatabase database_cells) (λ d. d.datcurrent) cat.pg_database (rows_hold cat holds table.PgDatabase database_cells cat.pg_database refl))
    (λ d row. session_ready 4 (codes "DATABASE") d.datname _ (role_name cat.pg_authid d.datdba) 1262 d.oid refl refl row.cells.1.0.utf8 (names_text (role_name cat.pg_authid d.datdba) (role_known cat holds d.datdba)))

settings_ready : (cat : Catalogue) → HoldsCells cat → AllByRecursion Ready (session_entries cat)
unfolding session_entries is_utf8 chars encode
settings_ready cat holds = (
  session_ready 1 (codes "ENCODING") (codes "ENCODING") _ None 0 0 refl refl (IsUtf8-from_is_utf8 _ refl) no_name,
  (
    session_ready 2 (codes "STDSTRINGS") (codes "STDSTRINGS") _ None 0 0 refl refl (IsUtf8-from_is_utf8 _ refl) no_name,
    (
      session_ready 3 (codes "SEARCHPATH") (codes "SEARCHPATH") _ None 0 0 refl refl (IsUtf8-from_is_utf8 _ refl) no_name,
      listed_have Ready (option_map (database_entry cat) (current_database cat)) (database_ready cat holds),
    ),
  ),
)

toc_ready : (laws : Laws) (cat : Catalogue) (select : Select) (order : Sorted) → IsDump cat order → AllByRecursion Ready (toc_of cat select order)
unfolding toc_of
toc_ready laws cat select order dump =
    both_have Ready (session_entries cat) (entries_from (first_ids 5 (counts_of cat select order)) 5 (drafts_of cat select order)) (settings_ready cat dump.cells)
    (numbered_ready (first_ids 5 (counts_of cat select order)) 5 (drafts_of cat select order) (all_ready laws cat select order dump))

-- ---- entries with their rows

with_rows : (es : List Entry) (entries : AllEntries) → AllByRecursion Ready es → entries_in entries ≡ es → HaveRows entries → AllByRecursion (λ e. IsStated e.0 (rows_of e)) entries
with_rows es [] ready e rows = tt
with_rows [] (p ∷ entries) ready e rows = absurd cc
with_rows (x ∷ es) (p ∷ entries) ready e rows =
    let same : x ≡ p.0 = cc e in
    let more : entries_in entries ≡ es = cc e in
    (subst Ready same ready.0 (rows_of p) rows.0, with_rows es entries ready.1 more rows.1)

pub all_stated : Laws → (cat : Catalogue) (select : Select) (order : Sorted) (entries : AllEntries) → IsDump cat order → entries_in entries ≡ toc_of cat select order → HaveRows entries → AllByRecursion (λ e. IsStated e.0 (rows_of e)) entries
all_stated laws cat select order entries dump e rows = with_rows (toc_of cat select order) entries (toc_ready laws cat select order dump) e rows

-- The script of a dump reads as the statements that are told by the rows of the catalogue.
use Rattle.std.proofs.Common.{◌≡◌, ℕ, ◌+◌, Bool, true, false, cond, List, [], ◌∷◌, ◌++◌, map, append_assoc, append-nil, Option, Some, None, refl, sym, ap, subst, ◌∙◌, inl, inr}
use Rattle.std.specs.Prelude.{filter_map, unwrap_or}
use Rattle.std.specs.List.{AllByRecursion, cons_option, flat_map, enumerate_from, slice_index_or}
use Rattle.std.specs.Option.{option_and_then, option_map, option_to_list, ForSome}
use Rattle.std.proofs.lemmas.Bool.{cases_Bool}
use Rattle.acl_text.specs.declared.list.AclItem.{AclItem}
use Rattle.cat_model.specs.declared.grant.Granted.{Granted}
use Rattle.cat_model.specs.declared.object.QName.{QName}
use Rattle.cat_model.specs.declared.stmt.Stmt.{Stmt}
use Rattle.cat_model.specs.Values.{Bytes}
use Rattle.cat_rows.specs.declared.catalogue.Catalogue.{Catalogue}
use Rattle.cat_rows.specs.declared.roles.DatabaseRow.{DatabaseRow}
use Rattle.copy_text.specs.Texts.{IsName}
use Rattle.cat_model.specs.declared.grant.Owned.{Owned}
use Rattle.ddl_laws.specs.Rows.{AreRows}
use Rattle.grant_laws.specs.Items.{kind_on, IsRoleName}
use Rattle.ddl_laws.specs.Respelling.{AllWritable}
use Rattle.ddl_laws.specs.Writable.{IsObject}
use Rattle.dep_sort.specs.Ordering.{Sorted}
use Rattle.graph_parts.specs.declared.object.Obj.{Obj}
use Rattle.graph_parts.specs.declared.object.ObjKind.{ObjKind}
use Rattle.graph_parts.specs.declared.object.ObjKind.TheVariants as kind
use Rattle.obj_graph.specs.Closed.{is_in_sections}
use Rattle.obj_graph.specs.declared.select.Select.{Select}
use Rattle.toc_entry.specs.declared.entry.Entry.{Entry}
use Rattle.dump_grants.specs.Stmts.{grant_stmts}
use Rattle.dump_stmts.specs.Paths.{path_of, written}
use Rattle.dump_stmts.specs.Sequences.{owned_stmt}
use Rattle.dump_stmts.specs.Stmts.{stmt_of_kind, stmt_of}
use Rattle.dump_toc.specs.declared.draft.Draft.{Draft}
use Rattle.dump_toc.specs.Comments.{Remark, remarks_of, remark_draft}
use Rattle.dump_toc.specs.Drafts.{oid_of, object_draft, owned_with, owned_drafts_of}
use Rattle.dump_toc.specs.Numbers.{first_ids, entry_of, entries_from}
use Rattle.dump_toc.specs.Owners.{owner_of}
use Rattle.dump_toc.specs.Rights.{granted_as, grant_kind, acl_of, grants_draft, rights_draft}
use Rattle.dump_toc.specs.Session.{database_entry, current_database, session_entries}
use Rattle.dump_toc.specs.Toc.{standing_of, comment_drafts, drafts_at, taken_at, places_of, object_drafts, counts_of, granted_at, grants_of, drafts_of, toc_of}
use Rattle.fmt_text.specs.Parts.{is_of_session}
use Rattle.script_laws.specs.Scripts.{AllEntries, rows_of, given_to, entry_statements, session_statements, script_statements}
use Rattle.stmt_laws.specs.Named.{HoldsCells}
use Rattle.stmt_laws.proofs.Lists.{Known, known_so}
use Rattle.stmt_laws.proofs.Objects.{given as known_of}
use Rattle.toc_laws.specs.Dumps.{is_data, AreRights, IsDumpable, ended, HaveRows, entries_in}
use Rattle.toc_laws.proofs.Dumps.{Laws, draft_by, has_copy, object_known, kind_same, stmts_can}
use Rattle.toc_laws.proofs.Remarks.{CanRemark, remarks_are}
use Rattle.toc_laws.proofs.Statements.{LaidLaw, nobody, object_says_so, rows_say_so, column_says, comment_says, grants_say}
use Rattle.dump_script_laws.specs.Statements.{Texts, HasText, HaveTexts, copied, copied_of, owned_as, given, object_said, column_said, comment, comments_said, said_of, granted_of, grants_said, dump_statements}
use Rattle.dump_script_laws.proofs.Owners.{NameLaw, gives}

-- a dump: what is chosen of a catalogue in its order, its rows, and whether its script has owners; and the laws of texts
pub record Dump : Type 0 where
  pub cat : Catalogue
  pub select : Select
  pub order : Sorted
  pub texts : Texts
  pub owners : Bool
  pub holds : HoldsCells cat
  pub laid : LaidLaw
  pub laws : Laws
  pub names : NameLaw

-- what the entry of a draft says, whatever its number is
abbrev Says : Bool → Texts → Draft → List Stmt → Type 0
Says owners texts d ss = (ids : List (Option ℕ)) (id : ℕ) (rows : Option Bytes) → HasText texts (entry_of ids id d) rows → entry_statements owners (entry_of ids id d) rows ≡ ss

abbrev AllSay : Bool → Texts → List Draft → List Stmt → Type 0
AllSay owners texts [] ss = ss ≡ []
AllSay owners texts (d ∷ ds) ss = (a : List Stmt) × (b : List Stmt) × (ss ≡ a ++ b) × Says owners texts d a × AllSay owners texts ds b

-- ---- lists of drafts

both_say : (owners : Bool) (texts : Texts) (xs ys : List Draft) (a b : List Stmt) → AllSay owners texts xs a → AllSay owners texts ys b → AllSay owners texts (xs ++ ys) (a ++ b)
both_say owners texts [] ys a b h k = subst (AllSay owners texts ys) (ap (λ (x : List Stmt). x ++ b) (sym h)) k
both_say owners texts (d ∷ xs) ys a b h k = (h.0, h.1 ++ b, ap (λ (x : List Stmt). x ++ b) h.2 ∙ append_assoc h.0 h.1 b, h.3, both_say owners texts xs ys h.1 b h.4 k)

one_says : (owners : Bool) (texts : Texts) (d : Draft) (ss : List Stmt) → Says owners texts d ss → AllSay owners texts (d ∷ []) ss
one_says owners texts d ss says = (ss, [], sym (append-nil ss), says, refl)

flat_say : (owners : Bool) (texts : Texts) (P : Obj → Type 0) (f : ℕ × Obj → List Draft) (said : Obj → List Stmt) → ((n : ℕ) (o : Obj) → P o → AllSay owners texts (f (n, o)) (said o))
    → (n : ℕ) (os : List Obj) → AllByRecursion P os → AllSay owners texts (flat_map f (enumerate_from n os)) (flat_map said os)
flat_say owners texts P f said h n [] all = refl
flat_say owners texts P f said h n (o ∷ os) all =
    both_say owners texts (f (n, o)) (flat_map f (enumerate_from (n + 1) os)) (said o) (flat_map said os) (h n o all.0) (flat_say owners texts P f said h (n + 1) os all.1)

-- ---- an object

not_copied : (cat : Catalogue) (texts : Texts) (o : Obj) (k : ObjKind) → is_data k ≡ false → copied_of cat texts o k ≡ None
not_copied cat texts o kind.TableData e = absurd cc
not_copied cat texts o other e = refl

is_copied : (cat : Catalogue) (texts : Texts) (o : Obj) (q : QName) → path_of o ≡ Some q → (k : ObjKind) → is_data k ≡ true → copied_of cat texts o k ≡ Some (copied cat texts o q)
is_copied cat texts o q path kind.TableData e = ap (option_map (copied cat texts o)) path
is_copied cat texts o q path other e = absurd cc

not_made : (cat : Catalogue) (standing : List ℕ) (o : Obj) (k : ObjKind) → is_data k ≡ true → stmt_of_kind cat standing o k ≡ None
not_made cat standing o kind.TableData e = refl
not_made cat standing o other e = absurd cc

not_owned : (cat : Catalogue) (o : Obj) (k : ObjKind) → is_data k ≡ true → owned_as cat o k ≡ None
not_owned cat o kind.TableData e = refl
not_owned cat o other e = absurd cc

not_given : (owners : Bool) (cat : Catalogue) (o : Obj) → is_data o.kind ≡ true → given owners cat o ≡ []
not_given false cat o e = refl
not_given true cat o e = ap (λ (what : Option Owned). given_to what (owner_of cat o)) (not_owned cat o o.kind e) ∙ nobody (owner_of cat o)

same_oid : (o : Obj) (k : ObjKind) → is_data k ≡ true → oid_of o k ≡ o.id.oid
same_oid o kind.TableData e = refl
same_oid o other e = absurd cc

abbrev said_by : Option Stmt → Option Stmt → List Stmt → List Stmt
said_by made rows owner = option_to_list made ++ option_to_list rows ++ owner

made_says : (g : Dump) (standing : List ℕ) (o : Obj) (needs : List ℕ) → IsDumpable g.cat o → is_data o.kind ≡ false → Says g.owners g.texts (object_draft g.cat standing o needs) (object_said g.owners g.cat standing g.texts o)
made_says g standing o needs d plain ids id rows has =
    let made = stmt_of g.cat standing o in
    object_says_so g.laid g.laws g.cat standing o needs ids id g.owners rows g.holds d plain
    ∙ ap (λ (x : List Stmt). option_to_list made ++ x) (gives g.names g.cat standing o needs ids id g.owners d)
    ∙ ap (λ (x : List Stmt). x ++ given g.owners g.cat o) (sym (append-nil (option_to_list made)))
    ∙ ap (λ (x : Option Stmt). said_by made x (given g.owners g.cat o)) (sym (not_copied g.cat g.texts o o.kind plain))

-- the rows of a table
rows_fit : (g : Dump) (standing : List ℕ) (o : Obj) (needs : List ℕ) (ids : List (Option ℕ)) (id : ℕ) (rows : Option Bytes) → is_data o.kind ≡ true → HasText g.texts (entry_of ids id (object_draft g.cat standing o needs)) rows → AreRows (g.texts o.id.oid) × (rows ≡ Some (ended (g.texts o.id.oid)))
unfolding object_draft
rows_fit g standing o needs ids id rows is has = subst (λ (n : ℕ). AreRows (g.texts n) × (rows ≡ Some (ended (g.texts n)))) (same_oid o o.kind is) (has (has_copy g.cat o o.kind is))

rows_said : (g : Dump) (standing : List ℕ) (o : Obj) (q : QName) → path_of o ≡ Some q → is_data o.kind ≡ true → copied g.cat g.texts o q ∷ [] ≡ object_said g.owners g.cat standing g.texts o
unfolding stmt_of
rows_said g standing o q path is =
    ap (λ (x : List Stmt). (copied g.cat g.texts o q ∷ []) ++ x) (sym (not_given g.owners g.cat o is))
    ∙ ap (λ (x : Option Stmt). said_by None x (given g.owners g.cat o)) (sym (is_copied g.cat g.texts o q path o.kind is))
    ∙ ap (λ (x : Option Stmt). said_by x (copied_of g.cat g.texts o o.kind) (given g.owners g.cat o)) (sym (not_made g.cat standing o o.kind is))

copied_says : (g : Dump) (standing : List ℕ) (o : Obj) (needs : List ℕ) → IsDumpable g.cat o → is_data o.kind ≡ true → Says g.owners g.texts (object_draft g.cat standing o needs) (object_said g.owners g.cat standing g.texts o)
copied_says g standing o needs d is ids id rows has =
    let fit = rows_fit g standing o needs ids id rows is has in
    let q = d.path is in
    ap (entry_statements g.owners (entry_of ids id (object_draft g.cat standing o needs))) fit.1
    ∙ rows_say_so g.laid g.laws g.cat standing o needs ids id g.owners q.0 (g.texts o.id.oid) g.holds d is q.1 fit.0
    ∙ rows_said g standing o q.0 q.1 is

object_says : (g : Dump) (standing : List ℕ) (o : Obj) (needs : List ℕ) → IsDumpable g.cat o → Says g.owners g.texts (object_draft g.cat standing o needs) (object_said g.owners g.cat standing g.texts o)
object_says g standing o needs d = elim (cases_Bool (is_data o.kind)) [ inl is ↦ copied_says g standing o needs d is | inr isnt ↦ made_says g standing o needs d isnt ]

-- ---- what stands beside it

column_said_so : (g : Dump) (o : Obj) (needs : List ℕ) (place : ℕ) → IsDumpable g.cat o → (k : ObjKind) → AllSay g.owners g.texts (option_to_list (owned_drafts_of g.cat g.order.objects o needs place k)) (column_said g.cat o k)
column_said_so g o needs place d kind.Sequence = by (owned_stmt g.cat o) refl
  where
    by : (s : Option Stmt) → owned_stmt g.cat o ≡ s → AllSay g.owners g.texts (option_to_list (option_map (λ s. owned_with g.cat g.order.objects o needs place (written (Some s))) s)) (option_to_list s)
    by None e = refl
    by (Some s) e = one_says g.owners g.texts (owned_with g.cat g.order.objects o needs place (written (Some s))) (s ∷ []) (λ ids id rows has. column_says g.laid g.laws g.cat g.order.objects o needs place s ids id g.owners rows g.holds d e)
column_said_so g o needs place d other = refl

remarks_say : (g : Dump) (o : Obj) (place : ℕ) (rs : List Remark) → AllByRecursion CanRemark rs → AllSay g.owners g.texts (map (remark_draft g.cat o place) rs) (map comment rs)
remarks_say g o place [] can = refl
remarks_say g o place (r ∷ rs) can = (comment r ∷ [], map comment rs, refl, (λ ids id rows has. comment_says g.laid g.laws.spelled g.cat o place r ids id g.owners rows can.0), remarks_say g o place rs can.1)

comments_say : (g : Dump) (o : Obj) (place : ℕ) → IsDumpable g.cat o → AllSay g.owners g.texts (comment_drafts g.cat g.select o place) (comments_said g.select g.cat o)
comments_say g o place d = by g.select.comments
  where
    by : (b : Bool) → AllSay g.owners g.texts (cond b (map (remark_draft g.cat o place) (remarks_of g.cat o)) []) (cond b (map comment (remarks_of g.cat o)) [])
    by true = remarks_say g o place (remarks_of g.cat o) (remarks_are g.cat g.holds o (known_so IsName o.name d.named.1) (known_of g.laws.text g.cat o g.holds d.named).path)
    by false = refl

drafts_say : (g : Dump) (standing : List ℕ) (place : ℕ) (o : Obj) → IsDumpable g.cat o
    → AllSay g.owners g.texts (drafts_at g.cat g.select standing g.order place o) (object_said g.owners g.cat standing g.texts o ++ (column_said g.cat o o.kind ++ comments_said g.select g.cat o))
drafts_say g standing place o d =
    let needs = slice_index_or g.order.depends place [] in (
      object_said g.owners g.cat standing g.texts o,
      column_said g.cat o o.kind ++ comments_said g.select g.cat o,
      refl,
      object_says g standing o needs d,
      both_say g.owners g.texts (option_to_list (owned_drafts_of g.cat g.order.objects o needs place o.kind)) (comment_drafts g.cat g.select o place) (column_said g.cat o o.kind) (comments_said g.select g.cat o) (column_said_so g o needs place d o.kind) (comments_say g o place d),
    )

taken_say : (g : Dump) (standing : List ℕ) (place : ℕ) (o : Obj) → IsDumpable g.cat o → AllSay g.owners g.texts (taken_at g.cat g.select standing g.order (place, o)) (said_of g.owners g.cat g.select standing g.texts o)
unfolding taken_at
taken_say g standing place o d = elim (cases_Bool (is_in_sections g.select.sections o.kind)) [ inl is ↦ rw is (drafts_say g standing place o d) | inr isnt ↦ rw isnt refl ]

-- ---- grants

-- an entry that may not be there
abbrev MaySay : Bool → Texts → Option Draft → List Stmt → Type 0
MaySay owners texts None ss = ss ≡ []
MaySay owners texts (Some d) ss = Says owners texts d ss

abbrev stmts_by : Obj → Option (Option (List AclItem)) → Option Bytes → Option Granted → Option (List Stmt)
stmts_by o acl owner what = option_and_then (λ acl. option_and_then (λ owner. option_and_then (λ what. grant_stmts (grant_kind o.kind) what owner acl) what) owner) acl

listed_say : (g : Dump) (o : Obj) (place : ℕ) (what : Granted) (ss : Option (List Stmt)) → ForSome ss AllWritable → MaySay g.owners g.texts (option_map (grants_draft g.cat o place what) ss) (unwrap_or ss [])
listed_say g o place what None can = refl
listed_say g o place what (Some ss) can = λ ids id rows has. grants_say g.laid g.laws.spelled g.cat o place what ss ids id g.owners rows (can ss refl)

rights_say : (g : Dump) (o : Obj) (place : ℕ) (acl : Option (Option (List AclItem))) (owner : Option Bytes) (what : Option Granted) → Known IsObject what → ((w : Granted) → what ≡ Some w → kind_on w ≡ grant_kind o.kind) → ForSome owner IsRoleName → ForSome what (λ w. AreRights (kind_on w) acl)
    → MaySay g.owners g.texts (draft_by g.cat o place acl owner what) (unwrap_or (stmts_by o acl owner what) [])
rights_say g o place None owner what is same role rights = refl
rights_say g o place (Some acl) None what is same role rights = refl
rights_say g o place (Some acl) (Some owner) None is same role rights = refl
rights_say g o place (Some acl) (Some owner) (Some what) is same role rights =
    listed_say g o place what (grant_stmts (grant_kind o.kind) what owner acl) (stmts_can g.laws.grants (grant_kind o.kind) what owner acl is (role owner refl) (same what refl) (rights what refl acl refl))

granted_say : (g : Dump) (place : ℕ) (o : Obj) → IsDumpable g.cat o → MaySay g.owners g.texts (granted_at g.cat g.select (place, o)) (granted_of g.cat g.select o)
unfolding granted_at rights_draft
granted_say g place o d = elim (cases_Bool (is_in_sections g.select.sections o.kind)) [
  | inl is ↦ rw is (
      let path = (known_of g.laws.text g.cat o g.holds d.named).path in
      rights_say g o place (acl_of g.cat o o.kind) (owner_of g.cat o) (granted_as o o.kind) (object_known o (known_so IsName o.name d.named.1) path o.kind) (kind_same o o.kind) d.owner d.rights)
  | inr isnt ↦ rw isnt refl
]

more_say : (owners : Bool) (texts : Texts) (d : Option Draft) (ss : List Stmt) (ds : List Draft) (more : List Stmt) → MaySay owners texts d ss → AllSay owners texts ds more → AllSay owners texts (cons_option d ds) (ss ++ more)
more_say owners texts None ss ds more says all = subst (AllSay owners texts ds) (ap (λ (x : List Stmt). x ++ more) (sym says)) all
more_say owners texts (Some d) ss ds more says all = (ss, more, refl, says, all)

all_granted : (g : Dump) (n : ℕ) (os : List Obj) → AllByRecursion (IsDumpable g.cat) os → AllSay g.owners g.texts (filter_map (granted_at g.cat g.select) (enumerate_from n os)) (flat_map (granted_of g.cat g.select) os)
all_granted g n [] all = refl
all_granted g n (o ∷ os) all =
    more_say g.owners g.texts (granted_at g.cat g.select (n, o)) (granted_of g.cat g.select o) (filter_map (granted_at g.cat g.select) (enumerate_from (n + 1) os)) (flat_map (granted_of g.cat g.select) os)
    (granted_say g n o all.0) (all_granted g (n + 1) os all.1)

grants_say_so : (g : Dump) → AllByRecursion (IsDumpable g.cat) g.order.objects → AllSay g.owners g.texts (grants_of g.cat g.select g.order) (grants_said g.cat g.select g.order.objects)
grants_say_so g all = by g.select.grants
  where
    by : (b : Bool) → AllSay g.owners g.texts (cond b (filter_map (granted_at g.cat g.select) (places_of g.order)) []) (cond b (flat_map (granted_of g.cat g.select) g.order.objects) [])
    by true = all_granted g 0 g.order.objects all
    by false = refl

-- ---- all drafts

abbrev objects_said : Dump → List Stmt
objects_said g = flat_map (said_of g.owners g.cat g.select (standing_of g.order.objects) g.texts) g.order.objects

all_say : (g : Dump) → AllByRecursion (IsDumpable g.cat) g.order.objects → AllSay g.owners g.texts (drafts_of g.cat g.select g.order) (objects_said g ++ grants_said g.cat g.select g.order.objects)
all_say g all =
    let standing = standing_of g.order.objects in
    both_say g.owners g.texts (object_drafts g.cat g.select g.order) (grants_of g.cat g.select g.order) (objects_said g) (grants_said g.cat g.select g.order.objects)
    (flat_say g.owners g.texts (IsDumpable g.cat) (taken_at g.cat g.select standing g.order) (said_of g.owners g.cat g.select standing g.texts) (taken_say g standing) 0 g.order.objects all)
    (grants_say_so g all)

-- ---- entries

abbrev entries_said : Bool → AllEntries → List Stmt
entries_said owners entries = flat_map (λ e. entry_statements owners e.0 (rows_of e)) entries

drafts_said : (owners : Bool) (texts : Texts) (ds : List Draft) (ss : List Stmt) (ids : List (Option ℕ)) (id : ℕ) (entries : AllEntries) → AllSay owners texts ds ss → entries_in entries ≡ entries_from ids id ds → HaveTexts texts entries → entries_said owners entries ≡ ss
unfolding entries_from
drafts_said owners texts [] ss ids id [] all e has = sym all
drafts_said owners texts [] ss ids id (p ∷ entries) all e has = absurd cc
drafts_said owners texts (d ∷ ds) ss ids id [] all e has = absurd cc
drafts_said owners texts (d ∷ ds) ss ids id (p ∷ entries) all e has =
    let same : p.0 ≡ entry_of ids id d = cc e in
    let more : entries_in entries ≡ entries_from ids (id + 1) ds = cc e in
    let here = ap (λ (x : Entry). entry_statements owners x (rows_of p)) same ∙ all.3 ids id (rows_of p) (subst (λ (x : Entry). HasText texts x (rows_of p)) same has.0) in
    ap (λ (x : List Stmt). x ++ entries_said owners entries) here
    ∙ ap (λ (x : List Stmt). all.0 ++ x) (drafts_said owners texts ds all.1 ids (id + 1) entries all.4 more has.1)
    ∙ sym all.2

-- the entries that are left behind those of the session, which say nothing
record Left (owners : Bool) (texts : Texts) (entries : AllEntries) (rest : List Entry) : Type 0 where
  left : AllEntries
  are : entries_in left ≡ rest
  has : HaveTexts texts left
  said : entries_said owners entries ≡ entries_said owners left

nothing_said : (owners : Bool) (e : Entry) (rows : Option Bytes) → is_of_session e.desc ≡ true → entry_statements owners e rows ≡ []
unfolding entry_statements
nothing_said owners e rows is = rw is refl

session_said : (owners : Bool) (texts : Texts) (es rest : List Entry) (entries : AllEntries) → AllByRecursion (λ e. is_of_session e.desc ≡ true) es → entries_in entries ≡ es ++ rest → HaveTexts texts entries → Left owners texts entries rest
session_said owners texts [] rest entries all e has = record { left = entries; are = e; has = has; said = refl }
session_said owners texts (x ∷ es) rest [] all e has = absurd cc
session_said owners texts (x ∷ es) rest (p ∷ entries) all e has =
    let same : x ≡ p.0 = cc e in
    let more : entries_in entries ≡ es ++ rest = cc e in
    let later = session_said owners texts es rest entries all.1 more has.1 in
    let none = nothing_said owners p.0 (rows_of p) (ap (λ (y : Entry). is_of_session y.desc) (sym same) ∙ all.0) in
    record { left = later.left; are = later.are; has = later.has; said = ap (λ (y : List Stmt). y ++ entries_said owners entries) none ∙ later.said }

of_session : (cat : Catalogue) → AllByRecursion (λ e. is_of_session e.desc ≡ true) (session_entries cat)
unfolding session_entries
of_session cat = (refl, (refl, (refl, by (current_database cat))))
  where
    by : (d : Option DatabaseRow) → AllByRecursion (λ e. is_of_session e.desc ≡ true) (option_to_list (option_map (database_entry cat) d))
    by None = tt
    by (Some d) = (refl, tt)

pub says_all : (g : Dump) (entries : AllEntries) → AllByRecursion (IsDumpable g.cat) g.order.objects → entries_in entries ≡ toc_of g.cat g.select g.order → HaveTexts g.texts entries → script_statements g.owners entries ≡ dump_statements g.owners g.cat g.select g.texts g.order
unfolding toc_of
says_all g entries all e has =
    let ids = first_ids 5 (counts_of g.cat g.select g.order) in
    let later = session_said g.owners g.texts (session_entries g.cat) (entries_from ids 5 (drafts_of g.cat g.select g.order)) entries (of_session g.cat) e has in
    ap (λ (x : List Stmt). session_statements ++ x)
    (later.said ∙ drafts_said g.owners g.texts (drafts_of g.cat g.select g.order) (objects_said g ++ grants_said g.cat g.select g.order.objects) ids 5 later.left (all_say g all) later.are later.has)

pub texts_are_rows : (texts : Texts) (entries : AllEntries) → HaveTexts texts entries → HaveRows entries
texts_are_rows texts [] has = tt
texts_are_rows texts (e ∷ entries) has = ((λ is. let h = has.0 is in (texts e.0.oid, h.0, h.1)), texts_are_rows texts entries has.1)

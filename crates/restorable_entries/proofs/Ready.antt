-- All entries of a dump of a well-formed catalogue can be restored.
use Rattle.std.proofs.Common.{◌≡◌, ℕ, ◌+◌, Bool, true, false, List, [], ◌∷◌, Option, Some, None, codes, refl, inl, inr}
use Rattle.std.specs.Prelude.{filter_map, if◌then◌else◌}
use Rattle.std.specs.List.{AllByRecursion, slice_index_or}
use Rattle.std.specs.Option.{ForSome, option_map, option_to_list}
use Rattle.std.proofs.lemmas.Bool.{cases_Bool}
use Rattle.acl_text.specs.declared.list.AclItem.{AclItem}
use Rattle.copy_text.specs.Texts.{IsName}
use Rattle.cat_model.specs.declared.grant.Granted.{Granted}
use Rattle.cat_model.specs.declared.stmt.Stmt.{Stmt}
use Rattle.cat_model.specs.declared.stmt.Stmt.TheVariants as stmt
use Rattle.cat_model.specs.declared.constraint.Encoding.TheVariants.{Utf8}
use Rattle.cat_model.specs.Values.{Bytes}
use Rattle.cat_rows.specs.declared.catalogue.Catalogue.{Catalogue}
use Rattle.cat_rows.specs.declared.roles.DatabaseRow.{DatabaseRow}
use Rattle.cat_rows.specs.declared.table.SysTable.TheVariants as table
use Rattle.cat_rows.specs.RowCells.{database_cells}
use Rattle.ddl_laws.specs.Respelling.{IsWritable, AllWritable}
use Rattle.ddl_laws.specs.Writable.{IsObject}
use Rattle.dep_sort.specs.Ordering.{Sorted}
use Rattle.graph_parts.specs.declared.object.Obj.{Obj}
use Rattle.graph_parts.specs.declared.object.ObjKind.{ObjKind}
use Rattle.graph_parts.specs.declared.object.ObjKind.TheVariants as kind
use Rattle.grant_laws.specs.Items.{kind_on, IsRoleName}
use Rattle.obj_graph.specs.Closed.{is_in_sections}
use Rattle.obj_graph.specs.declared.select.Select.{Select}
use Rattle.dump_grants.specs.Stmts.{grant_stmts, texts}
use Rattle.dump_stmts.specs.Paths.{written}
use Rattle.dump_stmts.specs.Sequences.{owned_stmt}
use Rattle.dump_toc.specs.declared.draft.Draft.{Draft}
use Rattle.dump_toc.specs.Comments.{remarks_of, remark_draft}
use Rattle.dump_toc.specs.Drafts.{owner_table, owner_needs, owned_with, owned_drafts_of}
use Rattle.dump_toc.specs.Numbers.{first_ids, entries_from}
use Rattle.dump_toc.specs.Owners.{owner_of}
use Rattle.dump_toc.specs.Rights.{granted_as, grant_kind, acl_of, grants_draft, rights_draft}
use Rattle.dump_toc.specs.Session.{encoding, std_strings, search_path, database_entry, current_database, session_entries}
use Rattle.dump_toc.specs.Tags.{tag_of, comment_tag, grants_tag}
use Rattle.dump_toc.specs.Toc.{standing_of, comment_drafts, taken_at, places_of, object_drafts, counts_of, granted_at, grants_of, drafts_of, toc_of}
use Rattle.restore_steps.specs.Faults.{left_out}
use Rattle.stmt_laws.specs.Named.{HoldsCells}
use Rattle.ddl_grammar.proofs.Spelled.{by_syntax}
use Rattle.stmt_laws.proofs.Lists.{Known, known_so, known_map, found_has, chosen_have, seen_have}
use Rattle.stmt_laws.proofs.Objects.{given, owned_can}
use Rattle.stmt_laws.proofs.Rows.{IsOf, rows_hold}
use Rattle.toc_entry.specs.declared.entry.Entry.{Entry}
use Rattle.toc_laws.specs.Dumps.{AreRights, IsDumpable, IsDump}
use Rattle.toc_laws.proofs.Bodies.{spelled_lays, texts_lay, lines_behind}
use Rattle.toc_laws.proofs.Dumps.{Laws, object_known, draft_by, kind_same, stmts_can, placed_have}
use Rattle.toc_laws.proofs.Remarks.{CanRemark, remarks_are, both_have, all_have}
use Rattle.toc_laws.proofs.Statements.{LaidLaw}
use Rattle.restorable_entries.proofs.Objects.{IsReady, plain, renumbered, beside_ready, object_ready}
use Rattle.restorable_entries.proofs.Running.{made_runs}
use Rattle.restorable_entries.proofs.Session.{encoding_set, encoding_reads, encoding_behind, strings_set, strings_read, strings_behind, path_set, path_reads, path_behind}

module _ (law : LaidLaw) (laws : Laws) (cat : Catalogue) (holds : HoldsCells cat) (select : Select) where
  abbrev IsReadyDraft : Draft → Type 0
  IsReadyDraft d = IsReady (plain d)

  -- ---- what stands beside an object

  comments_ready : (o : Obj) (place : ℕ) → IsDumpable cat o → AllByRecursion IsReadyDraft (comment_drafts cat select o place)
  comments_ready o place d = elim (cases_Bool select.comments) [
    | inl is ↦ rw is (seen_have CanRemark IsReadyDraft (remark_draft cat o place) (remarks_of cat o)
        (remarks_are cat holds o (known_so IsName o.name d.named.1) (given laws.text cat o holds d.named).path)
        (λ r can. beside_ready law cat o (codes "COMMENT") (comment_tag r.0) (written (Some (stmt.Comment r.0 (Some r.1)))) 1 (place ∷ []) refl refl (stmt.Comment r.0 (Some r.1) ∷ []) (spelled_lays laws.spelled (stmt.Comment r.0 (Some r.1)) can)))
    | inr isnt ↦ rw isnt tt
  ]

  owned_ready : (objects : List Obj) (o : Obj) (needs : List ℕ) (place : ℕ) → Known IsWritable (owned_stmt cat o) → (k : ObjKind) → Known IsReadyDraft (owned_drafts_of cat objects o needs place k)
  owned_ready objects o needs place can kind.Sequence =
      known_map IsWritable IsReadyDraft (λ s. owned_with cat objects o needs place (written (Some s))) (owned_stmt cat o) can
      (λ s is. beside_ready law cat o (codes "SEQUENCE OWNED BY") (tag_of cat o) (written (Some s)) 2 (owner_needs objects needs (owner_table cat o.id.oid) place) refl refl (s ∷ []) (spelled_lays laws.spelled s is))
  owned_ready objects o needs place can other = tt

  listed : (d : Option Draft) → Known IsReadyDraft d → AllByRecursion IsReadyDraft (option_to_list d)
  listed None k = tt
  listed (Some d) k = (k, tt)

  taken_ready : (standing : List ℕ) (order : Sorted) (place : ℕ × Obj) → IsDumpable cat place.1 → AllByRecursion IsReadyDraft (taken_at cat select standing order place)
  unfolding taken_at
  taken_ready standing order place d = elim (cases_Bool (is_in_sections select.sections place.1.kind)) [
    | inl is ↦ rw is (
        let o = place.1 in
        let needs = slice_index_or order.depends place.0 [] in
        let owned = owned_drafts_of cat order.objects o needs place.0 o.kind in (
          object_ready law laws cat standing o needs select.sections holds d is,
          both_have IsReadyDraft (option_to_list owned) (comment_drafts cat select o place.0)
              (listed owned (owned_ready order.objects o needs place.0 (owned_can cat o (given laws.text cat o holds d.named)) o.kind))
              (comments_ready o place.0 d),
        ))
    | inr isnt ↦ rw isnt tt
  ]

  -- ---- grants

  grants_ready : (o : Obj) (place : ℕ) (granted : Granted) (ss : Option (List Stmt)) → ForSome ss AllWritable → Known IsReadyDraft (option_map (grants_draft cat o place granted) ss)
  grants_ready o place granted None can = tt
  grants_ready o place granted (Some ss) can =
      beside_ready law cat o (codes "ACL") (grants_tag granted) (texts ss) 1 (place ∷ []) refl refl ss (texts_lay laws.spelled ss (can ss refl))

  rights_by : (o : Obj) (place : ℕ) (acl : Option (Option (List AclItem))) (owner : Option Bytes) (granted : Option Granted) → Known IsObject granted → ((w : Granted) → granted ≡ Some w → kind_on w ≡ grant_kind o.kind)
      → ForSome owner IsRoleName → ForSome granted (λ w. AreRights (kind_on w) acl) → Known IsReadyDraft (draft_by cat o place acl owner granted)
  rights_by o place None owner granted is same role rights = tt
  rights_by o place (Some acl) None granted is same role rights = tt
  rights_by o place (Some acl) (Some owner) None is same role rights = tt
  rights_by o place (Some acl) (Some owner) (Some granted) is same role rights =
      grants_ready o place granted (grant_stmts (grant_kind o.kind) granted owner acl) (stmts_can laws.grants (grant_kind o.kind) granted owner acl is (role owner refl) (same granted refl) (rights granted refl acl refl))

  granted_ready : (place : ℕ × Obj) → IsDumpable cat place.1 → Known IsReadyDraft (granted_at cat select place)
  unfolding granted_at rights_draft
  granted_ready place d = elim (cases_Bool (is_in_sections select.sections place.1.kind)) [
    | inl is ↦ rw is (
        let o = place.1 in
        let path = (given laws.text cat o holds d.named).path in
        rights_by o place.0 (acl_of cat o o.kind) (owner_of cat o) (granted_as o o.kind) (object_known o (known_so IsName o.name d.named.1) path o.kind) (kind_same o o.kind) d.owner d.rights)
    | inr isnt ↦ rw isnt tt
  ]

  if_taken : (b : Bool) (ds : List Draft) → AllByRecursion IsReadyDraft ds → AllByRecursion IsReadyDraft (if b then ds else [])
  if_taken true ds all = all
  if_taken false ds all = tt

  grants_are_ready : (order : Sorted) → IsDump cat order → AllByRecursion IsReadyDraft (grants_of cat select order)
  grants_are_ready order dump =
      if_taken select.grants (filter_map (granted_at cat select) (places_of order))
      (chosen_have (λ (p : ℕ × Obj). IsDumpable cat p.1) IsReadyDraft (granted_at cat select) (places_of order) (placed_have (IsDumpable cat) 0 order.objects dump.objects) granted_ready)

  drafts_ready : (order : Sorted) → IsDump cat order → AllByRecursion IsReadyDraft (drafts_of cat select order)
  drafts_ready order dump =
      both_have IsReadyDraft (object_drafts cat select order) (grants_of cat select order)
      (all_have (λ (p : ℕ × Obj). IsDumpable cat p.1) IsReadyDraft (taken_at cat select (standing_of order.objects) order) (places_of order) (placed_have (IsDumpable cat) 0 order.objects dump.objects) (taken_ready (standing_of order.objects) order))
      (grants_are_ready order dump)

  -- ---- entries

  numbered : (ids : List (Option ℕ)) (id : ℕ) (ds : List Draft) → AllByRecursion IsReadyDraft ds → AllByRecursion IsReady (entries_from ids id ds)
  unfolding entries_from
  numbered ids id [] all = tt
  numbered ids id (d ∷ ds) all = (renumbered ids id d all.0, numbered ids (id + 1) ds all.1)

  database_ready : (row : DatabaseRow) → IsName row.datname → IsReady (database_entry cat row)
  unfolding left_out by_syntax
  database_ready row name =
      let s = stmt.CreateDatabase row.datname (Some Utf8) in
      let lays = spelled_lays laws.spelled s ((name, tt), refl) in
      (refl, λ rows has. made_runs (database_entry cat row) rows (s ∷ []) refl refl (law _ _ lays) (law _ _ (lines_behind _ _ lays)))

  encoding_ready : IsReady encoding
  unfolding left_out
  encoding_ready = (refl, λ rows has. made_runs encoding rows (encoding_set ∷ []) refl refl encoding_reads encoding_behind)

  strings_ready : IsReady std_strings
  unfolding left_out
  strings_ready = (refl, λ rows has. made_runs std_strings rows (strings_set ∷ []) refl refl strings_read strings_behind)

  path_ready : IsReady search_path
  unfolding left_out
  path_ready = (refl, λ rows has. made_runs search_path rows (path_set ∷ []) refl refl path_reads path_behind)

  session_listed : (e : Option Entry) → Known IsReady e → AllByRecursion IsReady (option_to_list e)
  session_listed None k = tt
  session_listed (Some e) k = (k, tt)

  session_ready : AllByRecursion IsReady (session_entries cat)
  unfolding session_entries
  session_ready = (
    encoding_ready,
    (
      strings_ready,
      (
        path_ready,
        session_listed (option_map (database_entry cat) (current_database cat))
            (known_map (IsOf table.PgDatabase database_cells) IsReady (database_entry cat) (current_database cat)
            (found_has (IsOf table.PgDatabase database_cells) (λ d. d.datcurrent) cat.pg_database (rows_hold cat holds table.PgDatabase database_cells cat.pg_database refl))
            (λ row is. database_ready row is.cells.1.0)),
      ),
    ),
  )

  pub toc_ready : (order : Sorted) → IsDump cat order → AllByRecursion IsReady (toc_of cat select order)
  unfolding toc_of
  toc_ready order dump =
      both_have IsReady (session_entries cat) (entries_from (first_ids 5 (counts_of cat select order)) 5 (drafts_of cat select order)) session_ready
      (numbered (first_ids 5 (counts_of cat select order)) 5 (drafts_of cat select order) (drafts_ready order dump))

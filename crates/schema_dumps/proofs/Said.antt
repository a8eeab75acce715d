-- What a dump of schemas says.
use Rattle.std.proofs.Common.{◌≡◌, ℕ, ◌<◌, Bool, true, false, cond, List, [], ◌∷◌, ◌++◌, map, length, Option, Some, None, Ok, refl, sym, ap, subst, ◌∙◌, append_assoc, append-nil, inl, inr}
use Rattle.std.specs.Prelude.{◌||◌, filter_map, unwrap_or}
use Rattle.std.specs.List.{AllByRecursion, cons_option, flat_map, list_any, slice_get}
use Rattle.std.specs.List.Sorted.{IsPermutation}
use Rattle.std.specs.Option.{option_and_then, option_map, option_to_list}
use Rattle.std.specs.Cmp.{eq_by_cmp_equiv}
use Rattle.std.proofs.lemmas.Cmp.{nat_cmp_total}
use Rattle.std.specs.Str.{IsUtf8}
use Rattle.std.proofs.lemmas.Bool.{cases_Bool}
use Rattle.std.proofs.lemmas.List.Elements.{recursion_from_All}
use Rattle.acl_text.specs.declared.list.AclItem.{AclItem}
use Rattle.cat_book.specs.Paths.{schema_of}
use Rattle.cat_model.specs.declared.grant.Owned.TheVariants as owned
use Rattle.cat_model.specs.declared.stmt.Stmt.{Stmt}
use Rattle.cat_model.specs.declared.stmt.Stmt.TheVariants as stmt
use Rattle.cat_model.specs.Values.{Bytes}
use Rattle.cat_names.specs.Lookups.{role_name, same_oid}
use Rattle.cat_rows.specs.declared.catalogue.Catalogue.{Catalogue}
use Rattle.cat_rows.specs.declared.roles.AuthidRow.{AuthidRow}
use Rattle.cat_rows.specs.declared.roles.DatabaseRow.{DatabaseRow}
use Rattle.cat_rows.specs.declared.schemas.NamespaceRow.{NamespaceRow}
use Rattle.ddl_scripts.specs.Spellings.{said}
use Rattle.ddl_scripts.specs.declared.located.Located.{Located}
use Rattle.ddl_scripts.specs.Reading.{statements_of}
use Rattle.dep_sort.specs.Cut.{cut}
use Rattle.dep_sort.specs.Ordering.{Sorted, due}
use Rattle.dep_sort.specs.Sound.{IsOrder}
use Rattle.dump_grants.specs.Stmts.{grant_stmts}
use Rattle.dump_script_laws.specs.Statements.{Texts, HaveTexts, rights_of, said_of, granted_of, dump_statements}
use Rattle.dump_script_laws.proofs.Lists.{any_chosen, got_has}
use Rattle.dump_stmts.specs.Paths.{is_public}
use Rattle.dump_stmts.specs.Stmts.{stmt_of}
use Rattle.dump_toc.specs.Comments.{remarks_of}
use Rattle.dump_toc.specs.Owners.{owner_of}
use Rattle.dump_toc.specs.Rights.{grant_kind, granted_as}
use Rattle.dump_toc.specs.Toc.{standing_of, toc}
use Rattle.fmt_text.specs.Script.{script}
use Rattle.graph_parts.specs.declared.object.Obj.{Obj}
use Rattle.graph_parts.specs.declared.object.ObjKind.{ObjKind}
use Rattle.graph_parts.specs.declared.object.ObjKind.TheVariants as kind
use Rattle.graph_parts.specs.Parts.{Parts}
use Rattle.obj_graph.specs.declared.select.Select.{Select}
use Rattle.obj_graph.specs.Closed.{whole}
use Rattle.obj_graph.specs.Graphs.{graph_of}
use Rattle.oid_groups.specs.Orders.{by_number}
use Rattle.script_laws.specs.Scripts.{AllEntries, session_statements, given_to}
use Rattle.stmt_laws.specs.Named.{HoldsCells}
use Rattle.toc_entry.specs.declared.head.Head.{Head}
use Rattle.toc_laws.specs.Dumps.{entries_in}
use Rattle.well_formed.specs.Formed.{IsWellFormed}
use Rattle.schema_dumps.specs.Alone.{alone, IsOwned, AreOwned, schema_said}
use Rattle.schema_dumps.proofs.Places.{permuted}
use Rattle.schema_dumps.proofs.Objects.{schema_obj, boundaries, cut_objects}

-- the name of a schema
abbrev name_by : ObjKind → Option Bytes → Option Bytes
name_by kind.Schema name = name
name_by other name = None

abbrev name_of : Obj → Option Bytes
name_of o = name_by o.kind o.name

-- ---- the owner

or_true : (a b : Bool) → b ≡ true → (a || b) ≡ true
or_true true b e = refl
or_true false b e = e

same : (oid : ℕ) → same_oid oid oid ≡ true
same oid = (eq_by_cmp_equiv nat_cmp_total).refl oid

there : (pre : List NamespaceRow) (row : NamespaceRow) (rows : List NamespaceRow) → list_any (λ (s : NamespaceRow). same_oid row.oid s.oid) (pre ++ row ∷ rows) ≡ true
there [] row rows = ap (λ (b : Bool). b || list_any (λ (s : NamespaceRow). same_oid row.oid s.oid) rows) (same row.oid)
there (p ∷ pre) row rows = or_true (same_oid row.oid p.oid) (list_any (λ (s : NamespaceRow). same_oid row.oid s.oid) (pre ++ row ∷ rows)) (there pre row rows)

module _ (roles : List AuthidRow) (databases : List DatabaseRow) (all : List NamespaceRow) (role : Bytes) (are : AreOwned role roles all) where
  abbrev cat : Catalogue
  cat = alone roles databases all

  abbrev Found : ℕ → List NamespaceRow → Type 0
  Found oid rows = (row : NamespaceRow) × (schema_of rows oid ≡ Some row) × IsOwned role roles row

  found : (oid : ℕ) (rows : List NamespaceRow) → AreOwned role roles rows → list_any (λ (s : NamespaceRow). same_oid oid s.oid) rows ≡ true → Found oid rows
  found oid [] owned_all is = absurd cc
  found oid (row ∷ rows) owned_all is = by (same_oid oid row.oid) refl is (found oid rows owned_all.1)
    where
      by : (b : Bool) → same_oid oid row.oid ≡ b → (b || list_any (λ (s : NamespaceRow). same_oid oid s.oid) rows) ≡ true → (list_any (λ (s : NamespaceRow). same_oid oid s.oid) rows ≡ true → Found oid rows) → Found oid (row ∷ rows)
      by true here f later = (row, ap (λ (b : Bool). cond b (Some row) (schema_of rows oid)) here, owned_all.0)
      by false elsewhere f later =
          let more = later f in
          (more.0, ap (λ (b : Bool). cond b (Some row) (schema_of rows oid)) elsewhere ∙ more.1, more.2)

  -- a schema of the catalogue
  abbrev IsHere : NamespaceRow → Type 0
  IsHere row = list_any (λ (s : NamespaceRow). same_oid row.oid s.oid) all ≡ true

  all_here : (pre rows : List NamespaceRow) → all ≡ pre ++ rows → AllByRecursion IsHere rows
  all_here pre [] e = tt
  all_here pre (row ∷ rows) e =
      (ap (list_any (λ (s : NamespaceRow). same_oid row.oid s.oid)) e ∙ there pre row rows, all_here (pre ++ row ∷ []) rows (e ∙ sym (append_assoc pre (row ∷ []) rows)))

  owner_is : (row : NamespaceRow) → IsHere row → owner_of cat (schema_obj row) ≡ Some role
  unfolding owner_of
  owner_is row here =
      let f = found row.oid all are here in
      ap (λ (o : Option NamespaceRow). option_and_then (role_name roles) (option_map (λ (s : NamespaceRow). s.nspowner) o)) f.1 ∙ f.2.0

  rights_are : (row : NamespaceRow) → IsHere row → rights_of cat (schema_obj row) ≡ None
  unfolding grant_stmts
  rights_are row here =
      let f = found row.oid all are here in
      let o = schema_obj row in
      ap (λ (r : Option NamespaceRow). option_and_then (λ acl. option_and_then (λ owner. option_and_then (λ what. grant_stmts (grant_kind o.kind) what owner acl) (granted_as o o.kind)) (owner_of cat o)) (option_map (λ (s : NamespaceRow). s.nspacl) r)) f.1
      ∙ ap (λ (acl : Option (List AclItem)). option_and_then (λ owner. option_and_then (λ what. grant_stmts (grant_kind o.kind) what owner acl) (granted_as o o.kind)) (owner_of cat o)) f.2.1
      ∙ ap (λ (w : Option Bytes). option_and_then (λ owner. option_and_then (λ what. grant_stmts (grant_kind o.kind) what owner None) (granted_as o o.kind)) w) (owner_is row here)

  -- ---- an object

  -- it says its schema, where it is one, and grants nothing
  record Fits (o : Obj) : Type 0 where
    says : (standing : List ℕ) (texts : Texts) → said_of true cat whole standing texts o ≡ flat_map (schema_said role) (option_to_list (name_of o))
    grants : granted_of cat whole o ≡ []

  made : (name : Bytes) → option_to_list (cond {A = Option Stmt} (is_public name) None (Some (stmt.CreateSchema name))) ++ stmt.OwnerTo (owned.Schema name) role ∷ [] ≡ schema_said role name
  made name = elim (cases_Bool (is_public name)) [ inl is ↦ rw is refl | inr isnt ↦ rw isnt refl ]

  schema_fits : (row : NamespaceRow) → IsHere row → Fits (schema_obj row)
  unfolding stmt_of remarks_of by_number
  schema_fits row here =
      let o = schema_obj row in
      let name = row.nspname in
      let first = option_to_list (cond {A = Option Stmt} (is_public name) None (Some (stmt.CreateSchema name))) in
      record {
        says = λ standing texts.
            ap (λ (w : Option Bytes). ((first ++ []) ++ given_to (Some (owned.Schema name)) w) ++ ([] ++ [])) (owner_is row here)
            ∙ append-nil ((first ++ []) ++ stmt.OwnerTo (owned.Schema name) role ∷ [])
            ∙ ap (λ (l : List Stmt). l ++ stmt.OwnerTo (owned.Schema name) role ∷ []) (append-nil first)
            ∙ made name
            ∙ sym (append-nil (schema_said role name));
        grants = ap (λ (r : Option (List Stmt)). unwrap_or r []) (rights_are row here);
      }

  schemas_fit : (rows : List NamespaceRow) → AllByRecursion IsHere rows → AllByRecursion Fits (map schema_obj rows ++ boundaries)
  schemas_fit [] here = (record { says = λ standing texts. refl; grants = refl }, (record { says = λ standing texts. refl; grants = refl }, tt))
  schemas_fit (row ∷ rows) here = (schema_fits row here.0, schemas_fit rows here.1)

  names_are : (rows : List NamespaceRow) → filter_map name_of (map schema_obj rows ++ boundaries) ≡ map (λ (row : NamespaceRow). row.nspname) rows
  names_are [] = refl
  names_are (row ∷ rows) = ap (λ (l : List Bytes). row.nspname ∷ l) (names_are rows)

  -- ---- all of them

  flat_more : (o : Option Bytes) (names : List Bytes) → flat_map (schema_said role) (option_to_list o) ++ flat_map (schema_said role) names ≡ flat_map (schema_said role) (cons_option o names)
  flat_more None names = refl
  flat_more (Some name) names = ap (λ (l : List Stmt). l ++ flat_map (schema_said role) names) (append-nil (schema_said role name))

  objects_say : (standing : List ℕ) (texts : Texts) (objects : List Obj) → AllByRecursion Fits objects → flat_map (said_of true cat whole standing texts) objects ≡ flat_map (schema_said role) (filter_map name_of objects)
  objects_say standing texts [] fit = refl
  objects_say standing texts (o ∷ objects) fit =
      ap (λ (l : List Stmt). l ++ flat_map (said_of true cat whole standing texts) objects) (fit.0.says standing texts)
      ∙ ap (λ (l : List Stmt). flat_map (schema_said role) (option_to_list (name_of o)) ++ l) (objects_say standing texts objects fit.1)
      ∙ flat_more (name_of o) (filter_map name_of objects)

  none_granted : (objects : List Obj) → AllByRecursion Fits objects → flat_map (granted_of cat whole) objects ≡ []
  none_granted [] fit = refl
  none_granted (o ∷ objects) fit = ap (λ (l : List Stmt). l ++ flat_map (granted_of cat whole) objects) fit.0.grants ∙ none_granted objects fit.1

  module _ (order : Sorted) (sound : IsOrder (cut (graph_of cat whole)) order) where
    abbrev objects : List Obj
    objects = map schema_obj all ++ boundaries

    sorted_are : order.objects ≡ filter_map (slice_get objects) sound.places
    sorted_are = sound.objects_are ∙ ap (λ (l : List Obj). filter_map (slice_get l) sound.places) (cut_objects roles databases all)

    sorted_fit : AllByRecursion Fits order.objects
    sorted_fit = subst (AllByRecursion Fits) (sym sorted_are) (any_chosen Fits (slice_get objects) (got_has Fits objects (schemas_fit all (all_here [] all refl))) sound.places)

    names_permuted : IsPermutation (map (λ (row : NamespaceRow). row.nspname) all) (filter_map name_of order.objects)
    names_permuted =
        let low = recursion_from_All (λ p. p < length (cut (graph_of cat whole)).objects) sound.places sound.within in
        subst (λ (l : List Bytes). IsPermutation l (filter_map name_of order.objects)) (names_are all)
        (subst (λ (l : List Obj). IsPermutation (filter_map name_of objects) (filter_map name_of l)) (sym sorted_are)
        (permuted name_of objects sound.places
        (subst (λ (l : List Obj). AllByRecursion (λ p. p < length l) sound.places) (cut_objects roles databases all) low)
        sound.once
        (λ p below. sound.whole p (subst (λ (l : List Obj). p < length l) (sym (cut_objects roles databases all)) below))))

    dump_says : (texts : Texts) → dump_statements true cat whole texts order ≡ session_statements ++ flat_map (schema_said role) (filter_map name_of order.objects)
    dump_says texts =
        ap (λ (l : List Stmt). session_statements ++ (l ++ flat_map (granted_of cat whole) order.objects)) (objects_say (standing_of order.objects) texts order.objects sorted_fit)
        ∙ ap (λ (l : List Stmt). session_statements ++ (flat_map (schema_said role) (filter_map name_of order.objects) ++ l)) (none_granted order.objects sorted_fit)
        ∙ ap (λ (l : List Stmt). session_statements ++ l) (append-nil (flat_map (schema_said role) (filter_map name_of order.objects)))

-- ---- the script

abbrev pub ToldLaw : Type 0
ToldLaw = (cat : Catalogue) (select : Select) (head : Head) (entries : AllEntries) (owners : Bool) (texts : Texts) → HoldsCells cat → IsWellFormed cat → toc cat select ≡ Ok (entries_in entries) → HaveTexts texts entries → IsUtf8 head.server → IsUtf8 head.dumper
    → (order : Sorted) × (due (graph_of cat select) ≡ Ok order) × (found : List Located) × (statements_of (script head entries owners) ≡ Ok found) × (said found ≡ dump_statements owners cat select texts order)

abbrev pub OrderLaw : Type 0
OrderLaw = (graph : Parts) (order : Sorted) → due graph ≡ Ok order → IsOrder (cut graph) order

pub schemas_say : ToldLaw → OrderLaw → (roles : List AuthidRow) (databases : List DatabaseRow) (schemas : List NamespaceRow) (role : Bytes) (head : Head) (entries : AllEntries) (texts : Texts)
    → HoldsCells (alone roles databases schemas) → IsWellFormed (alone roles databases schemas) → AreOwned role roles schemas
    → toc (alone roles databases schemas) whole ≡ Ok (entries_in entries) → HaveTexts texts entries → IsUtf8 head.server → IsUtf8 head.dumper
    → (names : List Bytes) × IsPermutation (map (λ (row : NamespaceRow). row.nspname) schemas) names × (found_all : List Located) × (statements_of (script head entries true) ≡ Ok found_all)
    × (said found_all ≡ session_statements ++ flat_map (schema_said role) names)
schemas_say told orders roles databases schemas role head entries texts holds formed are is have server dumper =
    let t = told (alone roles databases schemas) whole head entries true texts holds formed is have server dumper in
    let sound = orders (graph_of (alone roles databases schemas) whole) t.0 t.1 in
    (filter_map name_of t.0.objects, names_permuted roles databases schemas role are t.0 sound, t.2, t.3, t.4 ∙ dump_says roles databases schemas role are t.0 sound texts)

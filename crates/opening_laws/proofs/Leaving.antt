-- Each statement leaves relations what they are: what its tree sets at a relation, it sets where none was.
use Rattle.std.proofs.Common.{◌≡◌, ℕ, Bool, true, false, not, ◌||◌, List, [], ◌∷◌, ◌++◌, map, Option, Some, None, Result, Ok, Err, refl, subst, ◌∙◌, inl, inr, if◌then◌else◌, filter_map, codes}
use Rattle.std.specs.FinMap.{get, entries, contains_key}
use Rattle.std.specs.List.{AllByRecursion, flat_map}
use Rattle.cat_model.specs.declared.object.QName.{QName}
use Rattle.cat_model.specs.declared.object.Object.{Object}
use Rattle.cat_model.specs.declared.key.Key.{Key}
use Rattle.cat_model.specs.declared.key.Key.TheVariants as key
use Rattle.cat_model.specs.declared.class.Class.{Class}
use Rattle.cat_model.specs.declared.class.Class.TheVariants as class
use Rattle.cat_model.specs.declared.cause.Cause.{Cause}
use Rattle.cat_model.specs.declared.cause.Cause.TheVariants as cause
use Rattle.cat_model.specs.declared.grant.Commented.{Commented}
use Rattle.cat_model.specs.declared.grant.Commented.TheVariants as commented
use Rattle.cat_model.specs.declared.grant.Granted.{Granted}
use Rattle.cat_model.specs.declared.grant.Granted.TheVariants as on
use Rattle.cat_model.specs.declared.grant.Grantee.{Grantee}
use Rattle.cat_model.specs.declared.grant.Grantee.TheVariants as grantee
use Rattle.cat_model.specs.declared.grant.Owned.{Owned}
use Rattle.cat_model.specs.declared.grant.Owned.TheVariants as owned
use Rattle.cat_model.specs.declared.holder.Holder.{Holder}
use Rattle.cat_model.specs.declared.stmt.Stmt.{Stmt}
use Rattle.cat_model.specs.declared.stmt.Stmt.TheVariants as stmt
use Rattle.cat_model.specs.declared.table.CheckDef.{CheckDef}
use Rattle.cat_model.specs.declared.table.ColumnDef.{ColumnDef}
use Rattle.cat_model.specs.declared.type_name.TypeName.{TypeName}
use Rattle.cat_model.specs.declared.type_name.TypeName.TheVariants.{Words, Path}
use Rattle.cat_model.specs.declared.value.Column.{Column}
use Rattle.cat_model.specs.declared.value.Domain.{Domain}
use Rattle.cat_model.specs.declared.value.Resolved.{Resolved}
use Rattle.cat_model.specs.declared.value.Role.{Role}
use Rattle.cat_model.specs.declared.value.Sequence.{Sequence}
use Rattle.cat_model.specs.declared.value.Value.{Value}
use Rattle.cat_model.specs.declared.value.Value.TheVariants as value
use Rattle.cat_model.specs.Conditions.{needs, if_there, needs_each, free, if_free, check, needs_kind, if_of_kind, needs_table, if_table, needs_sequence, if_sequence, needs_domain, if_domain, needs_role, if_role, is_enum, is_domain, is_table, is_sequence, is_view, is_index, is_type, is_table_or_view}
use Rattle.cat_model.specs.CopiedRows.{all_columns, copied_rows}
use Rattle.cat_model.specs.CopyEffect.{Unique, Foreign, by_name, unique_in, foreign_in, primary_columns, all_unique, all_have_parents, rows_added}
use Rattle.cat_model.specs.Effects.{effect}
use Rattle.cat_model.specs.Grants.{granted, revoked, holder_of}
use Rattle.cat_model.specs.KeyEffects.{refuse_repeated, refuse_null, refuse_orphan, if_no_primary, if_key, index_path, columns_of, rows_in, unique_rows, fits_foreign}
use Rattle.cat_model.specs.Lexemes.{same_text}
use Rattle.cat_model.specs.ObjectEffects.{needs_owned, owned_object, grants_joined, needs_granted, granted_object, needs_grantee, owner_in, grants_changed, change_grants, needs_commented, owner_to}
use Rattle.cat_model.specs.References.{is_system, expression_references, view_references}
use Rattle.cat_model.specs.RelationEffects.{needs_columns, default_set, check_value, fits_table, fits_sequence, within}
use Rattle.cat_model.specs.RoleEffects.{needs_grantor}
use Rattle.cat_model.specs.Tables.{distinct, column_there, columns_there, repeated, orphan, null_in}
use Rattle.cat_model.specs.Trees.{Change, Tree, refuse, sets, look, scan, changed, next, class_of, same_path, unique_on}
use Rattle.cat_model.specs.TypeEffects.{needs_type, if_type, as_it_is, but, default_references, check_references}
use Rattle.cat_model.specs.Values.{Bytes, Named, Grants, Row}
use Rattle.model_laws.specs.Examples.{catalogue_after}
use Rattle.cat_sound.proofs.Changes.{Settled, settled_in}
use Rattle.cat_sound.proofs.Lists.{of_member, of_each, all-append, all-flat, all-mapped}

-- what the tree leaves has the relations that were there. A record, so that its type tells the tree.
pub record Leaves (named : Named) (tree : Tree) : Type 0 where
  pub relations : (q : QName) (v : Value) → get named (key.Rel q) ≡ Some v → get (next tree named) (key.Rel q) ≡ Some v

-- no relation is there, where the key is one
abbrev pub IsSpared : Named → Key → Type 0
IsSpared named (key.Rel q) = get named (key.Rel q) ≡ None
IsSpared named _ = Unit {0}

abbrev pub AreSpared : Named → List Change → Type 0
AreSpared named cs = AllByRecursion (λ (c : Change). IsSpared named c.0) cs

-- ---- what is set

module _ (named : Named) where
  spared_joined : (o : Object) (role : Bytes) (grants : Option Value) → AreSpared named (grants_joined o role grants)
  spared_joined o role (Some (value.Grants grants)) = (tt, tt)
  spared_joined o role (Some _) = tt
  spared_joined o role None = tt

  spared_grants : (o : Object) (change : Grants → Grants) (grants : Option Value) → AreSpared named (grants_changed o change grants)
  spared_grants o change (Some (value.Grants grants)) = (tt, tt)
  spared_grants o change (Some _) = tt
  spared_grants o change None = tt

  spared_default : (q : QName) (column : Bytes) (text : Option Bytes) → AreSpared named (default_set q column text)
  spared_default q column None = tt
  spared_default q column (Some text) = (tt, tt)

  spared_parts : (q : QName) (cs : List ColumnDef) (checks : List CheckDef) → AreSpared named (flat_map (λ (c : ColumnDef). default_set q c.name c.default) cs ++ map (λ (c : CheckDef). (key.Con q c.name, Some (check_value c.text))) checks)
  spared_parts q cs checks =
      all-append (λ (c : Change). IsSpared named c.0) (flat_map (λ (c : ColumnDef). default_set q c.name c.default) cs) (map (λ (c : CheckDef). (key.Con q c.name, Some (check_value c.text))) checks)
      (all-flat (λ (c : Change). IsSpared named c.0) (λ (c : ColumnDef). default_set q c.name c.default) cs (of_each (λ (c : ColumnDef). AreSpared named (default_set q c.name c.default)) cs (λ c among. spared_default q c.name c.default)))
      (all-mapped (λ (c : Change). IsSpared named c.0) (λ (c : CheckDef). (key.Con q c.name, Some (check_value c.text))) checks (of_each (λ (c : CheckDef). Unit {0}) checks (λ c among. tt)))

module _ {named : Named} where
  pub leaves_sets : {cs : List Change} → AreSpared named cs → Leaves named (sets cs)
  leaves_sets {cs} spared = record { relations = λ q v at. by q v at (settled_in cs named (key.Rel q)) }
    where
      by : (q : QName) (v : Value) → get named (key.Rel q) ≡ Some v → Settled cs (key.Rel q) (get named (key.Rel q)) (get (changed cs named) (key.Rel q)) → get (changed cs named) (key.Rel q) ≡ Some v
      by q v at (inl same) = same.1 ∙ at
      by q v at (inr (c, among, is, put)) =
          let none : get named (key.Rel q) ≡ None = subst (IsSpared named) is (of_member (λ (d : Change). IsSpared named d.0) cs spared c among) in
          absurd cc

  pub leaves_look : (k : Key) {then_do : Option Value → Tree} → ((o : Option Value) → get named k ≡ o → Leaves named (then_do o)) → Leaves named (look k then_do)
  leaves_look k step = record { relations = (step (get named k) refl).relations }

  pub leaves_scan : (c : Class) {then_do : List (Key × Value) → Tree} → ((es : List (Key × Value)) → Leaves named (then_do es)) → Leaves named (scan c then_do)
  leaves_scan c step = record { relations = (step (entries (class_of named c))).relations }

  pub leaves_refuse : (because : Cause) → Leaves named (refuse because)
  leaves_refuse because = record { relations = λ q v at. at }

  pub leaves_check : (holds : Bool) (because : Cause) {tree : Tree} → Leaves named tree → Leaves named (check holds because tree)
  leaves_check true because step = step
  leaves_check false because step = leaves_refuse because

  -- ---- keys that are there, or free

  there : (k : Key) (tree : Tree) (o : Option Value) → Leaves named tree → Leaves named (if_there k tree o)
  there k tree (Some v) step = step
  there k tree None step = leaves_refuse (cause.Absent k)

  pub leaves_needs : (k : Key) {tree : Tree} → Leaves named tree → Leaves named (needs k tree)
  leaves_needs k {tree} step = leaves_look k (λ o is. there k tree o step)

  pub leaves_needs_each : (ks : List Key) {tree : Tree} → Leaves named tree → Leaves named (needs_each ks tree)
  leaves_needs_each [] step = step
  leaves_needs_each (k ∷ ks) step = leaves_needs k (leaves_needs_each ks step)

  absent : (k : Key) (tree : Tree) (o : Option Value) → get named k ≡ o → (get named k ≡ None → Leaves named tree) → Leaves named (if_free k tree o)
  absent k tree (Some v) is step = leaves_refuse (cause.Exists k)
  absent k tree None is step = step is

  pub leaves_free : (k : Key) {tree : Tree} → (get named k ≡ None → Leaves named tree) → Leaves named (free k tree)
  leaves_free k {tree} step = leaves_look k (λ o is. absent k tree o is step)

  of_kind : (kind : Value → Bool) (k : Key) (tree : Tree) (o : Option Value) → Leaves named tree → Leaves named (if_of_kind kind k tree o)
  of_kind kind k tree (Some v) step = leaves_check (kind v) (cause.Absent k) step
  of_kind kind k tree None step = leaves_refuse (cause.Absent k)

  pub leaves_kind : (kind : Value → Bool) (k : Key) {tree : Tree} → Leaves named tree → Leaves named (needs_kind kind k tree)
  leaves_kind kind k {tree} step = leaves_look k (λ o is. of_kind kind k tree o step)

  of_table : (q : QName) (then_do : List Column → Tree) (o : Option Value) → ((columns : List Column) → Leaves named (then_do columns)) → Leaves named (if_table q then_do o)
  of_table q then_do (Some (value.Table columns)) step = step columns
  of_table q then_do (Some _) step = leaves_refuse (cause.Absent (key.Rel q))
  of_table q then_do None step = leaves_refuse (cause.Absent (key.Rel q))

  pub leaves_table : (q : QName) {then_do : List Column → Tree} → ((columns : List Column) → Leaves named (then_do columns)) → Leaves named (needs_table q then_do)
  leaves_table q {then_do} step = leaves_look (key.Rel q) (λ o is. of_table q then_do o step)

  of_sequence : (q : QName) (then_do : Sequence → Tree) (o : Option Value) → ((s : Sequence) → Leaves named (then_do s)) → Leaves named (if_sequence q then_do o)
  of_sequence q then_do (Some (value.Sequence s)) step = step s
  of_sequence q then_do (Some _) step = leaves_refuse (cause.Absent (key.Rel q))
  of_sequence q then_do None step = leaves_refuse (cause.Absent (key.Rel q))

  pub leaves_sequence : (q : QName) {then_do : Sequence → Tree} → ((s : Sequence) → Leaves named (then_do s)) → Leaves named (needs_sequence q then_do)
  leaves_sequence q {then_do} step = leaves_look (key.Rel q) (λ o is. of_sequence q then_do o step)

  of_domain : (q : QName) (then_do : Domain → Tree) (o : Option Value) → ((d : Domain) → Leaves named (then_do d)) → Leaves named (if_domain q then_do o)
  of_domain q then_do (Some (value.Domain d)) step = step d
  of_domain q then_do (Some _) step = leaves_refuse (cause.Absent (key.UserType q))
  of_domain q then_do None step = leaves_refuse (cause.Absent (key.UserType q))

  pub leaves_domain : (q : QName) {then_do : Domain → Tree} → ((d : Domain) → Leaves named (then_do d)) → Leaves named (needs_domain q then_do)
  leaves_domain q {then_do} step = leaves_look (key.UserType q) (λ o is. of_domain q then_do o step)

  of_role : (name : Bytes) (then_do : Role → Tree) (o : Option Value) → ((r : Role) → Leaves named (then_do r)) → Leaves named (if_role name then_do o)
  of_role name then_do (Some (value.Role r)) step = step r
  of_role name then_do (Some _) step = leaves_refuse (cause.Absent (key.Role name))
  of_role name then_do None step = leaves_refuse (cause.Absent (key.Role name))

  pub leaves_role : (name : Bytes) {then_do : Role → Tree} → ((r : Role) → Leaves named (then_do r)) → Leaves named (needs_role name then_do)
  leaves_role name {then_do} step = leaves_look (key.Role name) (λ o is. of_role name then_do o step)

  -- ---- types and columns

  of_type : (q : QName) (then_do : Resolved → Tree) (o : Option Value) → ((end : Resolved) → Leaves named (then_do end)) → Leaves named (if_type q then_do o)
  of_type q then_do (Some (value.Enum labels)) step = step (record { type_name = Path q; labels = Some labels; not_null = false })
  of_type q then_do (Some (value.Domain d)) step = step (record d.resolved { not_null = d.resolved.not_null || d.not_null })
  of_type q then_do (Some _) step = leaves_refuse (cause.Absent (key.UserType q))
  of_type q then_do None step = leaves_refuse (cause.Absent (key.UserType q))

  of_path : (q : QName) (then_do : Resolved → Tree) (system : Bool) → ((end : Resolved) → Leaves named (then_do end)) → Leaves named (if system then then_do (as_it_is (Path q)) else look (key.UserType q) (if_type q then_do))
  of_path q then_do true step = step (as_it_is (Path q))
  of_path q then_do false step = leaves_look (key.UserType q) (λ o is. of_type q then_do o step)

  pub leaves_type : (type : TypeName) {then_do : Resolved → Tree} → ((end : Resolved) → Leaves named (then_do end)) → Leaves named (needs_type type then_do)
  leaves_type (Words text) step = step (as_it_is (Words text))
  leaves_type (Path q) {then_do} step = of_path q then_do (is_system q.schema) step

  pub leaves_columns : (q : QName) (cs : List ColumnDef) {then_do : List Column → Tree} → ((columns : List Column) → Leaves named (then_do columns)) → Leaves named (needs_columns q cs then_do)
  leaves_columns q [] step = step []
  leaves_columns q (c ∷ cs) step =
      leaves_type c.type_name (λ end.
      leaves_needs_each (but (key.Rel q) (default_references c.default))
      (leaves_columns q cs (λ columns. step (record { name = c.name; type_name = c.type_name; resolved = end; not_null = c.not_null } ∷ columns))))

  -- ---- conditions on rows and on keys of tables

  pub leaves_repeated : (name : Bytes) (o : Option (ℕ × ℕ)) {tree : Tree} → Leaves named tree → Leaves named (refuse_repeated name o tree)
  leaves_repeated name None step = step
  leaves_repeated name (Some (first, second)) step = leaves_refuse (cause.Duplicate name first second)

  pub leaves_null : (o : Option (ℕ × ℕ)) {tree : Tree} → Leaves named tree → Leaves named (refuse_null o tree)
  leaves_null None step = step
  leaves_null (Some (column, row)) step = leaves_refuse (cause.NullValue column row)

  pub leaves_orphan : (name : Bytes) (o : Option ℕ) {tree : Tree} → Leaves named tree → Leaves named (refuse_orphan name o tree)
  leaves_orphan name None step = step
  leaves_orphan name (Some row) step = leaves_refuse (cause.NoParent name row)

  pub leaves_no_primary : (es : List (Key × Value)) {tree : Tree} → Leaves named tree → Leaves named (if_no_primary tree es)
  leaves_no_primary [] step = step
  leaves_no_primary ((k, v) ∷ es) step = leaves_refuse (cause.Exists k)

  pub leaves_key : (parent : QName) (es : List (Key × Value)) {tree : Tree} → Leaves named tree → Leaves named (if_key parent tree es)
  leaves_key parent [] step = leaves_refuse (cause.KeyMissing (key.Rel parent))
  leaves_key parent (e ∷ es) step = step

  leaves_unique : (us : List Unique) (columns : List Column) (rows : List Row) {tree : Tree} → Leaves named tree → Leaves named (all_unique us columns rows tree)
  leaves_unique [] columns rows step = step
  leaves_unique (u ∷ us) columns rows step = leaves_repeated u.0 (repeated columns u.1 rows) (leaves_unique us columns rows step)

  leaves_parents : (q : QName) (fs : List Foreign) (columns : List Column) (new all : List Row) {tree : Tree} → Leaves named tree → Leaves named (all_have_parents q fs columns new all tree)
  leaves_parents q [] columns new all step = step
  leaves_parents q (f ∷ fs) columns new all step =
      leaves_look (key.Rel f.parent) (λ parent parent_is.
      leaves_look (key.Rows f.parent) (λ rows rows_are.
      leaves_orphan f.name (orphan columns f.columns new (columns_of parent) f.parent_columns (if same_path q f.parent then all else rows_in rows))
      (leaves_parents q fs columns new all step)))

  leaves_rows : (q : QName) (columns : List Column) (us : List Unique) (fs : List Foreign) (old : List Row) (read : Result (List Row) Cause) → Leaves named (rows_added q columns us fs old read)
  leaves_rows q columns us fs old (Err because) = leaves_refuse because
  leaves_rows q columns us fs old (Ok new) =
      leaves_unique us columns (old ++ new)
      (leaves_parents q fs columns new (old ++ new)
      (leaves_sets (tt, tt)))

  leaves_unique_rows : (q : QName) (name : Bytes) (columns : List Column) (names : Option (List Bytes)) {tree : Tree} → Leaves named tree → Leaves named (unique_rows q name columns names tree)
  leaves_unique_rows q name columns None step = step
  leaves_unique_rows q name columns (Some names) step =
      leaves_check (columns_there columns names) cause.WrongColumns
      (leaves_look (key.Rows q) (λ rows rows_are.
      leaves_repeated name (repeated columns names (rows_in rows)) step))

  -- ---- owners, grants and comments

  leaves_owned : (what : Owned) {tree : Tree} → Leaves named tree → Leaves named (needs_owned what tree)
  leaves_owned (owned.Schema name) step = leaves_needs (key.Schema name) step
  leaves_owned (owned.Type q) step = leaves_kind is_enum (key.UserType q) step
  leaves_owned (owned.Domain q) step = leaves_kind is_domain (key.UserType q) step
  leaves_owned (owned.Table q) step = leaves_kind (λ v. is_table_or_view v || is_sequence v) (key.Rel q) step
  leaves_owned (owned.Sequence q) step = leaves_kind is_sequence (key.Rel q) step
  leaves_owned (owned.View q) step = leaves_kind is_view (key.Rel q) step
  leaves_owned (owned.Database name) step = leaves_needs (key.Database name) step

  leaves_owner_to : (what : Owned) (role : Bytes) → Leaves named (owner_to what role)
  leaves_owner_to what role =
      leaves_owned what
      (leaves_needs (key.Role role)
      (leaves_look (key.Acl (owned_object what)) (λ grants is. leaves_sets (tt, spared_joined named (owned_object what) role grants))))

  leaves_granted : (what : Granted) {tree : Tree} → Leaves named tree → Leaves named (needs_granted what tree)
  leaves_granted (on.Table q) step = leaves_kind is_table_or_view (key.Rel q) step
  leaves_granted (on.Sequence q) step = leaves_kind is_sequence (key.Rel q) step
  leaves_granted (on.Schema name) step = leaves_needs (key.Schema name) step
  leaves_granted (on.Type q) step = leaves_kind is_type (key.UserType q) step

  leaves_grantee : (who : Grantee) {tree : Tree} → Leaves named tree → Leaves named (needs_grantee who tree)
  leaves_grantee grantee.Public step = step
  leaves_grantee (grantee.Role name) step = leaves_needs (key.Role name) step

  leaves_grants : (what : Granted) (who : Grantee) (change : Holder → Grants → Grants) → Leaves named (change_grants what who change)
  leaves_grants what who change =
      leaves_granted what
      (leaves_grantee who
      (leaves_look (key.Owner (granted_object what)) (λ owner owner_is.
      leaves_look (key.Acl (granted_object what)) (λ grants is.
      leaves_sets (spared_grants named (granted_object what) (change (holder_of (owner_in owner) who)) grants)))))

  leaves_commented : (what : Commented) {tree : Tree} → Leaves named tree → Leaves named (needs_commented what tree)
  leaves_commented (commented.Schema name) step = leaves_needs (key.Schema name) step
  leaves_commented (commented.Type q) step = leaves_kind is_enum (key.UserType q) step
  leaves_commented (commented.Domain q) step = leaves_kind is_domain (key.UserType q) step
  leaves_commented (commented.Table q) step = leaves_kind is_table (key.Rel q) step
  leaves_commented (commented.View q) step = leaves_kind is_view (key.Rel q) step
  leaves_commented (commented.Sequence q) step = leaves_kind is_sequence (key.Rel q) step
  leaves_commented (commented.Index q) step = leaves_kind is_index (key.Rel q) step
  leaves_commented (commented.Column q column) step = leaves_table q (λ columns. leaves_check (column_there columns column) cause.WrongColumns step)
  leaves_commented (commented.Constraint q name) step = leaves_needs (key.Con q name) step

  leaves_grantor : (grantor : Option Bytes) {tree : Tree} → Leaves named tree → Leaves named (needs_grantor grantor tree)
  leaves_grantor None step = step
  leaves_grantor (Some name) step = leaves_needs (key.Role name) step

-- ---- statements

pub statement_leaves : (boot : Bytes) (s : Stmt) (named : Named) → Leaves named (effect boot s)
statement_leaves boot (stmt.Set name text) named = leaves_sets tt
statement_leaves boot (stmt.SetConfig name text) named = leaves_sets tt
statement_leaves boot (stmt.CreateSchema name) named =
    leaves_free (key.Schema name) (λ none.
    leaves_check (not (is_system name)) (cause.Exists (key.Schema name))
    (leaves_sets (tt, (tt, (tt, tt)))))
statement_leaves boot (stmt.CreateEnum q labels) named =
    leaves_needs (key.Schema q.schema)
    (leaves_free (key.UserType q) (λ none.
    leaves_check (distinct labels) (cause.Exists (key.UserType q))
    (leaves_sets (tt, (tt, (tt, tt))))))
statement_leaves boot (stmt.CreateDomain q base not_null default checks) named =
    leaves_needs (key.Schema q.schema)
    (leaves_free (key.UserType q) (λ none.
    leaves_check (distinct (map (λ (c : CheckDef). c.name) checks)) (cause.Exists (key.UserType q))
    (leaves_type base (λ end.
    leaves_needs_each (default_references default)
    (leaves_needs_each (but (key.UserType q) (check_references checks))
    (leaves_sets (tt, (tt, (tt, tt)))))))))
statement_leaves boot (stmt.AddDomainCheck q name text) named =
    leaves_domain q (λ d.
    leaves_check (not (contains_key d.checks name)) (cause.Exists (key.UserType q))
    (leaves_needs_each (expression_references text)
    (leaves_sets (tt, tt))))
statement_leaves boot (stmt.CreateTable q columns checks) named =
    leaves_needs (key.Schema q.schema)
    (leaves_free (key.Rel q) (λ none.
    leaves_check (fits_table columns checks) cause.WrongColumns
    (leaves_columns q columns (λ resolved.
    leaves_needs_each (but (key.Rel q) (check_references checks))
    (leaves_sets (none, (tt, (tt, (tt, spared_parts named q columns checks)))))))))
statement_leaves boot (stmt.CreateSequence q kind start step min max cache cycle) named =
    leaves_needs (key.Schema q.schema)
    (leaves_free (key.Rel q) (λ none.
    leaves_check (fits_sequence (record { kind = kind; start = start; step = step; min = min; max = max; cache = cache; cycle = cycle })) cause.OutOfRange
    (leaves_sets (none, (tt, (tt, (tt, tt)))))))
statement_leaves boot (stmt.OwnedBy q table column) named =
    leaves_sequence q (λ s.
    leaves_table table (λ columns.
    leaves_check (column_there columns column) cause.WrongColumns
    (leaves_sets (tt, tt))))
statement_leaves boot (stmt.SetVal q n called) named =
    leaves_sequence q (λ s.
    leaves_check (within s.min s.max n) cause.OutOfRange
    (leaves_sets (tt, tt)))
statement_leaves boot (stmt.CreateView q body) named =
    leaves_needs (key.Schema q.schema)
    (leaves_free (key.Rel q) (λ none.
    leaves_needs_each (but (key.Rel q) (view_references body))
    (leaves_sets (none, (tt, (tt, (tt, tt)))))))
statement_leaves boot (stmt.ReplaceView q body) named =
    leaves_kind is_view (key.Rel q)
    (leaves_needs_each (view_references body)
    (leaves_sets (tt, tt)))
statement_leaves boot (stmt.SetDefault q column text) named =
    leaves_table q (λ columns.
    leaves_check (column_there columns column) cause.WrongColumns
    (leaves_needs_each (expression_references text)
    (leaves_sets (tt, tt))))
statement_leaves boot (stmt.AddPrimary q name names rest) named =
    leaves_table q (λ columns.
    leaves_free (key.Con q name) (λ no_constraint.
    leaves_free (key.Rel (index_path q name)) (λ none.
    leaves_scan (class.PrimaryKeys q) (λ es.
    leaves_no_primary es
    (leaves_check (columns_there columns names) cause.WrongColumns
    (leaves_look (key.Rows q) (λ rows rows_are.
    leaves_null (null_in 1 columns names (rows_in rows))
    (leaves_repeated name (repeated columns names (rows_in rows))
    (leaves_sets (tt, (none, tt)))))))))))
statement_leaves boot (stmt.AddUnique q name names rest) named =
    leaves_table q (λ columns.
    leaves_free (key.Con q name) (λ no_constraint.
    leaves_free (key.Rel (index_path q name)) (λ none.
    leaves_check (columns_there columns names) cause.WrongColumns
    (leaves_look (key.Rows q) (λ rows rows_are.
    leaves_repeated name (repeated columns names (rows_in rows))
    (leaves_sets (tt, (none, tt))))))))
statement_leaves boot (stmt.AddForeign q name names parent parent_names rest) named =
    leaves_table q (λ columns.
    leaves_table parent (λ parent_columns.
    leaves_free (key.Con q name) (λ no_constraint.
    leaves_check (fits_foreign columns names parent_columns parent_names) cause.WrongColumns
    (leaves_scan (class.KeysOn parent parent_names) (λ es.
    leaves_key parent es
    (leaves_look (key.Rows q) (λ rows rows_are.
    leaves_look (key.Rows parent) (λ parent_rows parent_rows_are.
    leaves_orphan name (orphan columns names (rows_in rows) parent_columns parent_names (rows_in parent_rows))
    (leaves_sets (tt, tt))))))))))
statement_leaves boot (stmt.AddCheck q name text) named =
    leaves_table q (λ columns.
    leaves_free (key.Con q name) (λ no_constraint.
    leaves_needs_each (expression_references text)
    (leaves_sets (tt, tt))))
statement_leaves boot (stmt.CreateIndex q name method rest) named =
    leaves_table q (λ columns.
    leaves_free (key.Rel (index_path q name)) (λ none.
    leaves_free (key.Index q name) (λ no_index.
    leaves_sets (tt, (none, tt)))))
statement_leaves boot (stmt.CreateUniqueIndex q name method rest) named =
    leaves_table q (λ columns.
    leaves_free (key.Rel (index_path q name)) (λ none.
    leaves_free (key.Index q name) (λ no_index.
    leaves_unique_rows q name columns (unique_on (record { method = method; unique = true; text = rest }))
    (leaves_sets (tt, (none, tt))))))
statement_leaves boot (stmt.CopyRows q names text) named =
    leaves_table q (λ columns.
    leaves_check (all_columns columns names) cause.WrongColumns
    (leaves_scan (class.Constraints q) (λ constraints.
    leaves_scan (class.Indexes q) (λ indexes.
    leaves_look (key.Rows q) (λ rows rows_are.
    leaves_rows q columns (by_name (filter_map unique_in (constraints ++ indexes))) (filter_map foreign_in constraints) (rows_in rows) (copied_rows columns names (primary_columns constraints) text))))))
statement_leaves boot (stmt.Grant what rights who option) named = leaves_grants what who (granted rights option)
statement_leaves boot (stmt.Revoke what rights who) named = leaves_grants what who (revoked rights)
statement_leaves boot (stmt.Comment what text) named = leaves_commented what (leaves_sets (tt, tt))
statement_leaves boot (stmt.OwnerTo what role) named = leaves_owner_to what role
statement_leaves boot (stmt.CreateRole name) named =
    leaves_free (key.Role name) (λ none.
    leaves_check (not (same_text name (codes "public"))) (cause.Exists (key.Role name))
    (leaves_sets (tt, tt)))
statement_leaves boot (stmt.AlterRole name changes) named = leaves_role name (λ r. leaves_sets (tt, tt))
statement_leaves boot (stmt.GrantRole role member grantor admin inherit may_set) named =
    leaves_needs (key.Role role)
    (leaves_role member (λ r.
    leaves_grantor grantor
    (leaves_sets (tt, tt))))
statement_leaves boot (stmt.CreateDatabase name encoding) named =
    leaves_free (key.Database name) (λ none.
    leaves_sets (tt, (tt, tt)))
statement_leaves boot (stmt.Connect name) named = leaves_needs (key.Database name) (leaves_sets tt)

pub run_leaves : (boot : Bytes) (ss : List Stmt) (named : Named) (q : QName) (v : Value) → get named (key.Rel q) ≡ Some v → get (catalogue_after boot ss named) (key.Rel q) ≡ Some v
run_leaves boot [] named q v at = at
run_leaves boot (s ∷ ss) named q v at = run_leaves boot ss (next (effect boot s) named) q v ((statement_leaves boot s named).relations q v at)

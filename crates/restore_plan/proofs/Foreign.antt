-- The foreign keys of a catalogue stay among those that were given, the statement's own with them. Most statements set
-- no constraint at all; of those that do, one alone sets a foreign key.
use Rattle.std.proofs.Common.{◌≡◌, ℕ, Bool, true, false, cond, ◌&&◌, ◌||◌, List, [], ◌∷◌, ◌++◌, map, Option, Some, None, Result, Ok, Err, refl, ap, sym, subst, ◌∙◌, inl, inr}
use Rattle.std.specs.Prelude.{◌⊎◌}
use Rattle.std.specs.Ordering.{eq_by_cmp}
use Rattle.std.specs.List.{list_any, flat_map, filter_map, cons_option}
use Rattle.std.specs.FinMap.{get, insert, remove, entries, find, get-insert, get-remove, get-entries}
use Rattle.std.proofs.lemmas.List.Folds.{list_any-append}
use Rattle.std.proofs.lemmas.List.Elements.{filter_map-append}
use Rattle.std.proofs.lemmas.Cmp.{nat_list_eq_equiv}
use Rattle.cat_model.specs.declared.object.QName.{QName}
use Rattle.cat_model.specs.declared.object.Object.TheVariants as object
use Rattle.cat_model.specs.declared.key.Key.{Key}
use Rattle.cat_model.specs.declared.key.Key.TheVariants as key
use Rattle.cat_model.specs.declared.class.Class.{Class}
use Rattle.cat_model.specs.declared.class.Class.TheVariants as class
use Rattle.cat_model.specs.declared.cause.Cause.{Cause}
use Rattle.cat_model.specs.declared.cause.Cause.TheVariants as cause
use Rattle.cat_model.specs.declared.constraint.ConstraintKind.TheVariants as kinds
use Rattle.cat_model.specs.declared.table.ColumnDef.{ColumnDef}
use Rattle.cat_model.specs.declared.table.CheckDef.{CheckDef}
use Rattle.cat_model.specs.declared.type_name.TypeName.{TypeName}
use Rattle.cat_model.specs.declared.type_name.TypeName.TheVariants.{Words, Path}
use Rattle.cat_model.specs.declared.stmt.Stmt.{Stmt}
use Rattle.cat_model.specs.declared.footprint.Footprint.{Footprint}
use Rattle.cat_model.specs.declared.stmt.Stmt.TheVariants as stmt
use Rattle.cat_model.specs.Keys.{key_cmp, key_eq}
use Rattle.cat_model.specs.KeyLaws.{key_cmp_total, key_eq-same}
use Rattle.cat_model.specs.Lexemes.{same_text}
use Rattle.cat_model.specs.declared.value.Value.TheVariants as value
use Rattle.cat_model.specs.declared.value.Value.{Value}
use Rattle.cat_model.specs.declared.value.Constraint.{Constraint}
use Rattle.cat_model.specs.declared.value.Column.{Column}
use Rattle.cat_model.specs.declared.value.Resolved.{Resolved}
use Rattle.cat_model.specs.Values.{Bytes, Named}
use Rattle.cat_model.specs.Trees.{Change, Tree, refuse, sets, look, scan, Seen, seen, outcome, changed_at, changed, after_or_same, next, same_path}
use Rattle.cat_model.specs.Marks.{IsWithin, key_meets}
use Rattle.cat_model.specs.Effects.{effect}
use Rattle.cat_model.specs.Footprints.{is_given, writes_of, footprint_of, GivesParents}
use Rattle.cat_model.specs.References.{is_system, expression_references}
use Rattle.cat_model.specs.Conditions.{needs, if_there, needs_each, free, if_free, check, needs_table, if_table}
use Rattle.cat_model.specs.ObjectEffects.{made}
use Rattle.cat_model.specs.Grants.{owner_only, table_rights}
use Rattle.cat_model.specs.TypeEffects.{needs_type, if_type, but, default_references, check_references}
use Rattle.cat_model.specs.RelationEffects.{needs_columns, default_set, check_value, fits_table, create_table}
use Rattle.cat_model.specs.KeyEffects.{index_path, rows_in, refuse_repeated, refuse_null, refuse_orphan, if_no_primary, if_key, key_value, foreign_value, add_primary, add_unique, add_foreign, add_check, fits_foreign}
use Rattle.restore_plan.specs.Order.{with_parent, foreign_key_in, foreign_keys, foreign_keys_of}
use Rattle.restore_plan.specs.Places.{Given}
use Rattle.restore_plan.proofs.Booleans.{or_by_first, or_by_second, and_both}

-- ---- what stands at a constraint's key

abbrev pub FitsParent : List (QName × QName) → QName → Option (QName × List Bytes) → Type 0
FitsParent pairs table None = Unit {0}
FitsParent pairs table (Some (parent, names)) = is_given pairs table parent ≡ true

abbrev pub FitsValue : List (QName × QName) → QName → Option Value → Type 0
FitsValue pairs table (Some (value.Constraint c)) = FitsParent pairs table c.parent
FitsValue pairs table _ = Unit {0}

-- where it is a foreign key, it is given
abbrev pub Fits : List (QName × QName) → Key → Option Value → Type 0
Fits pairs (key.Con table name) v = FitsValue pairs table v
Fits pairs _ v = Unit {0}

fits-from : (pairs : List (QName × QName)) (n : Named) → Given pairs n → (table : QName) (name : Bytes) (v : Option Value) → get n (key.Con table name) ≡ v → FitsValue pairs table v
fits-from pairs n given table name None e = tt
fits-from pairs n given table name (Some (value.Constraint c)) e = at c.parent refl
  where
    at : (p : Option (QName × List Bytes)) → c.parent ≡ p → FitsParent pairs table p
    at None g = tt
    at (Some (parent, names)) g = given table name c parent names e g
fits-from pairs n given table name (Some _) e = tt

given-from : (pairs : List (QName × QName)) (n : Named) → ((table : QName) (name : Bytes) → FitsValue pairs table (get n (key.Con table name))) → Given pairs n
given-from pairs n fits table name c parent names e g =
    let h : FitsParent pairs table c.parent = subst (FitsValue pairs table) e (fits table name) in
    subst (FitsParent pairs table) g h

-- ---- changes

abbrev pub AllFit : List (QName × QName) → List Change → Type 0
AllFit pairs [] = Unit {0}
AllFit pairs (c ∷ cs) = Fits pairs c.0 c.1 × AllFit pairs cs

get-changed_at : (named : Named) (k : Key) (v : Option Value) (q : Key) → get (changed_at named k v) q ≡ cond (key_eq q k) v (get named q)
get-changed_at named k (Some v) q = get-insert key_cmp_total named k v q
get-changed_at named k None q = get-remove key_cmp_total named k q

given-change : (pairs : List (QName × QName)) (n : Named) (k : Key) (v : Option Value) → Fits pairs k v → Given pairs n → Given pairs (changed_at n k v)
given-change pairs n k v fits given = given-from pairs (changed_at n k v) (λ table name. subst (FitsValue pairs table) (sym (get-changed_at n k v (key.Con table name))) (at table name (key_eq (key.Con table name) k) refl))
  where
    at : (table : QName) (name : Bytes) (b : Bool) → key_eq (key.Con table name) k ≡ b → FitsValue pairs table (cond b v (get n (key.Con table name)))
    at table name true e = subst (λ (j : Key). Fits pairs j v) (sym (key_eq-same (key.Con table name) k e)) fits
    at table name false e = fits-from pairs n given table name (get n (key.Con table name)) refl

given-changes : (pairs : List (QName × QName)) (cs : List Change) (n : Named) → AllFit pairs cs → Given pairs n → Given pairs (changed cs n)
given-changes pairs [] n fits given = given
given-changes pairs (c ∷ cs) n fits given = given-changes pairs cs (changed_at n c.0 c.1) fits.1 (given-change pairs n c.0 c.1 fits.0 given)

pub fit-append : (pairs : List (QName × QName)) (cs ds : List Change) → AllFit pairs cs → AllFit pairs ds → AllFit pairs (cs ++ ds)
fit-append pairs [] ds h g = g
fit-append pairs (c ∷ cs) ds h g = (h.0, fit-append pairs cs ds h.1 g)

-- ---- trees

abbrev pub Fitting : List (QName × QName) → Tree → Type 0
Fitting pairs (refuse because) = Unit {0}
Fitting pairs (sets changes) = AllFit pairs changes
Fitting pairs (look k more) = (v : Option Value) → Fitting pairs (more v)
Fitting pairs (scan c more) = (es : List (Key × Value)) → Fitting pairs (more es)

fit-outcome : (pairs : List (QName × QName)) (s : Seen) (tree : Tree) (cs : List Change) → Fitting pairs tree → outcome tree s ≡ Ok cs → AllFit pairs cs
fit-outcome pairs s (refuse because) cs h e = cc
fit-outcome pairs s (sets changes) cs h e = let is : changes ≡ cs = cc in subst (AllFit pairs) is h
fit-outcome pairs s (look k more) cs h e = fit-outcome pairs s (more (s.at k)) cs (h (s.at k)) e
fit-outcome pairs s (scan c more) cs h e = fit-outcome pairs s (more (s.all c)) cs (h (s.all c)) e

given-tree : (pairs : List (QName × QName)) (n : Named) (tree : Tree) → Fitting pairs tree → Given pairs n → Given pairs (next tree n)
given-tree pairs n tree fits given = at (outcome tree (seen n)) refl
  where
    at : (r : Result (List Change) Cause) → outcome tree (seen n) ≡ r → Given pairs (after_or_same r n)
    at (Ok cs) e = given-changes pairs cs n (fit-outcome pairs (seen n) tree cs fits e) given
    at (Err because) e = given

-- a record, so that its type tells the tree
pub record Fit (pairs : List (QName × QName)) (tree : Tree) : Type 0 where
  pub is : Fitting pairs tree

-- and so do changes
pub record FitChanges (pairs : List (QName × QName)) (cs : List Change) : Type 0 where
  pub is : AllFit pairs cs

-- ---- conditions

module _ {pairs : List (QName × QName)} where
  fit-nothing : FitChanges pairs []
  fit-nothing = record { is = tt }

  fit-more : (k : Key) (v : Option Value) {cs : List Change} → Fits pairs k v → FitChanges pairs cs → FitChanges pairs ((k, v) ∷ cs)
  fit-more k v h rest = record { is = (h, rest.is) }

  fit-sets : {cs : List Change} → FitChanges pairs cs → Fit pairs (sets cs)
  fit-sets h = record { is = h.is }

  fit-check : (b : Bool) (because : Cause) {more : Tree} → Fit pairs more → Fit pairs (check b because more)
  fit-check true because h = h
  fit-check false because h = record { is = tt }

  there : (k : Key) (more : Tree) → Fit pairs more → (v : Option Value) → Fitting pairs (if_there k more v)
  there k more h (Some v) = h.is
  there k more h None = tt

  fit-needs : (k : Key) {more : Tree} → Fit pairs more → Fit pairs (needs k more)
  fit-needs k {more} h = record { is = there k more h }

  fit-each : (ks : List Key) {more : Tree} → Fit pairs more → Fit pairs (needs_each ks more)
  fit-each [] h = h
  fit-each (k ∷ ks) h = fit-needs k (fit-each ks h)

  absent : (k : Key) (more : Tree) → Fit pairs more → (v : Option Value) → Fitting pairs (if_free k more v)
  absent k more h (Some v) = tt
  absent k more h None = h.is

  fit-free : (k : Key) {more : Tree} → Fit pairs more → Fit pairs (free k more)
  fit-free k {more} h = record { is = absent k more h }

  of_table : (q : QName) (more : List Column → Tree) → ((columns : List Column) → Fit pairs (more columns)) → (v : Option Value) → Fitting pairs (if_table q more v)
  of_table q more h (Some (value.Table columns)) = (h columns).is
  of_table q more h (Some _) = tt
  of_table q more h None = tt

  fit-table : (q : QName) {more : List Column → Tree} → ((columns : List Column) → Fit pairs (more columns)) → Fit pairs (needs_table q more)
  fit-table q {more} h = record { is = of_table q more h }

  fit-look : {k : Key} {more : Option Value → Tree} → ((v : Option Value) → Fit pairs (more v)) → Fit pairs (look k more)
  fit-look h = record { is = λ v. (h v).is }

  fit-scan : {c : Class} {more : List (Key × Value) → Tree} → ((es : List (Key × Value)) → Fit pairs (more es)) → Fit pairs (scan c more)
  fit-scan h = record { is = λ es. (h es).is }

  fit-repeated : (name : Bytes) (o : Option (ℕ × ℕ)) {more : Tree} → Fit pairs more → Fit pairs (refuse_repeated name o more)
  fit-repeated name None h = h
  fit-repeated name (Some (first, second)) h = record { is = tt }

  fit-null : (o : Option (ℕ × ℕ)) {more : Tree} → Fit pairs more → Fit pairs (refuse_null o more)
  fit-null None h = h
  fit-null (Some (column, row)) h = record { is = tt }

  fit-orphan : (name : Bytes) (o : Option ℕ) {more : Tree} → Fit pairs more → Fit pairs (refuse_orphan name o more)
  fit-orphan name None h = h
  fit-orphan name (Some row) h = record { is = tt }

  fit-no_primary : (es : List (Key × Value)) {more : Tree} → Fit pairs more → Fit pairs (if_no_primary more es)
  fit-no_primary [] h = h
  fit-no_primary ((k, v) ∷ es) h = record { is = tt }

  fit-has_key : (parent : QName) (es : List (Key × Value)) {more : Tree} → Fit pairs more → Fit pairs (if_key parent more es)
  fit-has_key parent [] h = record { is = tt }
  fit-has_key parent (e ∷ es) h = h

  of_type : (q : QName) (more : Resolved → Tree) → ((r : Resolved) → Fit pairs (more r)) → (v : Option Value) → Fitting pairs (if_type q more v)
  of_type q more h (Some (value.Enum labels)) = (h _).is
  of_type q more h (Some (value.Domain d)) = (h _).is
  of_type q more h (Some _) = tt
  of_type q more h None = tt

  fit-type : (type : TypeName) (more : Resolved → Tree) → ((r : Resolved) → Fit pairs (more r)) → Fit pairs (needs_type type more)
  fit-type (Words text) more h = h _
  fit-type (Path q) more h = at (is_system q.schema)
    where
      at : (b : Bool) → Fit pairs (cond b (more (record { type_name = Path q; labels = None; not_null = false })) (look (key.UserType q) (if_type q more)))
      at true = h _
      at false = record { is = of_type q more h }

  fit-columns : (q : QName) (columns : List ColumnDef) (more : List Column → Tree) → ((made : List Column) → Fit pairs (more made)) → Fit pairs (needs_columns q columns more)
  fit-columns q [] more h = h []
  fit-columns q (c ∷ cs) more h =
      fit-type c.type_name _ (λ r. fit-each (but (key.Rel q) (default_references c.default)) (fit-columns q cs _ (λ made. h _)))

-- ---- the statements that set constraints

defaults-fit : (pairs : List (QName × QName)) (q : QName) (columns : List ColumnDef) → AllFit pairs (flat_map (λ c. default_set q c.name c.default) columns)
defaults-fit pairs q [] = tt
defaults-fit pairs q (c ∷ cs) = fit-append pairs (default_set q c.name c.default) (flat_map (λ d. default_set q d.name d.default) cs) (one c.default) (defaults-fit pairs q cs)
  where
    one : (o : Option Bytes) → AllFit pairs (default_set q c.name o)
    one None = tt
    one (Some text) = (tt, tt)

checks-fit : (pairs : List (QName × QName)) (q : QName) (checks : List CheckDef) → AllFit pairs (map (λ c. (key.Con q c.name, Some (check_value c.text))) checks)
checks-fit pairs q [] = tt
checks-fit pairs q (c ∷ cs) = (tt, checks-fit pairs q cs)

table-fits : (pairs : List (QName × QName)) (boot : Bytes) (q : QName) (columns : List ColumnDef) (checks : List CheckDef) → Fit pairs (create_table boot q columns checks)
table-fits pairs boot q columns checks =
    fit-needs (key.Schema q.schema)
    (fit-free (key.Rel q)
    (fit-check (fits_table columns checks) cause.WrongColumns
    (fit-columns q columns _ (λ made.
    fit-each (but (key.Rel q) (check_references checks))
    (record { is = (tt, (tt, (tt, (tt, fit-append pairs (flat_map (λ c. default_set q c.name c.default) columns) (map (λ c. (key.Con q c.name, Some (check_value c.text))) checks) (defaults-fit pairs q columns) (checks-fit pairs q checks))))) })))))

primary-fits : (pairs : List (QName × QName)) (q : QName) (name : Bytes) (names : List Bytes) (rest : Bytes) → Fit pairs (add_primary q name names rest)
primary-fits pairs q name names rest =
    fit-table q (λ columns.
    fit-free (key.Con q name)
    (fit-free (key.Rel (index_path q name))
    (fit-scan (λ es. fit-no_primary es
    (fit-check _ cause.WrongColumns
    (fit-look (λ rows.
    fit-null _ (fit-repeated name _
    (fit-sets (fit-more (key.Con q name) _ tt (fit-more (key.Rel (index_path q name)) _ tt fit-nothing)))))))))))

unique-fits : (pairs : List (QName × QName)) (q : QName) (name : Bytes) (names : List Bytes) (rest : Bytes) → Fit pairs (add_unique q name names rest)
unique-fits pairs q name names rest =
    fit-table q (λ columns.
    fit-free (key.Con q name)
    (fit-free (key.Rel (index_path q name))
    (fit-check _ cause.WrongColumns
    (fit-look (λ rows.
    fit-repeated name _
    (fit-sets (fit-more (key.Con q name) _ tt (fit-more (key.Rel (index_path q name)) _ tt fit-nothing))))))))

foreign-fits : (pairs : List (QName × QName)) (q : QName) (name : Bytes) (names : List Bytes) (parent : QName) (parent_names : List Bytes) (rest : Bytes) → is_given pairs q parent ≡ true → Fit pairs (add_foreign q name names parent parent_names rest)
foreign-fits pairs q name names parent parent_names rest given =
    fit-table q (λ columns.
    fit-table parent (λ parent_columns.
    fit-free (key.Con q name)
    (fit-check _ cause.WrongColumns
    (fit-scan (λ es. fit-has_key parent es
    (fit-look (λ rows.
    fit-look (λ parent_rows.
    fit-orphan name _
    (fit-sets (fit-more (key.Con q name) _ given fit-nothing))))))))))

check-fits : (pairs : List (QName × QName)) (q : QName) (name text : Bytes) → Fit pairs (add_check q name text)
check-fits pairs q name text =
    fit-table q (λ columns.
    fit-free (key.Con q name)
    (fit-each (expression_references text)
    (record { is = (tt, tt) })))

-- ---- all statements

-- sets no constraint, or fits
abbrev SetsNone : Stmt → Type 0
SetsNone s = (table : QName) (name : Bytes) → list_any (key_meets (key.Con table name)) (writes_of s) ≡ false

-- the statement's own foreign key is given
abbrev pub OwnGiven : List (QName × QName) → Stmt → Type 0
OwnGiven pairs s = (table parent : QName) → is_given (foreign_keys_of s) table parent ≡ true → is_given pairs table parent ≡ true

text_itself : (a : Bytes) → same_text a a ≡ true
text_itself a = nat_list_eq_equiv.refl a

path_itself : (q : QName) → same_path q q ≡ true
path_itself q = and_both (same_text q.schema q.schema) (same_text q.name q.name) (text_itself q.schema) (text_itself q.name)

given_itself : (table parent : QName) (more : List (QName × QName)) → is_given ((table, parent) ∷ more) table parent ≡ true
given_itself table parent more = or_by_first (same_path table table && same_path parent parent) (is_given more table parent) (and_both (same_path table table) (same_path parent parent) (path_itself table) (path_itself parent))

kind-fits : (pairs : List (QName × QName)) (boot : Bytes) (s : Stmt) → OwnGiven pairs s → SetsNone s ⊎ Fit pairs (effect boot s)
kind-fits pairs boot (stmt.Set name text) own = inl (λ t n. refl)
kind-fits pairs boot (stmt.SetConfig name text) own = inl (λ t n. refl)
kind-fits pairs boot (stmt.CreateSchema name) own = inl (λ t n. refl)
kind-fits pairs boot (stmt.CreateEnum q labels) own = inl (λ t n. refl)
kind-fits pairs boot (stmt.CreateDomain q base not_null default checks) own = inl (λ t n. refl)
kind-fits pairs boot (stmt.AddDomainCheck q name text) own = inl (λ t n. refl)
kind-fits pairs boot (stmt.CreateTable q columns checks) own = inr (table-fits pairs boot q columns checks)
kind-fits pairs boot (stmt.CreateSequence q kind start step min max cache cycle) own = inl (λ t n. refl)
kind-fits pairs boot (stmt.OwnedBy q table column) own = inl (λ t n. refl)
kind-fits pairs boot (stmt.SetVal q number called) own = inl (λ t n. refl)
kind-fits pairs boot (stmt.CreateView q body) own = inl (λ t n. refl)
kind-fits pairs boot (stmt.ReplaceView q body) own = inl (λ t n. refl)
kind-fits pairs boot (stmt.SetDefault q column text) own = inl (λ t n. refl)
kind-fits pairs boot (stmt.AddPrimary q name names rest) own = inr (primary-fits pairs q name names rest)
kind-fits pairs boot (stmt.AddUnique q name names rest) own = inr (unique-fits pairs q name names rest)
kind-fits pairs boot (stmt.AddForeign q name names parent parent_names rest) own = inr (foreign-fits pairs q name names parent parent_names rest (own q parent (given_itself q parent [])))
kind-fits pairs boot (stmt.AddCheck q name text) own = inr (check-fits pairs q name text)
kind-fits pairs boot (stmt.CreateIndex q name method rest) own = inl (λ t n. refl)
kind-fits pairs boot (stmt.CreateUniqueIndex q name method rest) own = inl (λ t n. refl)
kind-fits pairs boot (stmt.CopyRows q names rows) own = inl (λ t n. refl)
kind-fits pairs boot (stmt.Grant what rights who option) own = inl (λ t n. refl)
kind-fits pairs boot (stmt.Revoke what rights who) own = inl (λ t n. refl)
kind-fits pairs boot (stmt.Comment what text) own = inl (λ t n. refl)
kind-fits pairs boot (stmt.OwnerTo what role) own = inl (λ t n. refl)
kind-fits pairs boot (stmt.CreateRole name) own = inl (λ t n. refl)
kind-fits pairs boot (stmt.AlterRole name changes) own = inl (λ t n. refl)
kind-fits pairs boot (stmt.GrantRole role member grantor admin inherit may_set) own = inl (λ t n. refl)
kind-fits pairs boot (stmt.CreateDatabase name encoding) own = inl (λ t n. refl)
kind-fits pairs boot (stmt.Connect name) own = inl (λ t n. refl)

pub gives-parents : (pairs : List (QName × QName)) (n : Named) (s : Stmt) → Given pairs n → GivesParents pairs n s
gives-parents pairs n (stmt.CopyRows q names rows) given = λ name c parent parent_names e g. given q name c parent parent_names e g
gives-parents pairs n _ given = tt

-- what the laws of statements say
pub record Statements : Type 0 where
  pub within : (boot : Bytes) (s : Stmt) (pairs : List (QName × QName)) (named : Named) → GivesParents pairs named s → IsWithin (footprint_of s pairs) (seen named) (effect boot s)
  pub stays : (f : Footprint) (tree : Tree) (named : Named) (k : Key) → IsWithin f (seen named) tree → list_any (key_meets k) f.writes ≡ false → get (next tree named) k ≡ get named k

pub given-kept : Statements → (pairs : List (QName × QName)) (boot : Bytes) (s : Stmt) → OwnGiven pairs s → (n : Named) → Given pairs n → Given pairs (next (effect boot s) n)
given-kept laws pairs boot s own n given = at (kind-fits pairs boot s own)
  where
    at : SetsNone s ⊎ Fit pairs (effect boot s) → Given pairs (next (effect boot s) n)
    at (inr fits) = given-tree pairs n (effect boot s) fits.is given
    at (inl none) = λ table name c parent names e g. given table name c parent names (sym (laws.stays (footprint_of s pairs) (effect boot s) n (key.Con table name) (laws.within boot s pairs n (gives-parents pairs n s given)) (none table name)) ∙ e) g

-- ---- the opening

later-given : (e : Key × Value) (es : List (Key × Value)) (table parent : QName) → is_given (filter_map foreign_key_in es) table parent ≡ true → is_given (filter_map foreign_key_in (e ∷ es)) table parent ≡ true
later-given e es table parent h =
    ap (λ (ps : List (QName × QName)). is_given ps table parent) (filter_map-append foreign_key_in (e ∷ []) es)
    ∙ list_any-append (λ pair. same_path table pair.0 && same_path parent pair.1) (filter_map foreign_key_in (e ∷ [])) (filter_map foreign_key_in es)
    ∙ or_by_second (is_given (filter_map foreign_key_in (e ∷ [])) table parent) (is_given (filter_map foreign_key_in es) table parent) h

here-given : (k : Key) (v : Value) (es : List (Key × Value)) (table : QName) (name : Bytes) (c : Constraint) (parent : QName) (names : List Bytes) → key.Con table name ≡ k → value.Constraint c ≡ v → c.parent ≡ Some (parent, names) → is_given (filter_map foreign_key_in ((k, v) ∷ es)) table parent ≡ true
here-given k v es table name c parent names is same e =
    let P : Key → Type 0 = λ j. is_given (filter_map foreign_key_in ((j, v) ∷ es)) table parent ≡ true in
    let Q : Value → Type 0 = λ w. is_given (filter_map foreign_key_in ((key.Con table name, w) ∷ es)) table parent ≡ true in
    subst P is (subst Q same (at c.parent e))
  where
    at : (p : Option (QName × List Bytes)) → p ≡ Some (parent, names) → is_given (cons_option (with_parent table p) (filter_map foreign_key_in es)) table parent ≡ true
    at p e = ap (λ (o : Option (QName × List Bytes)). is_given (cons_option (with_parent table o) (filter_map foreign_key_in es)) table parent) e ∙ given_itself table parent (filter_map foreign_key_in es)

given-found : (es : List (Key × Value)) (table : QName) (name : Bytes) (c : Constraint) (parent : QName) (names : List Bytes) → find key_cmp (key.Con table name) es ≡ Some (value.Constraint c) → c.parent ≡ Some (parent, names) → is_given (filter_map foreign_key_in es) table parent ≡ true
given-found [] table name c parent names e g = cc
given-found (x ∷ es) table name c parent names e g = at (key_eq (key.Con table name) x.0) refl e (λ h. given-found es table name c parent names h g)
  where
    at : (b : Bool) → key_eq (key.Con table name) x.0 ≡ b → cond b (Some x.1) (find key_cmp (key.Con table name) es) ≡ Some (value.Constraint c) → (find key_cmp (key.Con table name) es ≡ Some (value.Constraint c) → is_given (filter_map foreign_key_in es) table parent ≡ true) → is_given (filter_map foreign_key_in (x ∷ es)) table parent ≡ true
    at true h e later = let is : value.Constraint c ≡ x.1 = cc in here-given x.0 x.1 es table name c parent names (key_eq-same (key.Con table name) x.0 h) is g
    at false h e later = later-given x es table parent (later e)

pub given-opening : (n : Named) → Given (foreign_keys n) n
given-opening n table name c parent names e g = given-found (entries n) table name c parent names (sym (get-entries n (key.Con table name)) ∙ e) g

-- A table that meets the rows of a text, told over the catalogue without rows, is one that COPY fills.
use Rattle.std.proofs.Common.{◌≡◌, ℕ, Bool, true, false, cond, List, [], ◌∷◌, ◌++◌, map, Option, Some, None, Result, Ok, Err, refl, sym, ap, subst, ◌∙◌, if◌then◌else◌}
use Rattle.std.specs.FinMap.{entries, get, insert, get-insert, get-retain_keys, same_map}
use Rattle.std.specs.List.{AllByRecursion, filter_map}
use Rattle.std.specs.Option.{option_map}
use Rattle.std.specs.Ordering.{eq_by_cmp, is_gt}
use Rattle.std.proofs.lemmas.Bool.{true≢false, false_from_ne_true}
use Rattle.std.proofs.lemmas.List.Elements.{filter_map-append}
use Rattle.copy_text.specs.Lines.{data_lines, lines}
use Rattle.cat_rows.specs.declared.catalogue.Catalogue.{Catalogue}
use Rattle.cat_model.specs.declared.cause.Cause.{Cause}
use Rattle.cat_model.specs.declared.class.Class.{Class}
use Rattle.cat_model.specs.declared.class.Class.TheVariants as class
use Rattle.cat_model.specs.declared.key.Key.{Key}
use Rattle.cat_model.specs.declared.key.Key.TheVariants as key
use Rattle.cat_model.specs.declared.object.QName.{QName}
use Rattle.cat_model.specs.declared.value.Column.{Column}
use Rattle.cat_model.specs.declared.value.Value.{Value}
use Rattle.cat_model.specs.declared.value.Value.TheVariants as value
use Rattle.cat_model.specs.Keys.{key_cmp}
use Rattle.cat_model.specs.KeyLaws.{key_cmp_total, key_cmp-IsAntisymmetric, key_eq-same, key_eq-Decides}
use Rattle.cat_model.specs.Values.{Bytes, Named, Row, bytes_cmp}
use Rattle.cat_model.specs.CopyEffect.{Foreign, Unique, by_name, copy_rows, foreign_in, placed, primary_columns, unique_in}
use Rattle.cat_model.specs.KeyEffects.{columns_of, rows_in}
use Rattle.cat_model.specs.RowTexts.{rows_held}
use Rattle.cat_model.specs.Tables.{orphan, repeated}
use Rattle.cat_model.specs.Trees.{class_of, of_class, outcome, same_path, seen, there_and_of}
use Rattle.cat_model.proofs.MarkLaws.{same_path-self}
use Rattle.cat_names.specs.DataSets.{TextsByOid}
use Rattle.cat_book.specs.Paths.{class_path_of}
use Rattle.table_rows.specs.Values.{text_of}
use Rattle.cat_naming.specs.Entries.{catalogue_named}
use Rattle.cat_naming.specs.Relations.{RowsByOid}
use Rattle.cat_naming.specs.Texts.{rows_by_oid}
use Rattle.cat_load.specs.declared.meeting.LoadFault.{LoadFault}
use Rattle.cat_load.specs.Loads.{rows_there, with_rows, with_none, emptied, cause_of, refusal_of, table_cause, fault_of, path_fault, or_later, first_fault}
use Rattle.rows_fit.specs.KeyCauses.{Linked, duplicate_or, linked, orphan_or, parent_cause, unique_cause}
use Rattle.rows_named.specs.Tables.{first_table, is_rows}
use Rattle.rows_named.proofs.Found.{others_same, rows_found}
use Rattle.plain_rows.specs.Lines.{LineFits}
use Rattle.plain_rows.proofs.CopiedLines.{copied}
use Rattle.plain_loads.specs.Meeting.{Differ, HasParents, Meets, MeetsAt, TableMeets, constraints_of, indexes_of, parent_text, text_at}

-- ---- keys of rows and other keys

other_key : (q : QName) (k : Key) → is_rows k ≡ false → eq_by_cmp key_cmp k (key.Rows q) ≡ false
other_key q k clear = false_from_ne_true _ (λ same. true≢false (sym (ap is_rows (key_eq-same k (key.Rows q) same)) ∙ clear))

same_key : (k : Key) → eq_by_cmp key_cmp k k ≡ true
same_key k = (key_eq-Decides k k).1 refl

other_path : (q p : QName) → same_path q p ≡ false → eq_by_cmp key_cmp (key.Rows p) (key.Rows q) ≡ false
other_path q p other = false_from_ne_true _ (λ same. apart (key_eq-same (key.Rows p) (key.Rows q) same))
  where
    apart : key.Rows p ≡ key.Rows q → ⊥
    apart e = let is : p ≡ q = cc in true≢false (sym (same_path-self q) ∙ ap (same_path q) (sym is) ∙ other)

-- ---- the keys of a class

in_class : (n : Named) (c : Class) (k : Key) → get (class_of n c) k ≡ cond (there_and_of c k (get n k)) (get n k) None
in_class n c k = get-retain_keys n (λ j. there_and_of c j (get n j)) k (λ x e. ap (λ (j : Key). there_and_of c j (get n j)) (sym (key_cmp-IsAntisymmetric k x e)))

module _ (m n : Named) (same : (k : Key) → is_rows k ≡ false → get m k ≡ get n k) (c : Class) (none : (p : QName) (v : Value) → of_class c (key.Rows p) v ≡ false) where
  abbrev shown : Key → Option Value → Option Value
  shown k v = cond (there_and_of c k v) v None

  gone : (p : QName) (v : Option Value) → shown (key.Rows p) v ≡ None
  gone p None = refl
  gone p (Some v) = ap (λ (b : Bool). cond b (Some v) None) (none p v)

  alike : (k : Key) → (b : Bool) → is_rows k ≡ b → shown k (get m k) ≡ shown k (get n k)
  alike k false clear = ap (shown k) (same k clear)
  alike (key.Rows p) true is = gone p (get m (key.Rows p)) ∙ sym (gone p (get n (key.Rows p)))
  alike _ true is = absurd cc

  class_same : class_of m c ≡ class_of n c
  class_same = same_map key_cmp_total key_cmp-IsAntisymmetric (class_of m c) (class_of n c) (λ k. in_class m c k ∙ alike k (is_rows k) refl ∙ sym (in_class n c k))

-- ---- all of a list

pub all_append : {A : Type 0} (P : A → Type 0) (xs ys : List A) → AllByRecursion P xs → AllByRecursion P ys → AllByRecursion P (xs ++ ys)
all_append P [] ys one other = other
all_append P (x ∷ xs) ys one other = (one.0, all_append P xs ys one.1 other)

placed_all : (P : Unique → Type 0) (u : Unique) (us : List Unique) → P u → AllByRecursion P us → AllByRecursion P (placed u us)
placed_all P u [] p all = (p, tt)
placed_all P u (v ∷ vs) p all =
    elim (is_gt (bytes_cmp u.0 v.0)) as (λ b. AllByRecursion P (cond b (v ∷ placed u vs) (u ∷ v ∷ vs)))
    [ true ↦ (all.0, placed_all P u vs p all.1) | false ↦ (p, all) ]

by_name_all : (P : Unique → Type 0) (us : List Unique) → AllByRecursion P us → AllByRecursion P (by_name us)
by_name_all P [] all = tt
by_name_all P (u ∷ us) all = placed_all P u (by_name us) all.0 (by_name_all P us all.1)

-- ---- causes

no_repeated : (columns : List Column) (rows : List Row) (us : List Unique) → AllByRecursion (λ u. repeated columns u.1 rows ≡ None) us → unique_cause us columns rows ≡ None
no_repeated columns rows [] all = refl
no_repeated columns rows (u ∷ us) all = ap (λ (pair : Option (ℕ × ℕ)). duplicate_or u.0 pair (unique_cause us columns rows)) all.0 ∙ no_repeated columns rows us all.1

no_orphan : (columns : List Column) (rows : List Row) (link : Foreign → Linked) (fs : List Foreign)
    → AllByRecursion (λ f. orphan columns (link f).columns rows (link f).parent_columns (link f).parent_names (link f).parent_rows ≡ None) fs
    → parent_cause (map link fs) columns rows ≡ None
no_orphan columns rows link [] all = refl
no_orphan columns rows link (f ∷ fs) all = ap (λ (row : Option ℕ). orphan_or (link f).name row (parent_cause (map link fs) columns rows)) all.0 ∙ no_orphan columns rows link fs all.1

no_rows : rows_held [] ≡ []
unfolding lines
no_rows = refl

rows_or_none : (texts : TextsByOid) (oid : Option ℕ) → rows_in (option_map (λ o. value.Rows (rows_by_oid texts o)) oid) ≡ rows_held (text_at texts oid)
rows_or_none texts None = sym no_rows
rows_or_none texts (Some oid) = refl

-- ---- one table

module _ (cat : Catalogue) (texts : TextsByOid) (other : RowsByOid) where
  abbrev full : Named
  full = catalogue_named cat (rows_by_oid texts)

  abbrev bare : Named
  bare = catalogue_named cat other

  module _ (q : QName) (text : Bytes) where
    abbrev empty : Named
    empty = emptied full q

    kept : (k : Key) (found : Option (List Row)) → eq_by_cmp key_cmp k (key.Rows q) ≡ false → get (with_none full q found) k ≡ get full k
    unfolding with_rows
    kept k None apart = refl
    kept k (Some rows) apart = get-insert key_cmp_total full (key.Rows q) (value.Rows []) k ∙ ap (λ (b : Bool). cond b (Some (value.Rows [])) (get full k)) apart

    same : (k : Key) → is_rows k ≡ false → get empty k ≡ get bare k
    same k clear = kept k (rows_there (get full (key.Rows q))) (other_key q k clear) ∙ others_same cat (rows_by_oid texts) other k clear

    own_rows : (v : Option Value) → get full (key.Rows q) ≡ v → rows_in (get (with_none full q (rows_there v)) (key.Rows q)) ≡ []
    unfolding with_rows
    own_rows (Some (value.Rows rows)) is =
        ap rows_in (get-insert key_cmp_total full (key.Rows q) (value.Rows []) (key.Rows q) ∙ ap (λ (b : Bool). cond b (Some (value.Rows [])) (get full (key.Rows q))) (same_key (key.Rows q)))
    own_rows None is = ap rows_in is
    own_rows (Some _) is = ap rows_in is

    constraints_same : class_of empty (class.Constraints q) ≡ class_of bare (class.Constraints q)
    constraints_same = class_same empty bare same (class.Constraints q) (λ p v. refl)

    indexes_same : class_of empty (class.Indexes q) ≡ class_of bare (class.Indexes q)
    indexes_same = class_same empty bare same (class.Indexes q) (λ p v. refl)

    parent_rows : (p : QName) → (if same_path q p then rows_held text else rows_in (get empty (key.Rows p))) ≡ rows_held (parent_text cat texts q text p)
    parent_rows p = by (same_path q p) refl
      where
        by : (b : Bool) → same_path q p ≡ b → cond b (rows_held text) (rows_in (get empty (key.Rows p))) ≡ rows_held (cond b text (text_at texts (first_table cat p cat.pg_class)))
        by true is = refl
        by false apart =
            ap rows_in (kept (key.Rows p) (rows_there (get full (key.Rows q))) (other_path q p apart) ∙ rows_found cat (rows_by_oid texts) p)
            ∙ rows_or_none texts (first_table cat p cat.pg_class)

    has_parents : (columns : List Column) (fs : List Foreign) → AllByRecursion (HasParents bare cat texts q columns text) fs
        → AllByRecursion (λ f. let l = linked (seen empty) q (rows_held text) f in orphan columns l.columns (rows_held text) l.parent_columns l.parent_names l.parent_rows ≡ None) fs
    has_parents columns [] all = tt
    has_parents columns (f ∷ fs) all = (
      (λ i. orphan columns f.columns (rows_held text) (columns_of (same (key.Rel f.parent) refl i)) f.parent_columns (parent_rows f.parent i)) ∙ all.0,
      has_parents columns fs all.1,
    )

    no_cause : Meets bare cat texts q text → table_cause full q text ≡ None
    unfolding refusal_of
    no_cause m =
        let es = ap entries (sym constraints_same) in
        let is = ap entries (sym indexes_same) in
        let uniques = all_append (Differ m.columns text) (filter_map unique_in (constraints_of bare q)) (filter_map unique_in (indexes_of bare q)) m.unique m.distinct in
        let each = by_name_all (Differ m.columns text) (filter_map unique_in (constraints_of bare q ++ indexes_of bare q))
        (subst (AllByRecursion (Differ m.columns text)) (sym (filter_map-append unique_in (constraints_of bare q) (indexes_of bare q))) uniques) in
        let unique : unique_cause (by_name (filter_map unique_in (constraints_of empty q ++ indexes_of empty q))) m.columns (rows_held text) ≡ None =
        (λ i. unique_cause (by_name (filter_map unique_in (sym es i ++ sym is i))) m.columns (rows_held text)) ∙ no_repeated m.columns (rows_held text) _ each in
        let fits = subst (λ (cs : List (Key × Value)). AllByRecursion (LineFits m.columns (primary_columns cs)) (data_lines text)) es m.lines in
        let parents : parent_cause (map (linked (seen empty) q (rows_held text)) (filter_map foreign_in (constraints_of empty q))) m.columns (rows_held text) ≡ None =
        ap (λ (cs : List (Key × Value)). parent_cause (map (linked (seen empty) q (rows_held text)) (filter_map foreign_in cs)) m.columns (rows_held text)) (sym es)
        ∙ no_orphan m.columns (rows_held text) (linked (seen empty) q (rows_held text)) (filter_map foreign_in (constraints_of bare q)) (has_parents m.columns (filter_map foreign_in (constraints_of bare q)) m.parents) in
        ap cause_of (copied empty q m.columns text (same (key.Rel q) refl ∙ m.table) (own_rows (get full (key.Rows q)) refl) fits unique parents)

  -- ---- all tables

  at_path : (table : ℕ) (path : Option QName) → MeetsAt bare cat texts table path → path_fault full table (text_of texts table) path ≡ None
  at_path table None meets = refl
  at_path table (Some q) meets = ap (fault_of table) (no_cause q (text_of texts table) meets)

  pub no_fault : (tables : List ℕ) → AllByRecursion (TableMeets bare cat texts) tables → first_fault full cat texts tables ≡ None
  no_fault [] all = refl
  no_fault (table ∷ tables) all =
      ap (λ (fault : Option LoadFault). or_later fault (first_fault full cat texts tables)) (at_path table (class_path_of cat table) all.0) ∙ no_fault tables all.1

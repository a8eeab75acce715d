-- What is found under a key among all entries.
use Rattle.std.proofs.Common.{◌≡◌, Bool, true, false, cond, ◌&&◌, List, [], ◌∷◌, ◌++◌, Option, Some, None, refl, sym, ap, ◌∙◌, append_assoc}
use Rattle.std.specs.List.{AllByRecursion, flat_map}
use Rattle.std.specs.Option.{option_map}
use Rattle.std.specs.Ordering.{eq_by_cmp}
use Rattle.std.specs.FinMap.{get, find, get-from_entries}
use Rattle.std.proofs.lemmas.Bool.{true≢false, false_from_ne_true}
use Rattle.cat_rows.specs.declared.catalogue.Catalogue.{Catalogue}
use Rattle.cat_rows.specs.declared.relations.ClassRow.{ClassRow}
use Rattle.cat_model.specs.declared.object.QName.{QName}
use Rattle.cat_model.specs.declared.key.Key.{Key}
use Rattle.cat_model.specs.declared.key.Key.TheVariants as key
use Rattle.cat_model.specs.declared.value.Value.{Value}
use Rattle.cat_model.specs.declared.value.Value.TheVariants as value
use Rattle.cat_model.specs.Keys.{key_cmp}
use Rattle.cat_model.specs.KeyLaws.{key_cmp_total, key_eq-same, key_eq-Decides}
use Rattle.cat_model.specs.Trees.{same_path}
use Rattle.cat_model.proofs.MarkLaws.{same_path-equal, same_path-self}
use Rattle.cat_names.specs.declared.rights.GrantKind.TheVariants as on
use Rattle.cat_names.specs.Kinds.{relation_kind, is_table, is_view, is_sequence, is_index}
use Rattle.cat_names.specs.Naming.{Entry, cluster_entries}
use Rattle.cat_book.specs.Paths.{class_path}
use Rattle.cat_naming.specs.Types.{under_path, type_entries}
use Rattle.cat_naming.specs.Relations.{RowsByOid, columns_of, owned_entries, table_entries, view_entries, index_relation_entries, relation_entries, class_entries, default_entries, sequence_entries, body_entries}
use Rattle.cat_naming.specs.Constraints.{constraint_entries, index_entries}
use Rattle.cat_naming.specs.Comments.{comment_entries}
use Rattle.cat_naming.specs.Entries.{entries_of, catalogue_named}
use Rattle.rows_named.specs.Tables.{is_rows, at_path, is_table_at, first_table}
use Rattle.rows_named.proofs.Others.{NoRows, no_cluster, no_types, no_owned, no_view_or_else, behind_classes, no_behind}

abbrev seek : Key → List Entry → Option Value
seek k es = find key_cmp k es

abbrev equal : Key → Key → Bool
equal = eq_by_cmp key_cmp

regroup : (t c d e f g h i : List Entry) → t ++ c ++ d ++ e ++ f ++ g ++ h ++ i ≡ t ++ (c ++ (d ++ e ++ f ++ g ++ h ++ i))
regroup t c d e f g h i = simp append_assoc

-- the entries, with those of the relations apart
apart : (cat : Catalogue) (rows : RowsByOid) → entries_of cat rows ≡ cluster_entries cat ++ (flat_map (type_entries cat) cat.pg_type ++ (flat_map (class_entries cat rows) cat.pg_class ++ behind_classes cat))
apart cat rows =
    ap (λ (es : List Entry). cluster_entries cat ++ es)
    (regroup (flat_map (type_entries cat) cat.pg_type) (flat_map (class_entries cat rows) cat.pg_class) (flat_map (default_entries cat) cat.pg_attrdef) (flat_map (constraint_entries cat) cat.pg_constraint) (flat_map index_entries cat.pg_index) (flat_map (sequence_entries cat) cat.pg_sequence) (flat_map (body_entries cat) cat.pg_rewrite) (flat_map (comment_entries cat) cat.pg_description))

-- ---- keys of rows

other_key : (p : QName) (k : Key) → is_rows k ≡ false → equal (key.Rows p) k ≡ false
other_key p k clear = false_from_ne_true _ (λ same. true≢false (ap is_rows (key_eq-same (key.Rows p) k same) ∙ clear))

key_of_rows : (k : Key) (p : QName) → is_rows k ≡ false → equal k (key.Rows p) ≡ false
key_of_rows k p clear = false_from_ne_true _ (λ same. true≢false (sym (ap is_rows (key_eq-same k (key.Rows p) same)) ∙ clear))

paths_equal : (p q : QName) → equal (key.Rows p) (key.Rows q) ≡ same_path p q
paths_equal p q = by (same_path p q) refl
  where
    by : (b : Bool) → same_path p q ≡ b → equal (key.Rows p) (key.Rows q) ≡ b
    by true same = (key_eq-Decides (key.Rows p) (key.Rows q)).1 (ap key.Rows (same_path-equal p q same))
    by false other = false_from_ne_true _ (λ e. true≢false (sym (held (key_eq-same (key.Rows p) (key.Rows q) e)) ∙ other))
      where
        held : key.Rows p ≡ key.Rows q → same_path p q ≡ true
        held e = let same : p ≡ q = cc in ap (same_path p) (sym same) ∙ same_path-self p

-- ---- behind what has no rows

skip_all : (p : QName) (es more : List Entry) → AllByRecursion (λ e. is_rows e.0 ≡ false) es → seek (key.Rows p) (es ++ more) ≡ seek (key.Rows p) more
skip_all p [] more clear = refl
skip_all p (e ∷ es) more clear = ap (λ (b : Bool). cond b (Some e.1) (seek (key.Rows p) (es ++ more))) (other_key p e.0 clear.0) ∙ skip_all p es more clear.1

skip : (p : QName) (es more : List Entry) → NoRows es → seek (key.Rows p) (es ++ more) ≡ seek (key.Rows p) more
skip p es more clear = skip_all p es more clear.all

none_all : (p : QName) (es : List Entry) → AllByRecursion (λ e. is_rows e.0 ≡ false) es → seek (key.Rows p) es ≡ None
none_all p [] clear = refl
none_all p (e ∷ es) clear = ap (λ (b : Bool). cond b (Some e.1) (seek (key.Rows p) es)) (other_key p e.0 clear.0) ∙ none_all p es clear.1

none : (p : QName) (es : List Entry) → NoRows es → seek (key.Rows p) es ≡ None
none p es clear = none_all p es clear.all

front : (k : Key) (es a b : List Entry) → seek k a ≡ seek k b → seek k (es ++ a) ≡ seek k (es ++ b)
front k [] a b same = same
front k (e ∷ es) a b same = ap (λ (o : Option Value). cond (equal k e.0) (Some e.1) o) (front k es a b same)

-- ---- a relation

module _ (cat : Catalogue) (rows : RowsByOid) (p : QName) where
  abbrev held : ClassRow → Option Value
  held row = Some (value.Rows (rows row.oid))

  both : (b : Bool) (x y : Option Value) → cond (b && true) x y ≡ cond b x y
  both true x y = refl
  both false x y = refl

  neither : (b : Bool) (x y : Option Value) → y ≡ cond (b && false) x y
  neither true x y = refl
  neither false x y = refl

  table_found : (row : ClassRow) (q : QName) (more : List Entry) → seek (key.Rows p) (table_entries cat rows row q ++ more) ≡ cond (same_path p q) (held row) (seek (key.Rows p) more)
  table_found row q more =
      ap (λ (b : Bool). cond b (Some (value.Table (columns_of cat row.oid))) (seek (key.Rows p) ((key.Rows q, value.Rows (rows row.oid)) ∷ owned_entries cat on.Table row q ++ more))) (other_key p (key.Rel q) refl)
      ∙ ap (λ (b : Bool). cond b (held row) (seek (key.Rows p) (owned_entries cat on.Table row q ++ more))) (paths_equal p q)
      ∙ ap (λ (o : Option Value). cond (same_path p q) (held row) o) (skip p (owned_entries cat on.Table row q) more (no_owned cat on.Table row q))

  no_other : (row : ClassRow) (q : QName) → NoRows (cond (is_view (Some (relation_kind row.relkind))) (view_entries cat row q) (cond (is_sequence (Some (relation_kind row.relkind))) (owned_entries cat on.Sequence row q) (cond (is_index (Some (relation_kind row.relkind))) (index_relation_entries cat row q) [])))
  no_other row q = no_view_or_else cat row q (is_view (Some (relation_kind row.relkind))) (is_sequence (Some (relation_kind row.relkind))) (is_index (Some (relation_kind row.relkind)))

  relation_found : (row : ClassRow) (q : QName) (more : List Entry) → seek (key.Rows p) (relation_entries cat rows row q ++ more) ≡ cond (same_path p q && is_table (Some (relation_kind row.relkind))) (held row) (seek (key.Rows p) more)
  relation_found row q more = by (is_table (Some (relation_kind row.relkind)))
    where
      by : (b : Bool) → seek (key.Rows p) (cond b (table_entries cat rows row q) (cond (is_view (Some (relation_kind row.relkind))) (view_entries cat row q) (cond (is_sequence (Some (relation_kind row.relkind))) (owned_entries cat on.Sequence row q) (cond (is_index (Some (relation_kind row.relkind))) (index_relation_entries cat row q) []))) ++ more) ≡ cond (same_path p q && b) (held row) (seek (key.Rows p) more)
      by true = table_found row q more ∙ sym (both (same_path p q) (held row) (seek (key.Rows p) more))
      by false = skip p _ more (no_other row q) ∙ neither (same_path p q) (held row) (seek (key.Rows p) more)

  class_found : (row : ClassRow) (more : List Entry) → seek (key.Rows p) (class_entries cat rows row ++ more) ≡ cond (is_table_at cat p row) (held row) (seek (key.Rows p) more)
  class_found row more = by (class_path cat.pg_namespace row)
    where
      by : (o : Option QName) → seek (key.Rows p) (under_path o (relation_entries cat rows row) ++ more) ≡ cond (at_path p o && is_table (Some (relation_kind row.relkind))) (held row) (seek (key.Rows p) more)
      by None = refl
      by (Some q) = relation_found row q more

  classes_found : (classes : List ClassRow) (more : List Entry) → seek (key.Rows p) more ≡ None → seek (key.Rows p) (flat_map (class_entries cat rows) classes ++ more) ≡ option_map (λ oid. value.Rows (rows oid)) (first_table cat p classes)
  classes_found [] more clear = clear
  classes_found (row ∷ classes) more clear =
      ap (seek (key.Rows p)) (append_assoc (class_entries cat rows row) (flat_map (class_entries cat rows) classes) more)
      ∙ class_found row (flat_map (class_entries cat rows) classes ++ more)
      ∙ ap (λ (o : Option Value). cond (is_table_at cat p row) (held row) o) (classes_found classes more clear)
      ∙ by (is_table_at cat p row)
    where
      by : (b : Bool) → cond b (held row) (option_map (λ oid. value.Rows (rows oid)) (first_table cat p classes)) ≡ option_map (λ oid. value.Rows (rows oid)) (cond b (Some row.oid) (first_table cat p classes))
      by true = refl
      by false = refl

  pub rows_found : get (catalogue_named cat rows) (key.Rows p) ≡ option_map (λ oid. value.Rows (rows oid)) (first_table cat p cat.pg_class)
  rows_found =
      get-from_entries key_cmp_total (entries_of cat rows) (key.Rows p)
      ∙ ap (seek (key.Rows p)) (apart cat rows)
      ∙ skip p (cluster_entries cat) _ (no_cluster cat)
      ∙ skip p (flat_map (type_entries cat) cat.pg_type) _ (no_types cat)
      ∙ classes_found cat.pg_class (behind_classes cat) (none p (behind_classes cat) (no_behind cat))

-- ---- any other key

module _ (cat : Catalogue) (rows other : RowsByOid) (k : Key) (clear : is_rows k ≡ false) where
  table_same : (row : ClassRow) (q : QName) (a b : List Entry) → seek k a ≡ seek k b → seek k (table_entries cat rows row q ++ a) ≡ seek k (table_entries cat other row q ++ b)
  table_same row q a b same =
      ap (λ (o : Option Value). cond (equal k (key.Rel q)) (Some (value.Table (columns_of cat row.oid))) o)
      (ap (λ (c : Bool). cond c (Some (value.Rows (rows row.oid))) (seek k (owned_entries cat on.Table row q ++ a))) (key_of_rows k q clear)
      ∙ front k (owned_entries cat on.Table row q) a b same
      ∙ sym (ap (λ (c : Bool). cond c (Some (value.Rows (other row.oid))) (seek k (owned_entries cat on.Table row q ++ b))) (key_of_rows k q clear)))

  abbrev others : ClassRow → QName → List Entry
  others row q = cond (is_view (Some (relation_kind row.relkind))) (view_entries cat row q) (cond (is_sequence (Some (relation_kind row.relkind))) (owned_entries cat on.Sequence row q) (cond (is_index (Some (relation_kind row.relkind))) (index_relation_entries cat row q) []))

  relation_same : (row : ClassRow) (q : QName) (a b : List Entry) → seek k a ≡ seek k b → seek k (relation_entries cat rows row q ++ a) ≡ seek k (relation_entries cat other row q ++ b)
  relation_same row q a b same = by (is_table (Some (relation_kind row.relkind)))
    where
      by : (t : Bool) → seek k (cond t (table_entries cat rows row q) (others row q) ++ a) ≡ seek k (cond t (table_entries cat other row q) (others row q) ++ b)
      by true = table_same row q a b same
      by false = front k (others row q) a b same

  class_same : (row : ClassRow) (a b : List Entry) → seek k a ≡ seek k b → seek k (class_entries cat rows row ++ a) ≡ seek k (class_entries cat other row ++ b)
  class_same row a b same = by (class_path cat.pg_namespace row)
    where
      by : (o : Option QName) → seek k (under_path o (relation_entries cat rows row) ++ a) ≡ seek k (under_path o (relation_entries cat other row) ++ b)
      by None = same
      by (Some q) = relation_same row q a b same

  classes_same : (classes : List ClassRow) (more : List Entry) → seek k (flat_map (class_entries cat rows) classes ++ more) ≡ seek k (flat_map (class_entries cat other) classes ++ more)
  classes_same [] more = refl
  classes_same (row ∷ classes) more =
      ap (seek k) (append_assoc (class_entries cat rows row) (flat_map (class_entries cat rows) classes) more)
      ∙ class_same row (flat_map (class_entries cat rows) classes ++ more) (flat_map (class_entries cat other) classes ++ more) (classes_same classes more)
      ∙ sym (ap (seek k) (append_assoc (class_entries cat other row) (flat_map (class_entries cat other) classes) more))

  pub others_same : get (catalogue_named cat rows) k ≡ get (catalogue_named cat other) k
  others_same =
      get-from_entries key_cmp_total (entries_of cat rows) k
      ∙ ap (seek k) (apart cat rows)
      ∙ front k (cluster_entries cat) (flat_map (type_entries cat) cat.pg_type ++ (flat_map (class_entries cat rows) cat.pg_class ++ behind_classes cat)) (flat_map (type_entries cat) cat.pg_type ++ (flat_map (class_entries cat other) cat.pg_class ++ behind_classes cat))
      (front k (flat_map (type_entries cat) cat.pg_type) (flat_map (class_entries cat rows) cat.pg_class ++ behind_classes cat) (flat_map (class_entries cat other) cat.pg_class ++ behind_classes cat) (classes_same cat.pg_class (behind_classes cat)))
      ∙ sym (get-from_entries key_cmp_total (entries_of cat other) k ∙ ap (seek k) (apart cat other))

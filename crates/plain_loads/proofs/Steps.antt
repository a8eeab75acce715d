-- One entry of a table more, and a key on one column by its place.
use Rattle.std.proofs.Common.{◌≡◌, ℕ, Bool, true, false, ◌&&◌, List, [], ◌∷◌, map, length, drop, get_or, ◌+◌, ◌<◌, Option, Some, None, refl, sym, ap, subst, ◌∙◌, add-one, drop-cons}
use Rattle.std.specs.Borrow.{Bor}
use Rattle.std.specs.Map.Iter.{deref_pair}
use Rattle.std.specs.List.{AllByRecursion, cons_option, filter_map}
use Rattle.std.specs.FinMap.{get}
use Rattle.std.proofs.lemmas.List.{get_or_default}
use Rattle.std.specs.Option.{option_map}
use Rattle.cat_rows.specs.declared.catalogue.Catalogue.{Catalogue}
use Rattle.cat_rows.specs.declared.schemas.NamespaceRow.{NamespaceRow}
use Rattle.cat_model.specs.declared.key.Key.{Key}
use Rattle.cat_model.specs.declared.key.Key.TheVariants as key
use Rattle.cat_model.specs.declared.object.QName.{QName}
use Rattle.cat_model.specs.declared.value.Column.{Column}
use Rattle.cat_model.specs.declared.value.Value.{Value}
use Rattle.cat_model.specs.Values.{Bytes, Named, Row}
use Rattle.cat_model.specs.CopyEffect.{Foreign, Unique}
use Rattle.cat_model.specs.KeyEffects.{columns_of}
use Rattle.cat_model.specs.Lexemes.{same_text}
use Rattle.cat_model.specs.RowTexts.{rows_held}
use Rattle.cat_model.specs.Tables.{key_on, orphan, orphan_of, repeated, repeated_after}
use Rattle.cat_names.specs.DataSets.{TextsByOid}
use Rattle.rows_named.specs.Tables.{at_path}
use Rattle.row_keys.specs.ByPlaces.{key_at, place_in}
use Rattle.row_keys.proofs.Rows.{by_names}
use Rattle.plain_rows.specs.Lines.{all_among, line_keys, none_again}
use Rattle.plain_rows.proofs.LineKeys.{rows_differ, rows_have_parents}
use Rattle.plain_loads.specs.Meeting.{Differ, HasParents, Parts, parent_text, parts}

pub one_entry : {A : Type 0} (P : A → Type 0) (picked : Option A) (more : List A) → ((a : A) → picked ≡ Some a → P a) → AllByRecursion P more → AllByRecursion P (cons_option picked more)
one_entry P None more so all = all
one_entry P (Some a) more so all = (so a refl, all)

-- an entry in front of those that are left
pub next_entry : {A : Type 0} (pick : Key × Value → Option A) (P : A → Type 0) (es : List (Bor Key × Bor Value)) (i : ℕ) (e : Bor Key × Bor Value) → i < length es → e ≡ get_or es i e → ((a : A) → pick (deref_pair e) ≡ Some a → P a)
    → AllByRecursion P (filter_map pick (map deref_pair (drop (i + 1) es))) → AllByRecursion P (filter_map pick (map deref_pair (drop i es)))
next_entry pick P es i e below is so all =
    let split : drop i es ≡ e ∷ drop (i + 1) es = rw add-one (drop-cons es i e below) ∙ ap (λ (x : Bor Key × Bor Value). x ∷ drop (i + 1) es) (sym is) in
    subst (λ (ds : List (Bor Key × Bor Value)). AllByRecursion P (filter_map pick (map deref_pair ds))) (sym split)
    (one_entry P (pick (deref_pair e)) (filter_map pick (map deref_pair (drop (i + 1) es))) so all)

pub next_table : (P : ℕ → Type 0) (oids : List ℕ) (i oid : ℕ) → i < length oids → oid ≡ get_or oids i oid → P oid → AllByRecursion P (drop (i + 1) oids) → AllByRecursion P (drop i oids)
next_table P oids i oid below is one all =
    let split : drop i oids ≡ oid ∷ drop (i + 1) oids = rw add-one (drop-cons oids i oid below) ∙ ap (λ (x : ℕ). x ∷ drop (i + 1) oids) (sym is) in
    subst (AllByRecursion P) (sym split) (one, all)

keys_by_place : (columns : List Column) (names : List Bytes) (place : ℕ) (text : Bytes) → map (place_in columns) names ≡ Some place ∷ []
    → map (key_on columns names) (rows_held text) ≡ map (key_at columns (Some place ∷ [])) (rows_held text)
keys_by_place columns names place text is =
    sym (by_names columns names (rows_held text)) ∙ ap (λ (places : List (Option ℕ)). map (key_at columns places) (rows_held text)) is

pub differ_at : (columns : List Column) (names : List Bytes) (place : ℕ) (text : Bytes) → map (place_in columns) names ≡ Some place ∷ [] → none_again [] (line_keys columns place text) ≡ true
    → repeated columns names (rows_held text) ≡ None
differ_at columns names place text is again = ap (repeated_after []) (keys_by_place columns names place text is) ∙ rows_differ columns place text again

pub parents_at : (columns : List Column) (names : List Bytes) (place : ℕ) (text : Bytes) (parent_columns : List Column) (parent_names : List Bytes) (parent_place : ℕ) (parent_text : Bytes)
    → map (place_in columns) names ≡ Some place ∷ [] → map (place_in parent_columns) parent_names ≡ Some parent_place ∷ []
    → all_among (line_keys parent_columns parent_place parent_text) (line_keys columns place text) ≡ true
    → orphan columns names (rows_held text) parent_columns parent_names (rows_held parent_text) ≡ None
parents_at columns names place text parent_columns parent_names parent_place parent_text is parent_is all =
    (λ i. orphan_of 1 (keys_by_place parent_columns parent_names parent_place parent_text parent_is i) (keys_by_place columns names place text is i))
    ∙ rows_have_parents columns parent_columns place parent_place text parent_text all

-- ---- the columns that were found are those of the key

pub differ_as : (columns : List Column) (text : Bytes) (o : Option Unique) (names : List Bytes) → Some names ≡ option_map (λ (u : Unique). u.1) o → repeated columns names (rows_held text) ≡ None
    → (u : Unique) → o ≡ Some u → Differ columns text u
differ_as columns text None names is none u picked = absurd cc
differ_as columns text (Some v) names is none u picked =
    let same : names ≡ v.1 = cc in
    let one : v ≡ u = cc in
    subst (λ (ns : List Bytes). repeated columns ns (rows_held text) ≡ None) (same ∙ ap (λ (w : Unique). w.1) one) none

pub none_differs : (columns : List Column) (text : Bytes) (o : Option Unique) → ◌≡◌ {A = Option (List Bytes)} None (option_map (λ (u : Unique). u.1) o) → (u : Unique) → o ≡ Some u → Differ columns text u
none_differs columns text None is u picked = absurd cc
none_differs columns text (Some v) is u picked = absurd cc

module _ (named : Named) (cat : Catalogue) (texts : TextsByOid) (q : QName) (columns : List Column) (text : Bytes) where
  pub parents_as : (o : Option Foreign) (names : List Bytes) (parent : QName) (parent_names : List Bytes) → Some (names, parent, parent_names) ≡ option_map parts o
      → orphan columns names (rows_held text) (columns_of (get named (key.Rel parent))) parent_names (rows_held (parent_text cat texts q text parent)) ≡ None
      → (f : Foreign) → o ≡ Some f → HasParents named cat texts q columns text f
  parents_as None names parent parent_names is none f picked = absurd cc
  parents_as (Some g) names parent parent_names is none f picked =
      let one : g ≡ f = cc in
      let found : (names, parent, parent_names) ≡ parts f = some_same is ∙ ap parts one in
      subst (λ (p : Parts). orphan columns p.0 (rows_held text) (columns_of (get named (key.Rel p.1))) p.2 (rows_held (parent_text cat texts q text p.1)) ≡ None) found none
    where
      some_same : {A : Type 0} {a b : A} → Some a ≡ Some b → a ≡ b
      some_same e = cc

  pub none_has_parents : (o : Option Foreign) → ◌≡◌ {A = Option (Parts)} None (option_map parts o) → (f : Foreign) → o ≡ Some f → HasParents named cat texts q columns text f
  none_has_parents None is f picked = absurd cc
  none_has_parents (Some g) is f picked = absurd cc

-- ---- the name of another relation

pub other_name : (p : QName) (name : Bytes) (schema : Option NamespaceRow) → same_text p.name name ≡ false → at_path p (option_map (λ (s : NamespaceRow). record { schema = s.nspname; name = name }) schema) ≡ false
other_name p name None other = refl
other_name p name (Some s) other = ap (λ (b : Bool). same_text p.schema s.nspname && b) other ∙ and_false (same_text p.schema s.nspname)
  where
    and_false : (b : Bool) → (b && false) ≡ false
    and_false true = refl
    and_false false = refl

-- an entry that was read twice is one entry
pub read_twice : (es : List (Bor Key × Bor Value)) (i : ℕ) (a b : Bor Key × Bor Value) → i < length es → a ≡ get_or es i a → ((get_or es i a).0.now, (get_or es i b).1.now) ≡ deref_pair a
read_twice es i a b below is =
    let first : get_or es i a ≡ a = sym is in
    let second : get_or es i b ≡ a = get_or_default es i b a below ∙ sym is in
    λ j. ((first j).0.now, (second j).1.now)

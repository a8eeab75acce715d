-- Foreign keys, checks of tables and indexes leave a catalogue in order.
use Rattle.std.proofs.Common.{◌≡◌, true, false, not, ◌&&◌, ◌==◌, length, List, [], ◌∷◌, Option, Some, None, refl, ap, sym, subst, ◌∙◌}
use Rattle.std.specs.Cmp.{first_so, second_so}
use Rattle.std.specs.FinMap.{get}
use Rattle.std.specs.List.{AllByRecursion}
use Rattle.cat_model.specs.declared.cause.Cause.TheVariants as cause
use Rattle.cat_model.specs.declared.object.QName.{QName}
use Rattle.cat_model.specs.declared.key.Key.TheVariants as key
use Rattle.cat_model.specs.declared.class.Class.TheVariants as class
use Rattle.cat_model.specs.declared.constraint.ConstraintKind.TheVariants as kinds
use Rattle.cat_model.specs.declared.value.Value.TheVariants as value
use Rattle.cat_model.specs.declared.value.Value.{Value}
use Rattle.cat_model.specs.declared.value.Column.{Column}
use Rattle.cat_model.specs.declared.value.Constraint.{Constraint}
use Rattle.cat_model.specs.declared.value.Index.{Index}
use Rattle.cat_model.specs.Values.{Bytes, Named}
use Rattle.cat_model.specs.References.{expression_references}
use Rattle.cat_model.specs.Tables.{columns_there, repeated, orphan}
use Rattle.cat_model.specs.Trees.{Change, changed, Tree, is_unique, is_primary, unique_on}
use Rattle.cat_model.specs.KeyEffects.{add_foreign, add_check, create_index, create_unique_index, index_path, unique_rows, fits_foreign, rows_in}
use Rattle.cat_sound.specs.Texts.{Texts}
use Rattle.cat_sound.specs.Asked.{Asked}
use Rattle.cat_sound.specs.Asks.{kind_asks, names_or_none}
use Rattle.cat_sound.specs.Itself.{IsOfKind, check_of}
use Rattle.cat_sound.specs.Beside.{is_key_at, is_index_at, HasKey}
use Rattle.cat_sound.specs.Sound.{IsMet, IsSound}
use Rattle.model_laws.proofs.Changes.{get-changed, key_eq_self}
use Rattle.cat_sound.proofs.Changes.{AreNew, now, meets_is, new_left}
use Rattle.cat_sound.proofs.Keeping.{new_answers}
use Rattle.cat_sound.proofs.KeyFacts.{no_key, has_key_of}
use Rattle.cat_sound.proofs.References.{refs_left}
use Rattle.cat_sound.proofs.Shared.{keeps_shared, no_primary}
use Rattle.cat_sound.proofs.TreeSteps.{Keeps, keeps_sets, keeps_look, keeps_scan, keeps_check, keeps_free, keeps_needs_each, keeps_table, keeps_repeated, keeps_orphan, keeps_key}
use Rattle.cat_sound.proofs.KeyStatements.{relation_good}

module _ (texts : Texts) (named : Named) (sound : IsSound texts named) where
  -- ---- one constraint without an index

  module _ (q : QName) (name : Bytes) (c : Constraint) (none : get named (key.Con q name) ≡ None) (unkeyed : is_unique c.kind ≡ false) (not_primary : is_primary c.kind ≡ false) where
    abbrev one : List Change
    one = (key.Con q name, Some (value.Constraint c)) ∷ []

    fresh_one : AreNew named one
    fresh_one = (none, tt)

    constraint_kept : ((parent : QName) (names : List Bytes) → c.parent ≡ Some (parent, names) → HasKey named parent names) → (columns : List Column) → get named (key.Rel q) ≡ Some (value.Table columns) → texts.constraint c ≡ true → IsOfKind c c.kind → columns_there columns c.columns ≡ true → AllByRecursion (IsMet (changed one named)) (kind_asks q name c c.kind) → IsSound texts (changed one named)
    constraint_kept parents columns is good kind have asked =
        keeps_shared texts named one sound (
          record {
            free = none;
            alone = λ e. let wrong : is_unique c.kind ≡ true = e in cc;
            parent = λ d parent names same has. let equal : c ≡ d = cc in parents parent names (subst (λ (e : Constraint). e.parent ≡ Some (parent, names)) (sym equal) has);
          },
          tt,
        )
        (no_primary named one (not_primary, tt)) (
          record {
            new = record {
              own = record { text = good; kind = kind };
              others = (new_left one named fresh_one (key.Rel q, Asked.has_columns c.columns) (meets_is named (key.Rel q) (Asked.has_columns c.columns) (value.Table columns) is have), asked);
            };
            answers = new_answers named one (key.Con q name, Some (value.Constraint c)) none;
          },
          tt,
        )

  pub add_foreign-keeps : (q : QName) (name : Bytes) (names : List Bytes) (parent : QName) (parent_names : List Bytes) (rest : Bytes) → texts.constraint (record { kind = kinds.Foreign; columns = names; parent = Some (parent, parent_names); text = rest }) ≡ true → Keeps texts named (add_foreign q name names parent parent_names rest)
  add_foreign-keeps q name names parent parent_names rest good =
      keeps_table sound q (λ columns is.
      keeps_table sound parent (λ parent_columns parent_is.
      keeps_free sound (key.Con q name) (λ none.
      keeps_check sound (fits_foreign columns names parent_columns parent_names) cause.WrongColumns (λ fits.
      keeps_scan (class.KeysOn parent parent_names) (λ es entries_are.
      keeps_key sound parent es (λ e more first.
      keeps_look (key.Rows q) (λ rows rows_are.
      keeps_look (key.Rows parent) (λ parent_rows parent_rows_are.
      keeps_orphan sound name (orphan columns names (rows_in rows) parent_columns parent_names (rows_in parent_rows))
      (let c : Constraint = record { kind = kinds.Foreign; columns = names; parent = Some (parent, parent_names); text = rest } in
      let here : columns_there columns names ≡ true = first_so (columns_there columns names) (columns_there parent_columns parent_names && length names == length parent_names) fits in
      let others : columns_there parent_columns parent_names && length names == length parent_names ≡ true = second_so (columns_there columns names) (columns_there parent_columns parent_names && length names == length parent_names) fits in
      let there : columns_there parent_columns parent_names ≡ true = first_so (columns_there parent_columns parent_names) (length names == length parent_names) others in
      let as_many : (length names == length parent_names) ≡ true = second_so (columns_there parent_columns parent_names) (length names == length parent_names) others in
      keeps_sets refl (constraint_kept q name c none refl refl
      (λ p ns same.
      let pair : ◌≡◌ {A = QName × List Bytes} (parent, parent_names) (p, ns) = cc in
      subst (λ (t : QName × List Bytes). HasKey named t.0 t.1) pair (has_key_of named parent parent_names e more (entries_are ∙ first)))
      columns is good as_many here
      (new_left (one q name c none refl refl) named (fresh_one q name c none refl refl) (key.Rel parent, Asked.has_columns parent_names) (meets_is named (key.Rel parent) (Asked.has_columns parent_names) (value.Table parent_columns) parent_is there), tt)))))))))))

  pub add_check-keeps : (q : QName) (name text : Bytes) → texts.constraint (check_of text) ≡ true → Keeps texts named (add_check q name text)
  add_check-keeps q name text good =
      keeps_table sound q (λ columns is.
      keeps_free sound (key.Con q name) (λ none.
      keeps_needs_each sound (expression_references text) (λ refs.
      keeps_sets refl (constraint_kept q name (check_of text) none refl refl
      (λ p ns same. cc)
      columns is good (refl, refl) refl
      (refs_left (one q name (check_of text) none refl refl) named (refl, tt) (expression_references text) refs)))))

  -- ---- indexes

  module _ (q : QName) (name : Bytes) (i : Index) (none : get named (key.Index q name) ≡ None) (no_relation : get named (key.Rel (index_path q name)) ≡ None) where
    abbrev cs : List Change
    cs = (key.Index q name, Some (value.Index i)) ∷ (key.Rel (index_path q name), Some (value.IndexOf q)) ∷ []

    fresh : AreNew named cs
    fresh = (none, (no_relation, tt))

    index_owned : is_key_at (get (changed cs named) (key.Con q name)) ≡ not (is_index_at (get (changed cs named) (key.Index q name)))
    index_owned =
        let con : get (changed cs named) (key.Con q name) ≡ get named (key.Con q name) = get-changed cs named (key.Con q name) in
        let index : get (changed cs named) (key.Index q name) ≡ Some (value.Index i) = get-changed cs named (key.Index q name) ∙ rw key_eq_self refl in
        ap is_key_at con ∙ no_key texts named sound.each q name no_relation ∙ sym (ap (λ (o : Option Value). not (is_index_at o)) index)

    index_kept : (columns : List Column) → get named (key.Rel q) ≡ Some (value.Table columns) → texts.index q name i ≡ true → columns_there columns (names_or_none (unique_on i)) ≡ true → IsSound texts (changed cs named)
    index_kept columns is good have =
        keeps_shared texts named cs sound
        (record { free = none; alone = no_relation }, (index_owned, tt))
        (no_primary named cs (refl, (refl, tt))) (
          record {
            new = record {
              own = good;
              others = (
                new_left cs named fresh (key.Rel q, Asked.has_columns (names_or_none (unique_on i))) (meets_is named (key.Rel q) (Asked.has_columns (names_or_none (unique_on i))) (value.Table columns) is have),
                (now cs named (key.Rel (index_path q name), Asked.index_on q) (value.IndexOf q) (rw key_eq_self refl) refl, tt),
              );
            };
            answers = new_answers named cs (key.Index q name, Some (value.Index i)) none;
          },
          (relation_good texts named sound cs q name columns fresh is no_relation, tt),
        )

  pub create_index-keeps : (q : QName) (name method rest : Bytes) → texts.index q name (record { method = method; unique = false; text = rest }) ≡ true → Keeps texts named (create_index q name method rest)
  create_index-keeps q name method rest good =
      keeps_table sound q (λ columns is.
      keeps_free sound (key.Rel (index_path q name)) (λ no_relation.
      keeps_free sound (key.Index q name) (λ none.
      keeps_sets refl (index_kept q name (record { method = method; unique = false; text = rest }) none no_relation columns is good refl))))

  unique_keeps : (q : QName) (name : Bytes) (columns : List Column) (names : Option (List Bytes)) {tree : Tree} → (columns_there columns (names_or_none names) ≡ true → Keeps texts named tree) → Keeps texts named (unique_rows q name columns names tree)
  unique_keeps q name columns None step = step refl
  unique_keeps q name columns (Some names) step =
      keeps_check sound (columns_there columns names) cause.WrongColumns (λ have.
      keeps_look (key.Rows q) (λ rows rows_are.
      keeps_repeated sound name (repeated columns names (rows_in rows)) (step have)))

  pub create_unique_index-keeps : (q : QName) (name method rest : Bytes) → texts.index q name (record { method = method; unique = true; text = rest }) ≡ true → Keeps texts named (create_unique_index q name method rest)
  create_unique_index-keeps q name method rest good =
      let i : Index = record { method = method; unique = true; text = rest } in
      keeps_table sound q (λ columns is.
      keeps_free sound (key.Rel (index_path q name)) (λ no_relation.
      keeps_free sound (key.Index q name) (λ none.
      unique_keeps q name columns (unique_on i) (λ have.
      keeps_sets refl (index_kept q name i none no_relation columns is good have)))))

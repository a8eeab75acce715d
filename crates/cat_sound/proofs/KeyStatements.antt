-- Statements about constraints and indexes leave a catalogue in order.
use Rattle.std.proofs.Common.{◌≡◌, true, not, List, [], ◌∷◌, Option, Some, None, refl, ap, sym, subst, ◌∙◌}
use Rattle.std.specs.FinMap.{get}
use Rattle.std.specs.List.{AllByRecursion}
use Rattle.cat_model.specs.declared.cause.Cause.TheVariants as cause
use Rattle.cat_model.specs.declared.object.QName.{QName}
use Rattle.cat_model.specs.declared.key.Key.TheVariants as key
use Rattle.cat_model.specs.declared.class.Class.TheVariants as class
use Rattle.cat_model.specs.declared.constraint.ConstraintKind.TheVariants as kinds
use Rattle.cat_model.specs.declared.value.Value.TheVariants as value
use Rattle.cat_model.specs.declared.value.Value.{Value}
use Rattle.cat_model.specs.declared.value.Column.{Column}
use Rattle.cat_model.specs.declared.value.Constraint.{Constraint}
use Rattle.cat_model.specs.Values.{Bytes, Named}
use Rattle.cat_model.specs.Tables.{columns_there, repeated, null_in}
use Rattle.cat_model.specs.Trees.{Change, changed, is_unique}
use Rattle.cat_model.specs.KeyEffects.{add_primary, add_unique, index_path, rows_in}
use Rattle.cat_sound.specs.Texts.{Texts}
use Rattle.cat_sound.specs.Asked.{Asked}
use Rattle.cat_sound.specs.Asks.{kind_asks}
use Rattle.cat_sound.specs.Itself.{IsOfKind}
use Rattle.cat_sound.specs.Beside.{is_primary_at, is_key_at, is_index_at}
use Rattle.cat_sound.specs.Sound.{IsMet, IsSound}
use Rattle.model_laws.proofs.Changes.{get-changed, key_eq_self}
use Rattle.cat_sound.proofs.Changes.{AreNew, now, meets_is, new_left}
use Rattle.cat_sound.proofs.Keeping.{IsGood, new_answers}
use Rattle.cat_sound.proofs.KeyFacts.{no_index, no_primary_of}
use Rattle.cat_sound.proofs.Shared.{OnePrimary, keeps_shared, no_primary}
use Rattle.cat_sound.proofs.TreeSteps.{Keeps, keeps_sets, keeps_look, keeps_scan, keeps_check, keeps_free, keeps_table, keeps_repeated, keeps_null, keeps_no_primary}

module _ (texts : Texts) (named : Named) (sound : IsSound texts named) where
  -- ---- a constraint with its index, and an index by itself

  -- the relation of a new index is in order
  pub relation_good : (cs : List Change) (q : QName) (name : Bytes) (columns : List Column) → AreNew named cs → get named (key.Rel q) ≡ Some (value.Table columns) → get named (key.Rel (index_path q name)) ≡ None → IsGood texts named cs (key.Rel (index_path q name), Some (value.IndexOf q))
  relation_good cs q name columns fresh is none = record {
    new = record { own = refl; others = (new_left cs named fresh (key.Schema q.schema, Asked.there) (sound.each (key.Rel q) (value.Table columns) is).others.0, tt) };
    answers = new_answers named cs (key.Rel (index_path q name), Some (value.IndexOf q)) none;
  }

  -- a primary key or a unique constraint
  module _ (q : QName) (name : Bytes) (c : Constraint) (keyed : is_unique c.kind ≡ true) (asked : kind_asks q name c c.kind ≡ (key.Rel (index_path q name), Asked.index_on q) ∷ []) (none : get named (key.Con q name) ≡ None) (no_relation : get named (key.Rel (index_path q name)) ≡ None) where
    abbrev cs : List Change
    cs = (key.Con q name, Some (value.Constraint c)) ∷ (key.Rel (index_path q name), Some (value.IndexOf q)) ∷ []

    fresh : AreNew named cs
    fresh = (none, (no_relation, tt))

    index_there : IsMet (changed cs named) (key.Rel (index_path q name), Asked.index_on q)
    index_there = now cs named (key.Rel (index_path q name), Asked.index_on q) (value.IndexOf q) (rw key_eq_self refl) refl

    key_owned : is_key_at (get (changed cs named) (key.Con q name)) ≡ not (is_index_at (get (changed cs named) (key.Index q name)))
    key_owned =
        let con : get (changed cs named) (key.Con q name) ≡ Some (value.Constraint c) = get-changed cs named (key.Con q name) ∙ rw key_eq_self refl in
        let index : get (changed cs named) (key.Index q name) ≡ None = get-changed cs named (key.Index q name) ∙ no_index texts named sound.each q name no_relation in
        ap is_key_at con ∙ keyed ∙ sym (ap (λ (o : Option Value). not (is_index_at o)) index)

    key_kept : OnePrimary named cs → (columns : List Column) → get named (key.Rel q) ≡ Some (value.Table columns) → texts.constraint c ≡ true → IsOfKind c c.kind → c.parent ≡ None → columns_there columns c.columns ≡ true → IsSound texts (changed cs named)
    key_kept one columns is good kind no_parent have =
        keeps_shared texts named cs sound (
          record {
            free = none;
            alone = λ e. no_relation;
            parent = λ d parent names same has. let equal : c ≡ d = cc in let wrong : c.parent ≡ Some (parent, names) = subst (λ (e : Constraint). e.parent ≡ Some (parent, names)) (sym equal) has in cc;
          },
          (key_owned, tt),
        )
        one (
          record {
            new = record {
              own = record { text = good; kind = kind };
              others = (
                new_left cs named fresh (key.Rel q, Asked.has_columns c.columns) (meets_is named (key.Rel q) (Asked.has_columns c.columns) (value.Table columns) is have),
                subst (AllByRecursion (IsMet (changed cs named))) (sym asked) (index_there, tt),
              );
            };
            answers = new_answers named cs (key.Con q name, Some (value.Constraint c)) none;
          },
          (relation_good cs q name columns fresh is no_relation, tt),
        )

  -- ---- the statements

  pub add_primary-keeps : (q : QName) (name : Bytes) (names : List Bytes) (rest : Bytes) → texts.constraint (record { kind = kinds.Primary; columns = names; parent = None; text = rest }) ≡ true → Keeps texts named (add_primary q name names rest)
  add_primary-keeps q name names rest good =
      keeps_table sound q (λ columns is.
      keeps_free sound (key.Con q name) (λ none.
      keeps_free sound (key.Rel (index_path q name)) (λ no_relation.
      keeps_scan (class.PrimaryKeys q) (λ es entries_are.
      keeps_no_primary sound es (λ empty.
      keeps_check sound (columns_there columns names) cause.WrongColumns (λ have.
      keeps_look (key.Rows q) (λ rows rows_are.
      keeps_null sound (null_in 1 columns names (rows_in rows))
      (keeps_repeated sound name (repeated columns names (rows_in rows))
      (keeps_sets refl
      (key_kept q name (record { kind = kinds.Primary; columns = names; parent = None; text = rest }) refl refl none no_relation
      (record {
        at = key.Con q name;
        only = (λ e. refl, (λ e. cc, tt));
        first = λ p n other same primary. let table : q ≡ p = cc in no_primary_of named q (entries_are ∙ empty) other (subst (λ (t : QName). is_primary_at (get named (key.Con t other)) ≡ true) (sym table) primary);
      })
      columns is good refl refl have))))))))))

  pub add_unique-keeps : (q : QName) (name : Bytes) (names : List Bytes) (rest : Bytes) → texts.constraint (record { kind = kinds.Unique; columns = names; parent = None; text = rest }) ≡ true → Keeps texts named (add_unique q name names rest)
  add_unique-keeps q name names rest good =
      keeps_table sound q (λ columns is.
      keeps_free sound (key.Con q name) (λ none.
      keeps_free sound (key.Rel (index_path q name)) (λ no_relation.
      keeps_check sound (columns_there columns names) cause.WrongColumns (λ have.
      keeps_look (key.Rows q) (λ rows rows_are.
      keeps_repeated sound name (repeated columns names (rows_in rows))
      (keeps_sets refl
      (key_kept q name (record { kind = kinds.Unique; columns = names; parent = None; text = rest }) refl refl none no_relation
      (no_primary named _ (refl, (refl, tt)))
      columns is good refl refl have)))))))

-- Statements about sequences and views, and defaults of columns, leave a catalogue in order.
use Rattle.std.proofs.Common.{◌≡◌, Bool, true, false, not, ◌&&◌, List, [], ◌∷◌, Some, None, refl, ◌∙◌, ℤ, pos}
use Rattle.std.specs.Cmp.{first_so, second_so}
use Rattle.std.specs.FinMap.{get}
use Rattle.std.specs.Ordering.{int_eq}
use Rattle.cat_model.specs.declared.cause.Cause.TheVariants as cause
use Rattle.cat_model.specs.declared.object.QName.{QName}
use Rattle.cat_model.specs.declared.key.Key.TheVariants as key
use Rattle.cat_model.specs.declared.object.Object.TheVariants as object
use Rattle.cat_model.specs.declared.value.Value.TheVariants as value
use Rattle.cat_model.specs.declared.value.Value.{Value}
use Rattle.cat_model.specs.declared.value.Sequence.{Sequence}
use Rattle.cat_model.specs.Values.{Bytes, Named}
use Rattle.cat_model.specs.Grants.{owner_only, table_rights, sequence_rights}
use Rattle.cat_model.specs.References.{expression_references, view_references}
use Rattle.cat_model.specs.Tables.{column_there}
use Rattle.cat_model.specs.Trees.{Change, changed}
use Rattle.cat_model.specs.Conditions.{is_view}
use Rattle.cat_model.specs.ObjectEffects.{made}
use Rattle.cat_model.specs.RelationEffects.{create_sequence, owned_by, set_value, create_view, replace_view, set_default, fits_sequence, within, in_kind, at_most}
use Rattle.cat_sound.specs.Texts.{Texts}
use Rattle.cat_sound.specs.Asked.{Asked, Meets}
use Rattle.cat_sound.specs.Itself.{IsNumber, IsOwningColumn, IsBody, IsColumnDefault}
use Rattle.cat_sound.specs.Sound.{IsMet, IsSound}
use Rattle.model_laws.proofs.Changes.{get-changed, key_eq_self}
use Rattle.cat_sound.proofs.Changes.{AreNew, now, left, there_is, meets_is, new_left}
use Rattle.cat_sound.proofs.Keeping.{new_answers, sorted_answers}
use Rattle.cat_sound.proofs.Wholes.{keeps_aside}
use Rattle.cat_sound.proofs.Needed.{none_without}
use Rattle.cat_sound.proofs.Made.{IsNewObject, made_good}
use Rattle.cat_sound.proofs.NewGrants.{owner_first}
use Rattle.cat_sound.proofs.Objects.{one_column}
use Rattle.cat_sound.proofs.References.{refs_left, but_left}
use Rattle.cat_sound.proofs.TreeSteps.{Keeps, keeps_sets, keeps_check, keeps_free, keeps_needs, keeps_needs_each, keeps_kind, keeps_table, keeps_sequence}

view_kind : (v : Value) → is_view v ≡ true → v ≡ value.View
view_kind value.View e = refl
view_kind _ e = cc

starts_within : (s : Sequence) → fits_sequence s ≡ true → within s.min s.max s.start ≡ true
starts_within s fits =
    let rest : Bool = in_kind s.kind s.start && (in_kind s.kind s.min && (in_kind s.kind s.max && at_most (pos 1) s.cache)) in
    first_so (within s.min s.max s.start) rest (second_so (not (int_eq s.step (pos 0))) (within s.min s.max s.start && rest) fits)

module _ (texts : Texts) (named : Named) (sound : IsSound texts named) where
  pub create_sequence-keeps : (boot : Bytes) (q : QName) (s : Sequence) → IsMet named (key.Role boot, Asked.there) → Keeps texts named (create_sequence boot q s)
  create_sequence-keeps boot q s boot_there =
      keeps_needs sound (key.Schema q.schema) (λ schema schema_is.
      keeps_free sound (key.Rel q) (λ none.
      keeps_check sound (fits_sequence s) cause.OutOfRange (λ fits.
      let o = object.Relation q in
      let grants = owner_only sequence_rights in
      let cs : List Change = (key.Rel q, Some (value.Sequence s)) ∷ (key.SeqVal q, Some (value.SequenceValue s.start false)) ∷ made o boot grants in
      let with_owner : IsMet (changed cs named) (key.Owner o, Asked.there) = now cs named (key.Owner o, Asked.there) (value.Owner boot) (rw key_eq_self refl) tt in
      let with_grants : IsMet (changed cs named) (key.Acl o, Asked.there) = now cs named (key.Acl o, Asked.there) (value.Grants grants) (rw key_eq_self refl) tt in
      let new : IsNewObject named (changed cs named) o boot grants sequence_rights (value.Sequence s) = record {
        owned = refl;
        granted = refl;
        ownable = refl;
        takes = refl;
        first = owner_first sequence_rights refl refl;
        no_owner = none_without texts named sound.each (key.Owner o) (key.Rel q) refl none;
        no_grants = none_without texts named sound.each (key.Acl o) (key.Rel q) refl none;
        there = get-changed cs named (key.Rel q) ∙ rw key_eq_self refl;
        with_owner = with_owner;
        role = left cs named (key.Role boot, Asked.there) refl boot_there;
      } in
      keeps_sets refl (keeps_aside texts named cs sound (refl, (refl, (refl, (refl, tt)))) (
        record {
          new = record {
            own = fits;
            others = (
              left cs named (key.Schema q.schema, Asked.there) refl (there_is named (key.Schema q.schema) schema schema_is),
              (now cs named (key.SeqVal q, Asked.there) (value.SequenceValue s.start false) (rw key_eq_self refl) tt, (with_owner, (with_grants, tt))),
            );
          };
          answers = new_answers named cs (key.Rel q, Some (value.Sequence s)) none;
        },
        (
          record {
            new = record { own = tt; others = (now cs named (key.Rel q, Asked.counts s.start) (value.Sequence s) (rw key_eq_self refl) (starts_within s fits), tt) };
            answers = new_answers named cs (key.SeqVal q, Some (value.SequenceValue s.start false)) (none_without texts named sound.each (key.SeqVal q) (key.Rel q) refl none);
          },
          made_good texts named cs o boot grants sequence_rights (value.Sequence s) new,
        ),
      )))))

  alike_numbers : (old : Value) (n : ℤ) (called : Bool) → IsNumber old → (a : Asked) → Meets a old → Meets a (value.SequenceValue n called)
  alike_numbers (value.SequenceValue m given) n called own Asked.there met = met
  alike_numbers (value.SequenceValue m given) n called own _ met = met
  alike_numbers _ n called own a met = elim own [ ]

  pub set_value-keeps : (q : QName) (n : ℤ) (called : Bool) → Keeps texts named (set_value q n called)
  set_value-keeps q n called =
      keeps_sequence sound q (λ s is.
      keeps_check sound (within s.min s.max n) cause.OutOfRange (λ fits.
      let cs : List Change = (key.SeqVal q, Some (value.SequenceValue n called)) ∷ [] in
      keeps_sets refl (keeps_aside texts named cs sound (refl, tt) (
        record {
          new = record { own = tt; others = (left cs named (key.Rel q, Asked.counts n) refl (meets_is named (key.Rel q) (Asked.counts n) (value.Sequence s) is fits), tt) };
          answers = sorted_answers texts named cs (key.SeqVal q) (value.SequenceValue n called) sound.each (λ old own. alike_numbers old n called own);
        },
        tt,
      ))))

  alike_columns : (old : Value) (table : QName) (column : Bytes) → IsOwningColumn old → (a : Asked) → Meets a old → Meets a (value.OwnedBy table column)
  alike_columns (value.OwnedBy t c) table column own Asked.there met = met
  alike_columns (value.OwnedBy t c) table column own _ met = met
  alike_columns _ table column own a met = elim own [ ]

  pub owned_by-keeps : (q table : QName) (column : Bytes) → Keeps texts named (owned_by q table column)
  owned_by-keeps q table column =
      keeps_sequence sound q (λ s is.
      keeps_table sound table (λ columns table_is.
      keeps_check sound (column_there columns column) cause.WrongColumns (λ e.
      let cs : List Change = (key.OwnedBy q, Some (value.OwnedBy table column)) ∷ [] in
      keeps_sets refl (keeps_aside texts named cs sound (refl, tt) (
        record {
          new = record {
            own = tt;
            others = (
              left cs named (key.Rel q, Asked.a_sequence) refl (meets_is named (key.Rel q) Asked.a_sequence (value.Sequence s) is refl),
              (left cs named (key.Rel table, Asked.has_columns (column ∷ [])) refl (meets_is named (key.Rel table) (Asked.has_columns (column ∷ [])) (value.Table columns) table_is (one_column columns column e)), tt),
            );
          };
          answers = sorted_answers texts named cs (key.OwnedBy q) (value.OwnedBy table column) sound.each (λ old own. alike_columns old table column own);
        },
        tt,
      )))))

  alike_defaults : (old : Value) (text : Bytes) → IsColumnDefault texts old → (a : Asked) → Meets a old → Meets a (value.DefaultText text)
  alike_defaults (value.DefaultText t) text own Asked.there met = met
  alike_defaults (value.DefaultText t) text own _ met = met
  alike_defaults _ text own a met = elim own [ ]

  pub set_default-keeps : (q : QName) (column text : Bytes) → texts.expression text ≡ true → Keeps texts named (set_default q column text)
  set_default-keeps q column text good =
      keeps_table sound q (λ columns is.
      keeps_check sound (column_there columns column) cause.WrongColumns (λ e.
      keeps_needs_each sound (expression_references text) (λ refs.
      let cs : List Change = (key.Default q column, Some (value.DefaultText text)) ∷ [] in
      keeps_sets refl (keeps_aside texts named cs sound (refl, tt) (
        record {
          new = record {
            own = good;
            others = (
              left cs named (key.Rel q, Asked.has_columns (column ∷ [])) refl (meets_is named (key.Rel q) (Asked.has_columns (column ∷ [])) (value.Table columns) is (one_column columns column e)),
              refs_left cs named (refl, tt) (expression_references text) refs,
            );
          };
          answers = sorted_answers texts named cs (key.Default q column) (value.DefaultText text) sound.each (λ old own. alike_defaults old text own);
        },
        tt,
      )))))

  -- ---- views

  alike_bodies : (old : Value) (text : Bytes) → IsBody texts old → (a : Asked) → Meets a old → Meets a (value.Body text)
  alike_bodies (value.Body t) text own Asked.there met = met
  alike_bodies (value.Body t) text own _ met = met
  alike_bodies _ text own a met = elim own [ ]

  pub replace_view-keeps : (q : QName) (body : Bytes) → texts.body body ≡ true → Keeps texts named (replace_view q body)
  replace_view-keeps q body good =
      keeps_kind sound is_view (key.Rel q) (λ v is kind.
      keeps_needs_each sound (view_references body) (λ refs.
      let cs : List Change = (key.Body q, Some (value.Body body)) ∷ [] in
      keeps_sets refl (keeps_aside texts named cs sound (refl, tt) (
        record {
          new = record { own = good; others = (left cs named (key.Rel q, Asked.a_view) refl (meets_is named (key.Rel q) Asked.a_view v is kind), refs_left cs named (refl, tt) (view_references body) refs) };
          answers = sorted_answers texts named cs (key.Body q) (value.Body body) sound.each (λ old own. alike_bodies old body own);
        },
        tt,
      ))))

  pub create_view-keeps : (boot : Bytes) (q : QName) (body : Bytes) → IsMet named (key.Role boot, Asked.there) → texts.body body ≡ true → Keeps texts named (create_view boot q body)
  create_view-keeps boot q body boot_there good =
      keeps_needs sound (key.Schema q.schema) (λ schema schema_is.
      keeps_free sound (key.Rel q) (λ none.
      keeps_needs_each sound _ (λ refs.
      let o = object.Relation q in
      let grants = owner_only table_rights in
      let cs : List Change = (key.Rel q, Some value.View) ∷ (key.Body q, Some (value.Body body)) ∷ made o boot grants in
      let with_owner : IsMet (changed cs named) (key.Owner o, Asked.there) = now cs named (key.Owner o, Asked.there) (value.Owner boot) (rw key_eq_self refl) tt in
      let with_grants : IsMet (changed cs named) (key.Acl o, Asked.there) = now cs named (key.Acl o, Asked.there) (value.Grants grants) (rw key_eq_self refl) tt in
      let no_owner : get named (key.Owner o) ≡ None = none_without texts named sound.each (key.Owner o) (key.Rel q) refl none in
      let no_grants : get named (key.Acl o) ≡ None = none_without texts named sound.each (key.Acl o) (key.Rel q) refl none in
      let no_body : get named (key.Body q) ≡ None = none_without texts named sound.each (key.Body q) (key.Rel q) refl none in
      let fresh : AreNew named cs = (none, (no_body, (no_owner, (no_grants, tt)))) in
      let new : IsNewObject named (changed cs named) o boot grants table_rights value.View = record {
        owned = refl;
        granted = refl;
        ownable = refl;
        takes = refl;
        first = owner_first table_rights refl refl;
        no_owner = no_owner;
        no_grants = no_grants;
        there = get-changed cs named (key.Rel q) ∙ rw key_eq_self refl;
        with_owner = with_owner;
        role = left cs named (key.Role boot, Asked.there) refl boot_there;
      } in
      let view_there : IsMet (changed cs named) (key.Rel q, Asked.there) = now cs named (key.Rel q, Asked.there) value.View (rw key_eq_self refl) tt in
      keeps_sets refl (keeps_aside texts named cs sound (refl, (refl, (refl, (refl, tt)))) (
        record {
          new = record {
            own = tt;
            others = (
              left cs named (key.Schema q.schema, Asked.there) refl (there_is named (key.Schema q.schema) schema schema_is),
              (now cs named (key.Body q, Asked.there) (value.Body body) (rw key_eq_self refl) tt, (with_owner, (with_grants, tt))),
            );
          };
          answers = new_answers named cs (key.Rel q, Some value.View) none;
        },
        (
          record {
            new = record {
              own = good;
              others = (
                now cs named (key.Rel q, Asked.a_view) value.View (rw key_eq_self refl) refl,
                but_left named (changed cs named) (key.Rel q) view_there (λ j. new_left cs named fresh (j, Asked.there)) (view_references body) refs,
              );
            };
            answers = new_answers named cs (key.Body q, Some (value.Body body)) no_body;
          },
          made_good texts named cs o boot grants table_rights value.View new,
        ),
      )))))

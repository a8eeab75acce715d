-- CREATE SCHEMA, OWNER TO and COMMENT leave a catalogue in order.
use Rattle.std.proofs.Common.{◌≡◌, true, not, List, [], ◌∷◌, Option, Some, None, refl, ◌∙◌, true≢false}
use Rattle.std.specs.List.{AllByRecursion}
use Rattle.std.specs.Option.{option_map}
use Rattle.cat_model.specs.declared.cause.Cause.TheVariants as cause
use Rattle.cat_model.specs.declared.grant.Commented.{Commented}
use Rattle.cat_model.specs.declared.grant.Commented.TheVariants as commented
use Rattle.cat_model.specs.declared.key.Key.{Key}
use Rattle.cat_model.specs.declared.key.Key.TheVariants as key
use Rattle.cat_model.specs.declared.object.Object.{Object}
use Rattle.cat_model.specs.declared.object.Object.TheVariants as object
use Rattle.cat_model.specs.declared.value.Value.TheVariants as value
use Rattle.cat_model.specs.declared.value.Value.{Value}
use Rattle.cat_model.specs.declared.value.Column.{Column}
use Rattle.cat_model.specs.Values.{Bytes, Named}
use Rattle.cat_model.specs.Grants.{owner_only, schema_rights}
use Rattle.cat_model.specs.References.{is_system}
use Rattle.cat_model.specs.Tables.{column_there, columns_there}
use Rattle.cat_model.specs.Trees.{Change, changed, sets}
use Rattle.cat_model.specs.ObjectEffects.{create_schema, made, comment_on}
use Rattle.cat_sound.specs.Texts.{Texts}
use Rattle.cat_sound.specs.Asked.{Asked, Meets}
use Rattle.cat_sound.specs.Asks.{asks, comment_asks}
use Rattle.cat_sound.specs.Itself.{IsComment, has_comment}
use Rattle.cat_sound.specs.Sound.{IsMet, IsSound}
use Rattle.model_laws.proofs.Changes.{get-changed, key_eq_self}
use Rattle.cat_sound.proofs.Asking.{IsUsual, all_usual}
use Rattle.cat_sound.proofs.Lists.{IsIn, of_member}
use Rattle.cat_sound.proofs.Bools.{not_true}
use Rattle.cat_sound.proofs.Changes.{now, left, there_is, meets_is}
use Rattle.cat_sound.proofs.Keeping.{IsGood, new_answers, sorted_answers}
use Rattle.cat_sound.proofs.Wholes.{keeps_aside}
use Rattle.cat_sound.proofs.Needed.{none_without}
use Rattle.cat_sound.proofs.Made.{IsNewObject, made_good}
use Rattle.cat_sound.proofs.NewGrants.{owner_first}
use Rattle.cat_sound.proofs.TreeSteps.{Keeps, keeps_sets, keeps_check, keeps_free, keeps_needs, keeps_kind, keeps_table}

-- what COMMENT sets
abbrev comment_set : Object → Option Bytes → List Change
comment_set o text = (key.Comment o, option_map value.Comment text) ∷ []

-- a column that is there, by itself
pub one_column : (columns : List Column) (column : Bytes) → column_there columns column ≡ true → columns_there columns (column ∷ []) ≡ true
one_column columns column e = rw e refl

module _ (texts : Texts) (named : Named) (sound : IsSound texts named) where
  pub create_schema-keeps : (boot name : Bytes) → IsMet named (key.Role boot, Asked.there) → Keeps texts named (create_schema boot name)
  create_schema-keeps boot name boot_there =
      keeps_free sound (key.Schema name) (λ none.
      keeps_check sound (not (is_system name)) (cause.Exists (key.Schema name)) (λ own.
      let o = object.Schema name in
      let cs : List Change = (key.Schema name, Some value.Schema) ∷ made o boot (owner_only schema_rights) in
      let with_owner : IsMet (changed cs named) (key.Owner o, Asked.there) = now cs named (key.Owner o, Asked.there) (value.Owner boot) (rw key_eq_self refl) tt in
      let with_grants : IsMet (changed cs named) (key.Acl o, Asked.there) = now cs named (key.Acl o, Asked.there) (value.Grants (owner_only schema_rights)) (rw key_eq_self refl) tt in
      let new : IsNewObject named (changed cs named) o boot (owner_only schema_rights) schema_rights value.Schema = record {
        owned = refl;
        granted = refl;
        ownable = refl;
        takes = refl;
        first = owner_first schema_rights refl refl;
        no_owner = none_without texts named sound.each (key.Owner o) (key.Schema name) refl none;
        no_grants = none_without texts named sound.each (key.Acl o) (key.Schema name) refl none;
        there = get-changed cs named (key.Schema name) ∙ rw key_eq_self refl;
        with_owner = with_owner;
        role = left cs named (key.Role boot, Asked.there) refl boot_there;
      } in
      keeps_sets refl (keeps_aside texts named cs sound (refl, (refl, (refl, tt))) (
        record {
          new = record { own = not_true (is_system name) own; others = (with_owner, (with_grants, tt)) };
          answers = new_answers named cs (key.Schema name, Some value.Schema) none;
        },
        made_good texts named cs o boot (owner_only schema_rights) schema_rights value.Schema new,
      ))))

  -- ---- COMMENT

  alike_comments : (o : Object) (old : Value) (text : Bytes) → IsComment o old → (a : Asked) → Meets a old → Meets a (value.Comment text)
  alike_comments o (value.Comment before) text own Asked.there met = met
  alike_comments o (value.Comment before) text own _ met = met
  alike_comments o _ text own a met = elim own [ ]

  unasked : (o : Object) (j : Key) (u : Value) (a : Asked) → IsIn (key.Comment o, a) (asks j u) → ⊥
  unasked o j u a among =
      let usual = of_member (IsUsual j) (asks j u) (all_usual j u) (key.Comment o, a) among in
      absurd (true≢false usual.comment)

  comment_good : (o : Object) (text : Option Bytes) → has_comment o ≡ true → AllByRecursion (IsMet (changed (comment_set o text) named)) (comment_asks o) → IsGood texts named (comment_set o text) (key.Comment o, option_map value.Comment text)
  comment_good o (Some text) own met = record {
    new = record { own = own; others = met };
    answers = sorted_answers texts named (comment_set o (Some text)) (key.Comment o) (value.Comment text) sound.each (λ old is. alike_comments o old text is);
  }
  comment_good o None own met = record { new = tt; answers = λ old a was fits j u untouched is among. unasked o j u a among }

  comment_left : (o : Object) (text : Option Bytes) → AllByRecursion (IsMet named) (comment_asks o) → AllByRecursion (IsMet (changed (comment_set o text) named)) (comment_asks o)
  comment_left (object.Schema name) text met = (left (comment_set (object.Schema name) text) named (key.Schema name, Asked.there) refl met.0, tt)
  comment_left (object.Type q) text met = (left (comment_set (object.Type q) text) named (key.UserType q, Asked.there) refl met.0, tt)
  comment_left (object.Relation q) text met = (left (comment_set (object.Relation q) text) named (key.Rel q, Asked.there) refl met.0, tt)
  comment_left (object.Column q column) text met = (left (comment_set (object.Column q column) text) named (key.Rel q, Asked.has_columns (column ∷ [])) refl met.0, tt)
  comment_left (object.Constraint q name) text met = (left (comment_set (object.Constraint q name) text) named (key.Con q name, Asked.there) refl met.0, tt)
  comment_left (object.Database name) text met = (left (comment_set (object.Database name) text) named (key.Database name, Asked.there) refl met.0, tt)

  comment_kept : (o : Object) (text : Option Bytes) → has_comment o ≡ true → AllByRecursion (IsMet named) (comment_asks o) → Keeps texts named (sets (comment_set o text))
  comment_kept o text own met =
      keeps_sets refl (keeps_aside texts named (comment_set o text) sound (refl, tt) (comment_good o text own (comment_left o text met), tt))

  pub comment_on-keeps : (what : Commented) (text : Option Bytes) → Keeps texts named (comment_on what text)
  comment_on-keeps (commented.Schema name) text = keeps_needs sound (key.Schema name) (λ v is. comment_kept (object.Schema name) text refl (there_is named (key.Schema name) v is, tt))
  comment_on-keeps (commented.Type q) text = keeps_kind sound _ (key.UserType q) (λ v is kind. comment_kept (object.Type q) text refl (there_is named (key.UserType q) v is, tt))
  comment_on-keeps (commented.Domain q) text = keeps_kind sound _ (key.UserType q) (λ v is kind. comment_kept (object.Type q) text refl (there_is named (key.UserType q) v is, tt))
  comment_on-keeps (commented.Table q) text = keeps_kind sound _ (key.Rel q) (λ v is kind. comment_kept (object.Relation q) text refl (there_is named (key.Rel q) v is, tt))
  comment_on-keeps (commented.View q) text = keeps_kind sound _ (key.Rel q) (λ v is kind. comment_kept (object.Relation q) text refl (there_is named (key.Rel q) v is, tt))
  comment_on-keeps (commented.Sequence q) text = keeps_kind sound _ (key.Rel q) (λ v is kind. comment_kept (object.Relation q) text refl (there_is named (key.Rel q) v is, tt))
  comment_on-keeps (commented.Index q) text = keeps_kind sound _ (key.Rel q) (λ v is kind. comment_kept (object.Relation q) text refl (there_is named (key.Rel q) v is, tt))
  comment_on-keeps (commented.Column q column) text =
      keeps_table sound q (λ columns is. keeps_check sound (column_there columns column) cause.WrongColumns (λ e.
      comment_kept (object.Column q column) text refl (meets_is named (key.Rel q) (Asked.has_columns (column ∷ [])) (value.Table columns) is (one_column columns column e), tt)))
  comment_on-keeps (commented.Constraint q name) text = keeps_needs sound (key.Con q name) (λ v is. comment_kept (object.Constraint q name) text refl (there_is named (key.Con q name) v is, tt))

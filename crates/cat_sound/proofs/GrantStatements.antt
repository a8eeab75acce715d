-- GRANT and REVOKE leave a catalogue in order.
use Rattle.std.proofs.Common.{◌≡◌, ◌⊎◌, Bool, true, false, if◌then◌else◌, List, [], ◌∷◌, Option, Some, None, refl, ap, sym, subst, ◌∙◌, inl, inr}
use Rattle.std.specs.FinMap.{get}
use Rattle.std.specs.Ordering.{eq_by_cmp}
use Rattle.cat_model.specs.declared.grant.Rights.{Rights}
use Rattle.cat_model.specs.declared.grant.Granted.{Granted}
use Rattle.cat_model.specs.declared.grant.Granted.TheVariants as on
use Rattle.cat_model.specs.declared.grant.Grantee.{Grantee}
use Rattle.cat_model.specs.declared.grant.Grantee.TheVariants as grantee
use Rattle.cat_model.specs.declared.key.Key.TheVariants as key
use Rattle.cat_model.specs.declared.object.QName.{QName}
use Rattle.cat_model.specs.declared.object.Object.{Object}
use Rattle.cat_model.specs.declared.value.Value.TheVariants as value
use Rattle.cat_model.specs.declared.value.Value.{Value}
use Rattle.cat_model.specs.declared.holder.Item.{Item}
use Rattle.cat_model.specs.declared.holder.Holder.{Holder}
use Rattle.cat_model.specs.declared.holder.Holder.TheVariants.{Owner as OWNER, Role as ROLE}
use Rattle.cat_model.specs.Values.{Bytes, Named, Grants}
use Rattle.cat_model.specs.Holders.{holder_cmp}
use Rattle.cat_model.specs.HolderLaws.{holder_cmp-IsAntisymmetric}
use Rattle.cat_model.specs.Lexemes.{same_text}
use Rattle.cat_model.specs.Grants.{holder_of, granted, revoked}
use Rattle.cat_model.specs.Trees.{Change, changed, Tree, sets}
use Rattle.cat_model.specs.Conditions.{is_table_or_view, is_sequence, is_type}
use Rattle.cat_model.specs.ObjectEffects.{needs_granted, granted_object, needs_grantee, owner_in, grants_changed, change_grants}
use Rattle.cat_sound.specs.Texts.{Texts}
use Rattle.cat_sound.specs.Rights.{rights_of, rights_on, is_within}
use Rattle.cat_sound.specs.Asked.{Asked, Passes, HasRights}
use Rattle.cat_sound.specs.Asks.{object_key}
use Rattle.cat_sound.specs.Itself.{IsSchema}
use Rattle.cat_sound.specs.Sound.{IsMet, IsSound}
use Rattle.cat_sound.proofs.Maps.{equal_of}
use Rattle.cat_sound.proofs.Changes.{left, there_is, is_touched, untouched_value, value_met}
use Rattle.cat_sound.proofs.Keeping.{alike_answers}
use Rattle.cat_sound.proofs.NewGrants.{IsHolder, AreHolders, holders_met, met_holders}
use Rattle.cat_sound.proofs.GrantChanges.{IsChange, granted_changes, revoked_changes}
use Rattle.cat_sound.proofs.OwnerTo.{apart_grants, alike_grants}
use Rattle.cat_sound.proofs.Wholes.{keeps_aside}
use Rattle.cat_sound.proofs.TreeSteps.{Keeps, keeps_sets, keeps_look, keeps_needs, keeps_kind}

-- ---- the kinds of objects, and their rights

rights_table : (q : QName) (v : Value) → is_table_or_view v ≡ true → rights_of v ≡ Some (rights_on (on.Table q))
rights_table q (value.Table columns) e = refl
rights_table q value.View e = refl
rights_table q _ e = cc

rights_sequence : (q : QName) (v : Value) → is_sequence v ≡ true → rights_of v ≡ Some (rights_on (on.Sequence q))
rights_sequence q (value.Sequence s) e = refl
rights_sequence q _ e = cc

rights_type : (q : QName) (v : Value) → is_type v ≡ true → rights_of v ≡ Some (rights_on (on.Type q))
rights_type q (value.Enum labels) e = refl
rights_type q (value.Domain d) e = refl
rights_type q _ e = cc

rights_schema : (name : Bytes) (v : Value) → IsSchema name v → rights_of v ≡ Some (rights_on (on.Schema name))
rights_schema name value.Schema own = refl
rights_schema name _ own = elim own [ ]

-- whose item is a role's own
role_of : (owner : Bytes) (who : Grantee) (name : Bytes) → holder_of owner who ≡ ROLE name → (who ≡ grantee.Role name) × (same_text owner name ≡ false)
role_of owner grantee.Public name e = cc
role_of owner (grantee.Role n) name e = by (same_text owner n) refl e
  where
    by : (same : Bool) → same_text owner n ≡ same → (if same then OWNER else ROLE n) ≡ ROLE name → (grantee.Role n ≡ grantee.Role name) × (same_text owner name ≡ false)
    by true is at = cc
    by false is at =
        let equal : n ≡ name = cc in
        (ap grantee.Role equal, subst (λ (m : Bytes). same_text owner m ≡ false) equal is)

module _ (texts : Texts) (named : Named) (sound : IsSound texts named) where
  keeps_granted : (what : Granted) {tree : Tree} → ((v : Value) → get named (object_key (granted_object what)) ≡ Some v → rights_of v ≡ Some (rights_on what) → Keeps texts named tree) → Keeps texts named (needs_granted what tree)
  keeps_granted (on.Table q) step = keeps_kind sound _ (key.Rel q) (λ v is kind. step v is (rights_table q v kind))
  keeps_granted (on.Sequence q) step = keeps_kind sound _ (key.Rel q) (λ v is kind. step v is (rights_sequence q v kind))
  keeps_granted (on.Schema name) step = keeps_needs sound (key.Schema name) (λ v is. step v is (rights_schema name v (sound.each (key.Schema name) v is).own))
  keeps_granted (on.Type q) step = keeps_kind sound _ (key.UserType q) (λ v is kind. step v is (rights_type q v kind))

  keeps_grantee : (who : Grantee) {tree : Tree} → (((name : Bytes) → who ≡ grantee.Role name → IsMet named (key.Role name, Asked.there)) → Keeps texts named tree) → Keeps texts named (needs_grantee who tree)
  keeps_grantee grantee.Public step = step (λ name e. cc)
  keeps_grantee (grantee.Role n) step = keeps_needs sound (key.Role n) (λ v is. step (λ name e.
      let equal : n ≡ name = cc in
      subst (λ (m : Bytes). IsMet named (key.Role m, Asked.there)) equal (there_is named (key.Role n) v is)))

  -- the owner of an object that has grants
  owner_named : (o : Object) (v : Option Value) → get named (key.Owner o) ≡ v → IsMet named (key.Owner o, Asked.there) → v ≡ Some (value.Owner (owner_in v))
  owner_named o (Some (value.Owner name)) is met = refl
  owner_named o (Some v) is met = elim (sound.each (key.Owner o) v is).own [ ]
  owner_named o None is met = let there = value_met named (key.Owner o, Asked.there) met in cc

  module _ (what : Granted) (who : Grantee) (change : Holder → Grants → Grants) (changes : (holder : Holder) → IsChange (rights_on what) holder (change holder)) where
    abbrev o : Object
    o = granted_object what

    changed_kept : (object : Value) → get named (object_key o) ≡ Some object → rights_of object ≡ Some (rights_on what) → ((name : Bytes) → who ≡ grantee.Role name → IsMet named (key.Role name, Asked.there)) → (owner : Option Value) → get named (key.Owner o) ≡ owner → (grants : Grants) → get named (key.Acl o) ≡ Some (value.Grants grants) → Keeps texts named (sets ((key.Acl o, Some (value.Grants (change (holder_of (owner_in owner) who) grants))) ∷ []))
    changed_kept object at rights roles owner owner_is grants is =
        let holder = holder_of (owner_in owner) who in
        let given = change holder grants in
        let cs : List Change = (key.Acl o, Some (value.Grants given)) ∷ [] in
        let apart : is_touched cs (object_key o) ≡ false = rw (apart_grants o) refl in
        let before = sound.each (key.Acl o) (value.Grants grants) is in
        let holders : AreHolders named o grants = met_holders named o grants before.others.1.1 in
        let owner_is_named : get named (key.Owner o) ≡ Some (value.Owner (owner_in owner)) = owner_is ∙ owner_named o owner owner_is before.others.1.0 in
        let took : HasRights grants (Some (rights_on what)) = subst (HasRights grants) rights (subst (λ (v : Option Value). Passes v (Asked.takes grants)) at before.others.0) in
        let takes : IsMet named (object_key o, Asked.takes given) = subst (λ (v : Option Value). Passes v (Asked.takes given)) (sym at) (subst (HasRights given) (sym rights) ((changes holder).within grants took)) in
        let new_holder : (name : Bytes) → holder ≡ ROLE name → IsHolder named o name = λ name e.
        let so = role_of (owner_in owner) who name e in
        record { role = roles name so.0; other = subst (λ (v : Option Value). Passes v (Asked.other_owner name)) (sym owner_is_named) so.1 } in
        let holds : (name : Bytes) (i : Item) → ((eq_by_cmp holder_cmp (ROLE name) holder ≡ true) ⊎ (get grants (ROLE name) ≡ Some i)) → IsHolder named o name = λ name i. elim [
          | inl tied ↦ new_holder name (sym (equal_of holder_cmp-IsAntisymmetric (ROLE name) holder (holder_cmp (ROLE name) holder) refl tied))
          | inr was ↦ holders name i was
        ] in
        keeps_sets refl (keeps_aside texts named cs sound (refl, tt) (
          record {
            new = record {
              own = (before.own.0, (changes holder).items grants before.own.1);
              others = (
                left cs named (object_key o, Asked.takes given) (untouched_value cs (object_key o) _ apart) takes,
                (
                  left cs named (key.Owner o, Asked.there) refl before.others.1.0,
                  holders_met (changed cs named) o given (λ name i at_role.
                      let one = holds name i ((changes holder).holders grants (ROLE name) i at_role) in
                      record { role = left cs named (key.Role name, Asked.there) refl one.role; other = left cs named (key.Owner o, Asked.other_owner name) refl one.other }),
                ),
              );
            };
            answers = alike_answers named cs (key.Acl o) (value.Grants grants) (value.Grants given) is (alike_grants grants given);
          },
          tt,
        ))

    grants_or_same : (object : Value) → get named (object_key o) ≡ Some object → rights_of object ≡ Some (rights_on what) → ((name : Bytes) → who ≡ grantee.Role name → IsMet named (key.Role name, Asked.there)) → (owner : Option Value) → get named (key.Owner o) ≡ owner → (v : Option Value) → get named (key.Acl o) ≡ v → Keeps texts named (sets (grants_changed o (change (holder_of (owner_in owner) who)) v))
    grants_or_same object at rights roles owner owner_is (Some (value.Grants grants)) is = changed_kept object at rights roles owner owner_is grants is
    grants_or_same object at rights roles owner owner_is (Some v) is = elim (sound.each (key.Acl o) v is).own [ ]
    grants_or_same object at rights roles owner owner_is None is = keeps_sets refl sound

    change_grants-keeps : Keeps texts named (change_grants what who change)
    change_grants-keeps =
        keeps_granted what (λ object at rights.
        keeps_grantee who (λ roles.
        keeps_look (key.Owner o) (λ owner owner_is.
        keeps_look (key.Acl o) (λ grants is.
        grants_or_same object at rights roles owner owner_is grants is))))

  pub grant-keeps : (what : Granted) (rights : Rights) (who : Grantee) (option : Bool) → is_within rights (rights_on what) ≡ true → Keeps texts named (change_grants what who (granted rights option))
  grant-keeps what rights who option fit = change_grants-keeps what who (granted rights option) (λ holder. granted_changes rights option holder (rights_on what) fit)

  pub revoke-keeps : (what : Granted) (rights : Rights) (who : Grantee) → Keeps texts named (change_grants what who (revoked rights))
  revoke-keeps what rights who = change_grants-keeps what who (revoked rights) (λ holder. revoked_changes rights holder (rights_on what))

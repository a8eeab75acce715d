-- OWNER TO leaves a catalogue in order: the grants go with the owner.
use Rattle.std.proofs.Common.{◌≡◌, Bool, true, false, ◌||◌, List, [], ◌∷◌, Option, Some, None, refl, ap, sym, subst, ◌∙◌, true≢false}
use Rattle.std.specs.FinMap.{get}
use Rattle.cat_model.specs.declared.grant.Owned.{Owned}
use Rattle.cat_model.specs.declared.grant.Owned.TheVariants as owned
use Rattle.cat_model.specs.declared.grant.Rights.{Rights}
use Rattle.cat_model.specs.declared.key.Key.{Key}
use Rattle.cat_model.specs.declared.key.Key.TheVariants as key
use Rattle.cat_model.specs.declared.object.Object.{Object}
use Rattle.cat_model.specs.declared.object.Object.TheVariants as object
use Rattle.cat_model.specs.declared.value.Value.TheVariants as value
use Rattle.cat_model.specs.Keys.{key_eq}
use Rattle.cat_model.specs.declared.value.Value.{Value}
use Rattle.cat_model.specs.Values.{Bytes, Named, Grants}
use Rattle.cat_model.specs.Grants.{joined}
use Rattle.cat_model.specs.Trees.{Change, changed, Tree, sets}
use Rattle.cat_model.specs.Conditions.{is_enum, is_domain, is_table_or_view, is_sequence, is_view}
use Rattle.cat_model.specs.ObjectEffects.{needs_owned, owned_object, grants_joined, owner_to}
use Rattle.cat_sound.specs.Texts.{Texts}
use Rattle.cat_sound.specs.Rights.{rights_of}
use Rattle.cat_sound.specs.Asked.{Asked, Meets, Passes, is_ownable, HasRights}
use Rattle.cat_sound.specs.Asks.{object_key, asks}
use Rattle.cat_sound.specs.Itself.{IsOwner, IsSchema, IsDatabase, has_owner}
use Rattle.cat_sound.specs.Sound.{IsMet, IsSound}
use Rattle.model_laws.proofs.Changes.{key_eq_self}
use Rattle.cat_sound.proofs.Asking.{IsUsual, all_usual, is_other}
use Rattle.cat_sound.proofs.Lists.{of_member}
use Rattle.cat_sound.proofs.Changes.{now, left, there_is, meets_is, is_touched, untouched_value}
use Rattle.cat_sound.proofs.Keeping.{IsGood, Answers, alike_answers}
use Rattle.cat_sound.proofs.JoinedGrants.{joined_items, joined_within, joined_roles}
use Rattle.cat_sound.proofs.NewGrants.{AreHolders, holders_met, met_holders}
use Rattle.cat_sound.proofs.Wholes.{keeps_aside}
use Rattle.cat_sound.proofs.TreeSteps.{Keeps, keeps_sets, keeps_look, keeps_needs, keeps_kind}

-- ---- what can have an owner

ownable_enum : (v : Value) → is_enum v ≡ true → is_ownable v ≡ true
ownable_enum (value.Enum labels) e = refl
ownable_enum _ e = cc

ownable_domain : (v : Value) → is_domain v ≡ true → is_ownable v ≡ true
ownable_domain (value.Domain d) e = refl
ownable_domain _ e = cc

ownable_relation : (v : Value) → is_table_or_view v || is_sequence v ≡ true → is_ownable v ≡ true
ownable_relation (value.Table columns) e = refl
ownable_relation (value.Sequence s) e = refl
ownable_relation value.View e = refl
ownable_relation _ e = cc

ownable_sequence : (v : Value) → is_sequence v ≡ true → is_ownable v ≡ true
ownable_sequence (value.Sequence s) e = refl
ownable_sequence _ e = cc

ownable_view : (v : Value) → is_view v ≡ true → is_ownable v ≡ true
ownable_view value.View e = refl
ownable_view _ e = cc

ownable_schema : (name : Bytes) (v : Value) → IsSchema name v → is_ownable v ≡ true
ownable_schema name value.Schema own = refl
ownable_schema name _ own = elim own [ ]

ownable_database : (v : Value) → IsDatabase v → is_ownable v ≡ true
ownable_database (value.Database encoding) own = refl
ownable_database _ own = elim own [ ]

owner_owned : (what : Owned) → has_owner (owned_object what) ≡ true
owner_owned (owned.Schema name) = refl
owner_owned (owned.Type q) = refl
owner_owned (owned.Domain q) = refl
owner_owned (owned.Table q) = refl
owner_owned (owned.Sequence q) = refl
owner_owned (owned.View q) = refl
owner_owned (owned.Database name) = refl

-- an object's key is that of neither its owner nor its grants
apart_owner : (o : Object) → key_eq (object_key o) (key.Owner o) ≡ false
apart_owner (object.Schema name) = refl
apart_owner (object.Type q) = refl
apart_owner (object.Relation q) = refl
apart_owner (object.Column q column) = refl
apart_owner (object.Constraint q name) = refl
apart_owner (object.Database name) = refl

pub apart_grants : (o : Object) → key_eq (object_key o) (key.Acl o) ≡ false
apart_grants (object.Schema name) = refl
apart_grants (object.Type q) = refl
apart_grants (object.Relation q) = refl
apart_grants (object.Column q column) = refl
apart_grants (object.Constraint q name) = refl
apart_grants (object.Database name) = refl

taken_by : (grants given : Grants) (o : Option Rights) → ((rights : Rights) → o ≡ Some rights → HasRights grants (Some rights) → HasRights given (Some rights)) → HasRights grants o → HasRights given o
taken_by grants given (Some rights) step h = step rights refl h
taken_by grants given None step h = elim h [ ]

takes_more : (grants given : Grants) (o : Option Value) → ((rights : Rights) → HasRights grants (Some rights) → HasRights given (Some rights)) → Passes o (Asked.takes grants) → Passes o (Asked.takes given)
takes_more grants given (Some v) step h = taken_by grants given (rights_of v) (λ rights e. step rights) h
takes_more grants given None step h = elim h [ ]

pub alike_grants : (before later : Grants) (a : Asked) → Meets a (value.Grants before) → Meets a (value.Grants later)
alike_grants before later Asked.there met = met
alike_grants before later _ met = met

module _ (texts : Texts) (named : Named) (sound : IsSound texts named) where
  -- where the step before an owner's change is taken, the object can have one
  keeps_owned : (what : Owned) {tree : Tree} → (IsMet named (object_key (owned_object what), Asked.ownable) → Keeps texts named tree) → Keeps texts named (needs_owned what tree)
  keeps_owned (owned.Schema name) step = keeps_needs sound (key.Schema name) (λ v is. step (meets_is named (key.Schema name) Asked.ownable v is (ownable_schema name v (sound.each (key.Schema name) v is).own)))
  keeps_owned (owned.Type q) step = keeps_kind sound _ (key.UserType q) (λ v is kind. step (meets_is named (key.UserType q) Asked.ownable v is (ownable_enum v kind)))
  keeps_owned (owned.Domain q) step = keeps_kind sound _ (key.UserType q) (λ v is kind. step (meets_is named (key.UserType q) Asked.ownable v is (ownable_domain v kind)))
  keeps_owned (owned.Table q) step = keeps_kind sound _ (key.Rel q) (λ v is kind. step (meets_is named (key.Rel q) Asked.ownable v is (ownable_relation v kind)))
  keeps_owned (owned.Sequence q) step = keeps_kind sound _ (key.Rel q) (λ v is kind. step (meets_is named (key.Rel q) Asked.ownable v is (ownable_sequence v kind)))
  keeps_owned (owned.View q) step = keeps_kind sound _ (key.Rel q) (λ v is kind. step (meets_is named (key.Rel q) Asked.ownable v is (ownable_view v kind)))
  keeps_owned (owned.Database name) step = keeps_needs sound (key.Database name) (λ v is. step (meets_is named (key.Database name) Asked.ownable v is (ownable_database v (sound.each (key.Database name) v is).own)))

  alike_owners : (o : Object) (old : Value) (role : Bytes) → IsOwner o old → (a : Asked) → is_other a ≡ false → Meets a old → Meets a (value.Owner role)
  alike_owners o (value.Owner before) role own (Asked.other_owner name) e met = cc
  alike_owners o (value.Owner before) role own Asked.there e met = met
  alike_owners o (value.Owner before) role own _ e met = met
  alike_owners o _ role own a e met = elim own [ ]

  -- who asked that the owner has another name is the grants, which aren't left untouched
  owner_answers : (o : Object) (role : Bytes) (cs : List Change) → ((u : Value) → is_touched cs (key.Acl o) ≡ false → get named (key.Acl o) ≡ Some u → ⊥) → Answers named cs (key.Owner o, Some (value.Owner role))
  owner_answers o role cs touched old a was met j u untouched is among = by (is_other a) refl
    where
      usual : IsUsual j (key.Owner o, a)
      usual = of_member (IsUsual j) (asks j u) (all_usual j u) (key.Owner o, a) among

      by : (other : Bool) → is_other a ≡ other → Meets a (value.Owner role)
      by false e = alike_owners o old role (sound.each (key.Owner o) old was).own a e met
      by true e =
          let who = usual.other e in
          let same : o ≡ who.0 = cc in
          let asker : j ≡ key.Acl o = who.1 ∙ ap key.Acl (sym same) in
          absurd (touched u (subst (λ (k : Key). is_touched cs k ≡ false) asker untouched) (subst (λ (k : Key). get named k ≡ Some u) asker is))

  owner_good : (o : Object) (role : Bytes) (cs : List Change) → has_owner o ≡ true → IsMet (changed cs named) (key.Role role, Asked.there) → IsMet (changed cs named) (object_key o, Asked.ownable) → ((u : Value) → is_touched cs (key.Acl o) ≡ false → get named (key.Acl o) ≡ Some u → ⊥) → IsGood texts named cs (key.Owner o, Some (value.Owner role))
  owner_good o role cs own one two touched = record { new = record { own = own; others = (one, (two, tt)) }; answers = owner_answers o role cs touched }

  -- an owner alone changes
  without_grants : (o : Object) (role : Bytes) → has_owner o ≡ true → IsMet named (key.Role role, Asked.there) → IsMet named (object_key o, Asked.ownable) → ((u : Value) → get named (key.Acl o) ≡ Some u → ⊥) → Keeps texts named (sets ((key.Owner o, Some (value.Owner role)) ∷ []))
  without_grants o role own one two none =
      let cs : List Change = (key.Owner o, Some (value.Owner role)) ∷ [] in
      let apart : is_touched cs (object_key o) ≡ false = rw (apart_owner o) refl in
      keeps_sets refl (keeps_aside texts named cs sound (refl, tt)
      (owner_good o role cs own (left cs named (key.Role role, Asked.there) refl one) (left cs named (object_key o, Asked.ownable) (untouched_value cs (object_key o) _ apart) two) (λ u untouched is. none u is), tt))

  -- and with the grants
  with_grants : (o : Object) (role : Bytes) (grants : Grants) → has_owner o ≡ true → IsMet named (key.Role role, Asked.there) → IsMet named (object_key o, Asked.ownable) → get named (key.Acl o) ≡ Some (value.Grants grants) → Keeps texts named (sets ((key.Owner o, Some (value.Owner role)) ∷ (key.Acl o, Some (value.Grants (joined role grants))) ∷ []))
  with_grants o role grants own one two is =
      let cs : List Change = (key.Owner o, Some (value.Owner role)) ∷ (key.Acl o, Some (value.Grants (joined role grants))) ∷ [] in
      let apart : is_touched cs (object_key o) ≡ false = rw (apart_owner o, apart_grants o) refl in
      let touched : is_touched cs (key.Acl o) ≡ true = rw key_eq_self refl in
      let before = sound.each (key.Acl o) (value.Grants grants) is in
      let holders : AreHolders named o grants = met_holders named o grants before.others.1.1 in
      let role_there : (name : Bytes) → IsMet named (key.Role name, Asked.there) → IsMet (changed cs named) (key.Role name, Asked.there) = λ name met. left cs named (key.Role name, Asked.there) refl met in
      keeps_sets refl (keeps_aside texts named cs sound (refl, (refl, tt)) (
        owner_good o role cs own (role_there role one) (left cs named (object_key o, Asked.ownable) (untouched_value cs (object_key o) _ apart) two) (λ u untouched at. absurd (true≢false (sym touched ∙ untouched))),
        (
          record {
            new = record {
              own = (before.own.0, joined_items grants role before.own.1);
              others = (
                left cs named (object_key o, Asked.takes (joined role grants)) (untouched_value cs (object_key o) _ apart) (takes_more grants (joined role grants) (get named (object_key o)) (joined_within grants role) before.others.0),
                (
                  now cs named (key.Owner o, Asked.there) (value.Owner role) (rw key_eq_self refl) tt,
                  holders_met (changed cs named) o (joined role grants) (λ name i at. record {
                    role = role_there name (holders name i (joined_roles grants role name i at).0).role;
                    other = now cs named (key.Owner o, Asked.other_owner name) (value.Owner role) (rw key_eq_self refl) (joined_roles grants role name i at).1;
                  }),
                ),
              );
            };
            answers = alike_answers named cs (key.Acl o) (value.Grants grants) (value.Grants (joined role grants)) is (alike_grants grants (joined role grants));
          },
          tt,
        ),
      ))

  grants_or_none : (o : Object) (role : Bytes) (v : Option Value) → get named (key.Acl o) ≡ v → has_owner o ≡ true → IsMet named (key.Role role, Asked.there) → IsMet named (object_key o, Asked.ownable) → Keeps texts named (sets ((key.Owner o, Some (value.Owner role)) ∷ grants_joined o role v))
  grants_or_none o role (Some (value.Grants grants)) is own one two = with_grants o role grants own one two is
  grants_or_none o role (Some v) is own one two = elim (sound.each (key.Acl o) v is).own [ ]
  grants_or_none o role None is own one two = without_grants o role own one two (λ u at. cc)

  pub owner_to-keeps : (what : Owned) (role : Bytes) → Keeps texts named (owner_to what role)
  owner_to-keeps what role =
      keeps_owned what (λ two.
      keeps_needs sound (key.Role role) (λ v one.
      keeps_look (key.Acl (owned_object what)) (λ grants is.
      grants_or_none (owned_object what) role grants is (owner_owned what) (there_is named (key.Role role) v one) two)))

-- Statements about roles and databases leave a catalogue in order.
use Rattle.std.proofs.Common.{◌≡◌, Bool, List, [], ◌∷◌, Option, Some, None, refl, unwrap_or}
use Rattle.std.specs.FinMap.{get}
use Rattle.cat_model.specs.declared.key.Key.TheVariants as key
use Rattle.cat_model.specs.declared.object.Object.TheVariants as object
use Rattle.cat_model.specs.declared.constraint.Encoding.TheVariants as encoding
use Rattle.cat_model.specs.declared.table.RoleChanges.{RoleChanges}
use Rattle.cat_model.specs.declared.value.Value.TheVariants as value
use Rattle.cat_model.specs.declared.value.Value.{Value}
use Rattle.cat_model.specs.declared.value.Role.{Role}
use Rattle.cat_model.specs.declared.value.Membership.{Membership}
use Rattle.cat_model.specs.Values.{Bytes, Named}
use Rattle.cat_model.specs.Trees.{Change, changed, sets}
use Rattle.cat_model.specs.RoleEffects.{create_role, alter_role, grant_role, create_database, new_role, role_changed, needs_grantor}
use Rattle.cat_sound.specs.Texts.{Texts}
use Rattle.cat_sound.specs.Asked.{Asked, Meets}
use Rattle.cat_sound.specs.Itself.{IsMember}
use Rattle.cat_sound.specs.Sound.{IsMet, IsSound}
use Rattle.model_laws.proofs.Changes.{key_eq_self}
use Rattle.cat_sound.proofs.Bools.{not_true}
use Rattle.cat_sound.proofs.Changes.{now, left, there_is}
use Rattle.cat_sound.proofs.Keeping.{new_answers, alike_answers, sorted_answers}
use Rattle.cat_sound.proofs.Wholes.{keeps_aside}
use Rattle.cat_sound.proofs.Needed.{none_without}
use Rattle.cat_sound.proofs.TreeSteps.{Keeps, keeps_sets, keeps_check, keeps_free, keeps_needs, keeps_role}

module _ (texts : Texts) (named : Named) (sound : IsSound texts named) where
  pub create_role-keeps : (name : Bytes) → Keeps texts named (create_role name)
  create_role-keeps name =
      keeps_free sound (key.Role name) (λ none.
      keeps_check sound _ _ (λ apart.
      let cs : List Change = (key.Role name, Some (value.Role new_role)) ∷ [] in
      keeps_sets refl (keeps_aside texts named cs sound (refl, tt)
      (record { new = record { own = not_true _ apart; others = tt }; answers = new_answers named cs (key.Role name, Some (value.Role new_role)) none }, tt))))

  -- all roles meet the same
  alike_roles : (r s : Role) (a : Asked) → Meets a (value.Role r) → Meets a (value.Role s)
  alike_roles r s Asked.there met = met
  alike_roles r s _ met = met

  pub alter_role-keeps : (name : Bytes) (changes : RoleChanges) → Keeps texts named (alter_role name changes)
  alter_role-keeps name changes =
      keeps_role sound name (λ r is.
      let cs : List Change = (key.Role name, Some (value.Role (role_changed changes r))) ∷ [] in
      keeps_sets refl (keeps_aside texts named cs sound (refl, tt) (
        record {
          new = record { own = (sound.each (key.Role name) (value.Role r) is).own; others = tt };
          answers = alike_answers named cs (key.Role name) (value.Role r) (value.Role (role_changed changes r)) is (alike_roles r (role_changed changes r));
        },
        tt,
      )))

  alike_members : (old : Value) (m : Membership) → IsMember old → (a : Asked) → Meets a old → Meets a (value.Member m)
  alike_members (value.Member n) m own Asked.there met = met
  alike_members (value.Member n) m own _ met = met
  alike_members _ m own a met = elim own [ ]

  member_kept : (boot role member grantor : Bytes) (m : Membership) → IsMet named (key.Role role, Asked.there) → IsMet named (key.Role member, Asked.there) → IsMet named (key.Role grantor, Asked.there) → IsSound texts (changed ((key.Member role member grantor, Some (value.Member m)) ∷ []) named)
  member_kept boot role member grantor m one two three =
      let cs : List Change = (key.Member role member grantor, Some (value.Member m)) ∷ [] in
      keeps_aside texts named cs sound (refl, tt) (
        record {
          new = record { own = tt; others = (left cs named (key.Role role, Asked.there) refl one, (left cs named (key.Role member, Asked.there) refl two, (left cs named (key.Role grantor, Asked.there) refl three, tt))) };
          answers = sorted_answers texts named cs (key.Member role member grantor) (value.Member m) sound.each (λ old own. alike_members old m own);
        },
        tt,
      )

  pub grant_role-keeps : (boot role member : Bytes) (grantor : Option Bytes) (admin : Bool) (inherit : Option Bool) (may_set : Bool) → IsMet named (key.Role boot, Asked.there) → Keeps texts named (grant_role boot role member grantor admin inherit may_set)
  grant_role-keeps boot role member grantor admin inherit may_set boot_there =
      keeps_needs sound (key.Role role) (λ v one.
      keeps_role sound member (λ r two.
      by grantor r (there_is named (key.Role role) v one) (there_is named (key.Role member) (value.Role r) two)))
    where
      by : (grantor : Option Bytes) (r : Role) → IsMet named (key.Role role, Asked.there) → IsMet named (key.Role member, Asked.there) → Keeps texts named (needs_grantor grantor (sets ((key.Member role member (unwrap_or grantor boot), Some (value.Member (record { admin = admin; inherit = unwrap_or inherit r.inherit; «set» = may_set }))) ∷ [])))
      by None r one two = keeps_sets refl (member_kept boot role member boot _ one two boot_there)
      by (Some name) r one two = keeps_needs sound (key.Role name) (λ v three. keeps_sets refl (member_kept boot role member name _ one two (there_is named (key.Role name) v three)))

  pub create_database-keeps : (boot name : Bytes) → IsMet named (key.Role boot, Asked.there) → Keeps texts named (create_database boot name)
  create_database-keeps boot name boot_there =
      keeps_free sound (key.Database name) (λ none.
      let o = object.Database name in
      let cs : List Change = (key.Database name, Some (value.Database encoding.Utf8)) ∷ (key.Owner o, Some (value.Owner boot)) ∷ [] in
      let no_owner : get named (key.Owner o) ≡ None = none_without texts named sound.each (key.Owner o) (key.Database name) refl none in
      keeps_sets refl (keeps_aside texts named cs sound (refl, (refl, tt)) (
        record {
          new = record { own = tt; others = (now cs named (key.Owner o, Asked.there) (value.Owner boot) (rw key_eq_self refl) tt, tt) };
          answers = new_answers named cs (key.Database name, Some (value.Database encoding.Utf8)) none;
        },
        (
          record {
            new = record { own = refl; others = (left cs named (key.Role boot, Asked.there) refl boot_there, (now cs named (key.Database name, Asked.ownable) (value.Database encoding.Utf8) (rw key_eq_self refl) refl, tt)) };
            answers = new_answers named cs (key.Owner o, Some (value.Owner boot)) no_owner;
          },
          tt,
        ),
      )))

-- The grants that a new owner's own join are in order.
use Rattle.std.proofs.Common.{◌≡◌, ◌⊎◌, Bool, true, false, cond, Option, Some, None, refl, ap, sym, subst, ◌∙◌, inl, inr}
use Rattle.std.specs.FinMap.{get, remove, get-insert, get-remove}
use Rattle.std.specs.Ordering.{eq_by_cmp}
use Rattle.cat_model.specs.declared.grant.Rights.{Rights}
use Rattle.cat_model.specs.declared.holder.Holder.{Holder}
use Rattle.cat_model.specs.declared.holder.Item.{Item}
use Rattle.cat_model.specs.declared.holder.Holder.TheVariants.{Owner as OWNER, Role as ROLE}
use Rattle.cat_model.specs.Values.{Bytes, Grants}
use Rattle.cat_model.specs.Holders.{holder_cmp}
use Rattle.cat_model.specs.HolderLaws.{holder_cmp_total, holder-self}
use Rattle.cat_model.specs.Lexemes.{same_text}
use Rattle.cat_model.proofs.MarkLaws.{same_text-equal}
use Rattle.cat_model.specs.Grants.{joined, join, both_items, item_or_none, both_rights}
use Rattle.cat_sound.specs.Rights.{is_within, IsItem, AreItems, AreWithin}
use Rattle.cat_sound.proofs.RightsWithin.{within_both, within_either, within_left, has_more}

-- ---- joining grants

-- options among the rights, also where there is no item
pub none_or_item : (grants : Grants) → AreItems grants → (h : Holder) → is_within (item_or_none (get grants h)).options (item_or_none (get grants h)).rights ≡ true
none_or_item grants items h = by (get grants h) refl
  where
    by : (o : Option Item) → get grants h ≡ o → is_within (item_or_none o).options (item_or_none o).rights ≡ true
    by (Some item) is = (items h item is).options
    by None is = refl

pub none_or_within : (grants : Grants) (rights : Rights) → AreWithin grants rights → (h : Holder) → is_within (item_or_none (get grants h)).rights rights ≡ true
none_or_within grants rights within h = by (get grants h) refl
  where
    by : (o : Option Item) → get grants h ≡ o → is_within (item_or_none o).rights rights ≡ true
    by (Some item) is = within h item is
    by None is = refl

module _ (grants : Grants) (role : Bytes) where
  -- what stands where after a role's item joined the owner's
  joined_at : (item : Item) (h : Holder) → get (join role (Some item) grants) h ≡ cond (eq_by_cmp holder_cmp h OWNER) (Some (both_items item (item_or_none (get grants OWNER)))) (cond (eq_by_cmp holder_cmp h (ROLE role)) None (get grants h))
  joined_at item h =
      get-insert holder_cmp_total (remove grants (ROLE role)) OWNER (both_items item (item_or_none (get grants OWNER))) h
      ∙ ap (cond (eq_by_cmp holder_cmp h OWNER) (Some (both_items item (item_or_none (get grants OWNER))))) (get-remove holder_cmp_total grants (ROLE role) h)

  -- an item of the new grants is one of the old ones, or the two joined
  pub record IsFrom (h : Holder) (i : Item) : Type 0 where
    pub from : (get grants h ≡ Some i) ⊎ ((mine : Item) × (get grants (ROLE role) ≡ Some mine) × (i ≡ both_items mine (item_or_none (get grants OWNER))))

  kept_at : (h : Holder) (i : Item) (gone : Bool) → cond gone None (get grants h) ≡ Some i → get grants h ≡ Some i
  kept_at h i true is = cc
  kept_at h i false is = is

  pub from_joined : (h : Holder) (i : Item) → get (joined role grants) h ≡ Some i → IsFrom h i
  from_joined h i is = by (get grants (ROLE role)) refl is
    where
      at : (mine : Item) → get grants (ROLE role) ≡ Some mine → (own : Bool) → cond own (Some (both_items mine (item_or_none (get grants OWNER)))) (cond (eq_by_cmp holder_cmp h (ROLE role)) None (get grants h)) ≡ Some i → IsFrom h i
      at mine was true e = record { from = inr (mine, was, cc) }
      at mine was false e = record { from = inl (kept_at h i (eq_by_cmp holder_cmp h (ROLE role)) e) }

      by : (o : Option Item) → get grants (ROLE role) ≡ o → get (join role o grants) h ≡ Some i → IsFrom h i
      by None was e = record { from = inl e }
      by (Some mine) was e = at mine was (eq_by_cmp holder_cmp h OWNER) (sym (joined_at mine h) ∙ e)

  pub joined_items : AreItems grants → AreItems (joined role grants)
  joined_items items h i is = by (from_joined h i is).from
    where
      by : (get grants h ≡ Some i) ⊎ ((mine : Item) × (get grants (ROLE role) ≡ Some mine) × (i ≡ both_items mine (item_or_none (get grants OWNER)))) → IsItem i
      by (inl was) = items h i was
      by (inr (mine, was, e)) = subst IsItem (sym e) (
          let own = item_or_none (get grants OWNER) in
          record {
            gives = has_more mine.rights (both_rights mine.rights own.rights) (within_left mine.rights own.rights) (items (ROLE role) mine was).gives;
            options = within_both mine.options mine.rights own.options own.rights (items (ROLE role) mine was).options (none_or_item grants items OWNER);
          })

  pub joined_within : (rights : Rights) → AreWithin grants rights → AreWithin (joined role grants) rights
  joined_within rights within h i is = by (from_joined h i is).from
    where
      by : (get grants h ≡ Some i) ⊎ ((mine : Item) × (get grants (ROLE role) ≡ Some mine) × (i ≡ both_items mine (item_or_none (get grants OWNER)))) → is_within i.rights rights ≡ true
      by (inl was) = within h i was
      by (inr (mine, was, e)) = subst (λ (j : Item). is_within j.rights rights ≡ true) (sym e)
          (within_either mine.rights (item_or_none (get grants OWNER)).rights rights (within (ROLE role) mine was) (none_or_within grants rights within OWNER))

  -- a role that has an item then isn't the new owner, and had it before
  pub joined_roles : (name : Bytes) (i : Item) → get (joined role grants) (ROLE name) ≡ Some i → (get grants (ROLE name) ≡ Some i) × (same_text role name ≡ false)
  joined_roles name i is = by (get grants (ROLE role)) refl is
    where
      apart : (same : Bool) → same_text role name ≡ same → (get grants (ROLE role) ≡ None) → (get grants (ROLE name) ≡ Some i) → same ≡ false
      apart true e none some =
          let equal : role ≡ name = same_text-equal role name e in
          let wrong : get grants (ROLE name) ≡ None = ap (λ (n : Bytes). get grants (ROLE n)) (sym equal) ∙ none in
          cc
      apart false e none some = refl

      gone : (same : Bool) → same_text role name ≡ same → cond (eq_by_cmp holder_cmp (ROLE name) (ROLE role)) None (get grants (ROLE name)) ≡ Some i → same ≡ false
      gone true e at =
          let equal : role ≡ name = same_text-equal role name e in
          let tied : eq_by_cmp holder_cmp (ROLE name) (ROLE role) ≡ true = ap (λ (n : Bytes). eq_by_cmp holder_cmp (ROLE name) (ROLE n)) equal ∙ holder-self (ROLE name) in
          let wrong : None ≡ Some i = ap (λ (b : Bool). cond b None (get grants (ROLE name))) (sym tied) ∙ at in
          cc
      gone false e at = refl

      by : (o : Option Item) → get grants (ROLE role) ≡ o → get (join role o grants) (ROLE name) ≡ Some i → (get grants (ROLE name) ≡ Some i) × (same_text role name ≡ false)
      by None was e = (e, apart (same_text role name) refl was e)
      by (Some mine) was e =
          let at : cond (eq_by_cmp holder_cmp (ROLE name) (ROLE role)) None (get grants (ROLE name)) ≡ Some i = sym (joined_at mine (ROLE name)) ∙ e in
          (kept_at (ROLE name) i (eq_by_cmp holder_cmp (ROLE name) (ROLE role)) at, gone (same_text role name) refl at)

-- What GRANT and REVOKE make of grants is in order.
use Rattle.std.proofs.Common.{◌≡◌, ◌⊎◌, Bool, true, false, cond, if◌then◌else◌, Some, None, refl, sym, subst, ◌∙◌, inl, inr}
use Rattle.std.specs.FinMap.{get, insert, remove, get-insert, get-remove}
use Rattle.std.specs.Ordering.{eq_by_cmp}
use Rattle.cat_model.specs.declared.grant.Rights.{Rights}
use Rattle.cat_model.specs.declared.holder.Holder.{Holder}
use Rattle.cat_model.specs.declared.holder.Item.{Item}
use Rattle.cat_model.specs.Values.{Grants}
use Rattle.cat_model.specs.Holders.{holder_cmp}
use Rattle.cat_model.specs.HolderLaws.{holder_cmp_total}
use Rattle.cat_model.specs.Grants.{with_item, granted, revoked, item_or_none, both_rights, rights_less, has_rights}
use Rattle.cat_sound.specs.Rights.{is_within, IsItem, AreItems, AreWithin}
use Rattle.cat_sound.proofs.JoinedGrants.{none_or_item, none_or_within}
use Rattle.cat_sound.proofs.RightsWithin.{within_both, within_either, within_left, within_then, within_less, less_within, within_same}

-- what stands where after an item was put or taken out
item_at : (grants : Grants) (holder : Holder) (item : Item) (h : Holder) → get (with_item grants holder item) h ≡ cond (eq_by_cmp holder_cmp h holder) (cond (has_rights item.rights) (Some item) None) (get grants h)
item_at grants holder item h = by (has_rights item.rights)
  where
    by : (has : Bool) → get (if has then insert grants holder item else remove grants holder) h ≡ cond (eq_by_cmp holder_cmp h holder) (cond has (Some item) None) (get grants h)
    by true = get-insert holder_cmp_total grants holder item h
    by false = get-remove holder_cmp_total grants holder h

-- an item of the changed grants is the one that was put, which has rights, or one of the old ones
abbrev pub IsPut : Grants → Holder → Item → Holder → Item → Type 0
IsPut grants holder item h i = ((eq_by_cmp holder_cmp h holder ≡ true) × (i ≡ item) × (has_rights item.rights ≡ true)) ⊎ ((eq_by_cmp holder_cmp h holder ≡ false) × (get grants h ≡ Some i))

put_of : (grants : Grants) (holder : Holder) (item : Item) (h : Holder) (i : Item) → get (with_item grants holder item) h ≡ Some i → IsPut grants holder item h i
put_of grants holder item h i is = by (eq_by_cmp holder_cmp h holder) refl (has_rights item.rights) refl (sym (item_at grants holder item h) ∙ is)
  where
    by : (same : Bool) → eq_by_cmp holder_cmp h holder ≡ same → (has : Bool) → has_rights item.rights ≡ has → cond same (cond has (Some item) None) (get grants h) ≡ Some i → IsPut grants holder item h i
    by true e true gives at = inl (e, cc, gives)
    by true e false gives at = cc
    by false e has gives at = inr (e, at)

module _ (grants : Grants) (holder : Holder) (item : Item) where
  put_items : AreItems grants → is_within item.options item.rights ≡ true → AreItems (with_item grants holder item)
  put_items items options h i is = by (put_of grants holder item h i is)
    where
      by : IsPut grants holder item h i → IsItem i
      by (inl (same, e, gives)) = subst IsItem (sym e) (record { gives = gives; options = options })
      by (inr (apart, was)) = items h i was

  put_within : (rights : Rights) → AreWithin grants rights → is_within item.rights rights ≡ true → AreWithin (with_item grants holder item) rights
  put_within rights within these h i is = by (put_of grants holder item h i is)
    where
      by : IsPut grants holder item h i → is_within i.rights rights ≡ true
      by (inl (same, e, gives)) = subst (λ (j : Item). is_within j.rights rights ≡ true) (sym e) these
      by (inr (apart, was)) = within h i was

  -- who has an item has it from before, or is the holder
  put_holder : (h : Holder) (i : Item) → get (with_item grants holder item) h ≡ Some i → (eq_by_cmp holder_cmp h holder ≡ true) ⊎ (get grants h ≡ Some i)
  put_holder h i is = by (put_of grants holder item h i is)
    where
      by : IsPut grants holder item h i → (eq_by_cmp holder_cmp h holder ≡ true) ⊎ (get grants h ≡ Some i)
      by (inl (same, e, gives)) = inl same
      by (inr (apart, was)) = inr was

-- what a change of one holder's item keeps
pub record IsChange (rights : Rights) (holder : Holder) (change : Grants → Grants) : Type 0 where
  pub items : (grants : Grants) → AreItems grants → AreItems (change grants)
  pub within : (grants : Grants) → AreWithin grants rights → AreWithin (change grants) rights
  pub holders : (grants : Grants) (h : Holder) (i : Item) → get (change grants) h ≡ Some i → (eq_by_cmp holder_cmp h holder ≡ true) ⊎ (get grants h ≡ Some i)

-- an item with these rights more, or less
abbrev more_rights : Item → Rights → Bool → Item
more_rights item rights option = record { rights = both_rights item.rights rights; options = if option then both_rights item.options rights else item.options }

abbrev fewer_rights : Item → Rights → Item
fewer_rights item rights = record { rights = rights_less item.rights rights; options = rights_less item.options rights }

option_within : (option : Bool) (item : Item) (rights : Rights) → is_within item.options item.rights ≡ true → is_within (more_rights item rights option).options (more_rights item rights option).rights ≡ true
option_within true item rights h = within_both item.options item.rights rights rights h (within_same rights)
option_within false item rights h = within_then item.options item.rights (both_rights item.rights rights) h (within_left item.rights rights)

abbrev old_item : Grants → Holder → Item
old_item grants holder = item_or_none (get grants holder)

pub granted_changes : (rights : Rights) (option : Bool) (holder : Holder) (on : Rights) → is_within rights on ≡ true → IsChange on holder (granted rights option holder)
granted_changes rights option holder on h = record {
  items = λ grants items. put_items grants holder (more_rights (old_item grants holder) rights option) items (option_within option (old_item grants holder) rights (none_or_item grants items holder));
  within = λ grants within. put_within grants holder (more_rights (old_item grants holder) rights option) on within (within_either (old_item grants holder).rights rights on (none_or_within grants on within holder) h);
  holders = λ grants. put_holder grants holder (more_rights (old_item grants holder) rights option);
}

pub revoked_changes : (rights : Rights) (holder : Holder) (on : Rights) → IsChange on holder (revoked rights holder)
revoked_changes rights holder on = record {
  items = λ grants items. put_items grants holder (fewer_rights (old_item grants holder) rights) items (less_within (old_item grants holder).options (old_item grants holder).rights rights (none_or_item grants items holder));
  within = λ grants within. put_within grants holder (fewer_rights (old_item grants holder) rights) on within (within_less (old_item grants holder).rights rights on (none_or_within grants on within holder));
  holders = λ grants. put_holder grants holder (fewer_rights (old_item grants holder) rights);
}

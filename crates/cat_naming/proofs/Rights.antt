-- Rights that add up, the items that have them, and the grants that items give.
use Rattle.std.proofs.Common.{◌≡◌, ℕ, ◌+◌, ◌<◌, Bool, true, false, cond, not, ◌||◌, List, [], ◌∷◌, ◌++◌, length, take, map, refl, sym, ap, ◌∙◌, arith}
use Rattle.std.specs.FinMap.{empty, insert, from_entries}
use Rattle.std.proofs.Math.ListN.{get_or}
use Rattle.std.proofs.lemmas.List.{take_more}
use Rattle.acl_text.specs.declared.list.AclItem.{AclItem}
use Rattle.acl_text.specs.declared.rights.Right.{Right}
use Rattle.cat_model.specs.declared.grant.Rights.{Rights}
use Rattle.cat_model.specs.Grants.{both_rights, no_rights}
use Rattle.cat_model.specs.declared.holder.Holder.{Holder}
use Rattle.cat_model.specs.declared.holder.Item.{Item}
use Rattle.cat_model.specs.Values.{Bytes, Grants, holder_cmp}
use Rattle.cat_names.specs.Grants.{one_right, right_option, listed_rights, listed_options, holder, item_of}
use Rattle.cat_names.specs.Rights.{giving, is_empty_list}
use Rattle.cat_naming.specs.Rights.{grant_entries, with_given}

or-assoc : (a b c : Bool) → (a || (b || c)) ≡ ((a || b) || c)
or-assoc true b c = refl
or-assoc false b c = refl

or-false : (a : Bool) → (a || false) ≡ a
or-false true = refl
or-false false = refl

both-assoc : (a b c : Rights) → both_rights a (both_rights b c) ≡ both_rights (both_rights a b) c
both-assoc a b c = λ i. record {
  select = or-assoc a.select b.select c.select i;
  usage = or-assoc a.usage b.usage c.usage i;
  insert = or-assoc a.insert b.insert c.insert i;
  references = or-assoc a.references b.references c.references i;
  delete = or-assoc a.delete b.delete c.delete i;
  trigger = or-assoc a.trigger b.trigger c.trigger i;
  truncate = or-assoc a.truncate b.truncate c.truncate i;
  update = or-assoc a.update b.update c.update i;
  create = or-assoc a.create b.create c.create i;
}

both-none : (a : Rights) → both_rights a no_rights ≡ a
both-none a = λ i. record {
  select = or-false a.select i;
  usage = or-false a.usage i;
  insert = or-false a.insert i;
  references = or-false a.references i;
  delete = or-false a.delete i;
  trigger = or-false a.trigger i;
  truncate = or-false a.truncate i;
  update = or-false a.update i;
  create = or-false a.create i;
}

-- one right more behind the others
pub rights-push : (rs : List Right) (r : Right) → listed_rights (rs ++ r ∷ []) ≡ both_rights (listed_rights rs) (one_right r.privilege)
rights-push [] r = both-none (one_right r.privilege)
rights-push (x ∷ rs) r = ap (both_rights (one_right x.privilege)) (rights-push rs r) ∙ both-assoc (one_right x.privilege) (listed_rights rs) (one_right r.privilege)

pub options-push : (rs : List Right) (r : Right) → listed_options (rs ++ r ∷ []) ≡ both_rights (listed_options rs) (right_option r)
options-push [] r = both-none (right_option r)
options-push (x ∷ rs) r = ap (both_rights (right_option x)) (options-push rs r) ∙ both-assoc (right_option x) (listed_options rs) (right_option r)

-- the same at a place of the rights
pub rights_more : (rs : List Right) (i : ℕ) (d : Right) → i < length rs → both_rights (listed_rights (take i rs)) (one_right (get_or rs i d).privilege) ≡ listed_rights (take (i + 1) rs)
rights_more rs i d h = sym (rights-push (take i rs) (get_or rs i d)) ∙ ap listed_rights (sym (take_more rs i d h))

pub options_more : (rs : List Right) (i : ℕ) (d : Right) → i < length rs → both_rights (listed_options (take i rs)) (right_option (get_or rs i d)) ≡ listed_options (take (i + 1) rs)
options_more rs i d h = sym (options-push (take i rs) (get_or rs i d)) ∙ ap listed_options (sym (take_more rs i d h))

-- ---- grants

-- grants with what items give in front of what they have
abbrev pub given_onto : Bytes → List AclItem → Grants → Grants
given_onto owner [] grants = grants
given_onto owner (i ∷ is) grants = with_given owner i (given_onto owner is grants)

pub given-push : (owner : Bytes) (is : List AclItem) (i : AclItem) (grants : Grants) → given_onto owner (is ++ i ∷ []) grants ≡ given_onto owner is (with_given owner i grants)
given-push owner [] i grants = refl
given-push owner (j ∷ is) i grants = ap (with_given owner j) (given-push owner is i grants)

-- onto no grants, they are the map of what the items give
pub given-empty : (owner : Bytes) (is : List AclItem) → given_onto owner is empty ≡ from_entries (grant_entries owner is)
given-empty owner [] = refl
given-empty owner (i ∷ is) = ap (with_given owner i) (given-empty owner is) ∙ by (is_empty_list i.rights)
  where
    by : (b : Bool) → cond b (from_entries (grant_entries owner is)) (insert (from_entries (grant_entries owner is)) (holder owner i.grantee) (item_of i))
        ≡ from_entries {R = holder_cmp} (map {B = Holder × Item} (λ (k : AclItem). (holder owner k.grantee, item_of k)) (cond {A = List AclItem} (not b) (i ∷ giving is) (giving is)))
    by true = refl
    by false = refl

-- an item without rights gives nothing, and each other one its holder's rights
pub without_rights : (owner : Bytes) (i : AclItem) (grants : Grants) → length i.rights ≡ 0 → with_given owner i grants ≡ grants
without_rights owner i grants e = by i.rights e
  where
    by : (rs : List Right) → length rs ≡ 0 → cond (is_empty_list rs) grants (insert grants (holder owner i.grantee) (item_of i)) ≡ grants
    by [] e = refl
    by (r ∷ rs) e = absurd (omega (arith, e))

pub with_rights : (owner : Bytes) (i : AclItem) (grants : Grants) → (length i.rights ≡ 0 → ⊥) → with_given owner i grants ≡ insert grants (holder owner i.grantee) (item_of i)
with_rights owner i grants e = by i.rights e
  where
    by : (rs : List Right) → (length rs ≡ 0 → ⊥) → cond (is_empty_list rs) grants (insert grants (holder owner i.grantee) (item_of i)) ≡ insert grants (holder owner i.grantee) (item_of i)
    by [] e = absurd (e refl)
    by (r ∷ rs) e = refl

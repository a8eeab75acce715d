use Rattle.std.proofs.Common.{◌≡◌, Bool, true, false, cond, Option, Some, None, refl, ap, ◌∙◌}
use Rattle.std.specs.Ordering.{eq_by_cmp}
use Rattle.std.specs.FinMap.{get, insert, remove, get-insert, get-remove}
use Rattle.cat_model.specs.Grants.{join, joined, both_items, item_or_none}
use Rattle.cat_model.specs.declared.holder.Holder.{Holder}
use Rattle.cat_model.specs.declared.holder.Item.{Item}
use Rattle.cat_model.specs.declared.holder.Holder.TheVariants.{Owner as OWNER, Role as ROLE}
use Rattle.cat_model.specs.Values.{Bytes, Grants, holder_cmp}
use Rattle.cat_model.specs.HolderLaws.{holder_cmp_total, holder-self}
use Rattle.model_laws.proofs.examples.new_owner_keeps_its_rights.Goals as goal

owner_has : (role : Bytes) (grants : Grants) (item : Item) → get grants (ROLE role) ≡ Some item → get (joined role grants) OWNER ≡ Some (both_items item (item_or_none (get grants OWNER)))
owner_has role grants item h =
    ap (λ (o : Option Item). get (join role o grants) OWNER) h
    ∙ get-insert holder_cmp_total (remove grants (ROLE role)) OWNER (both_items item (item_or_none (get grants OWNER))) OWNER

role_lacks : (role : Bytes) (grants : Grants) (item : Item) → get grants (ROLE role) ≡ Some item → get (joined role grants) (ROLE role) ≡ None
role_lacks role grants item h =
    ap (λ (o : Option Item). get (join role o grants) (ROLE role)) h
    ∙ get-insert holder_cmp_total (remove grants (ROLE role)) OWNER (both_items item (item_or_none (get grants OWNER))) (ROLE role)
    ∙ get-remove holder_cmp_total grants (ROLE role) (ROLE role)
    ∙ ap (λ (b : Bool). cond b None (get grants (ROLE role))) (holder-self (ROLE role))

pub returns : goal.returns
returns c = record {
  owner = owner_has;
  role = role_lacks;
  none = λ role grants h. ap (λ (o : Option Item). join role o grants) h;
}

use Rattle.std.proofs.Common.{◌≡◌, Bool, true, false, cond, Option, Some, None, refl, ap, ◌∙◌}
use Rattle.std.specs.Prelude.{if◌then◌else◌}
use Rattle.std.specs.FinMap.{get, insert, remove, get-insert, get-remove}
use Rattle.cat_model.specs.declared.grant.Rights.{Rights}
use Rattle.cat_model.specs.Grants.{revoked, with_item, rights_less, has_rights, item_or_none}
use Rattle.cat_model.specs.declared.holder.Holder.{Holder}
use Rattle.cat_model.specs.declared.holder.Item.{Item}
use Rattle.cat_model.specs.Values.{Grants}
use Rattle.cat_model.specs.HolderLaws.{holder_cmp_total, holder-self}
use Rattle.model_laws.proofs.examples.options_go_with_rights.Goals as goal

abbrev less : Rights → Item → Item
less rights item = record { rights = rights_less item.rights rights; options = rights_less item.options rights }

taken : (rights : Rights) (holder : Holder) (grants : Grants) (item : Item) → get grants holder ≡ Some item → get (revoked rights holder grants) holder ≡ get (with_item grants holder (less rights item)) holder
taken rights holder grants item h = ap (λ (o : Option Item). get (with_item grants holder (less rights (item_or_none o))) holder) h

stays : (rights : Rights) (holder : Holder) (grants : Grants) (item : Item) → get grants holder ≡ Some item → has_rights (rights_less item.rights rights) ≡ true → get (revoked rights holder grants) holder ≡ Some (less rights item)
stays rights holder grants item h e =
    taken rights holder grants item h
    ∙ ap (λ (b : Bool). get (if b then insert grants holder (less rights item) else remove grants holder) holder) e
    ∙ get-insert holder_cmp_total grants holder (less rights item) holder
    ∙ ap (λ (b : Bool). cond b (Some (less rights item)) (get grants holder)) (holder-self holder)

goes : (rights : Rights) (holder : Holder) (grants : Grants) (item : Item) → get grants holder ≡ Some item → has_rights (rights_less item.rights rights) ≡ false → get (revoked rights holder grants) holder ≡ None
goes rights holder grants item h e =
    taken rights holder grants item h
    ∙ ap (λ (b : Bool). get (if b then insert grants holder (less rights item) else remove grants holder) holder) e
    ∙ get-remove holder_cmp_total grants holder holder
    ∙ ap (λ (b : Bool). cond b None (get grants holder)) (holder-self holder)

pub returns : goal.returns
returns c = record { some = stays; none = goes }

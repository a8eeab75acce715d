-- What the items of a list of rights give.
use Rattle.std.specs.Prelude.{List, map, if◌then◌else◌}
use Rattle.std.specs.FinMap.{insert}
use Rattle.acl_text.specs.declared.list.AclItem.{AclItem}
use Rattle.cat_model.specs.declared.holder.Holder.{Holder}
use Rattle.cat_model.specs.declared.holder.Item.{Item}
use Rattle.cat_model.specs.Values.{Bytes, Grants}
use Rattle.cat_names.specs.Grants.{holder, item_of}
use Rattle.cat_names.specs.Rights.{giving, is_empty_list}

-- what items give, by holders
abbrev pub grant_entries : Bytes → List AclItem → List (Holder × Item)
grant_entries owner items = map (λ i. (holder owner i.grantee, item_of i)) (giving items)

-- grants in which an item's holder has what the item gives; an item without rights gives nothing
abbrev pub with_given : Bytes → AclItem → Grants → Grants
with_given owner item grants =
    if is_empty_list item.rights then grants
    else insert grants (holder owner item.grantee) (item_of item)

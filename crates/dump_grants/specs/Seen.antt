-- Who has rights, as the code holds it.
use Rattle.cat_model.specs.declared.holder.Item.{Item}
use Rattle.cat_model.specs.Values.{Bytes}
use Rattle.dump_grants.specs.declared.items.RoleItem.{RoleItem}

abbrev pub role_seen : RoleItem → Bytes × Item
role_seen r = (r.name.now, r.item)

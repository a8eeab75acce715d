-- Which rights there are on an object, and which grants are in order.
use Rattle.std.specs.Prelude.{◌≡◌, Bool, true, not, ◌&&◌, ◌||◌, Option, Some, None}
use Rattle.std.specs.FinMap.{get}
use Rattle.cat_model.specs.declared.grant.Rights.{Rights}
use Rattle.cat_model.specs.declared.grant.Granted.{Granted}
use Rattle.cat_model.specs.declared.grant.Granted.TheVariants as on
use Rattle.cat_model.specs.declared.value.Value.TheVariants as value
use Rattle.cat_model.specs.declared.value.Value.{Value}
use Rattle.cat_model.specs.declared.holder.Holder.{Holder}
use Rattle.cat_model.specs.declared.holder.Item.{Item}
use Rattle.cat_model.specs.Values.{Grants}
use Rattle.cat_model.specs.Grants.{table_rights, sequence_rights, schema_rights, type_rights, has_rights}

-- where the first is there, the second is
abbrev pub implies : Bool → Bool → Bool
implies a b = not a || b

-- each of the first rights is one of the second
abbrev pub is_within : Rights → Rights → Bool
is_within a b =
    implies a.select b.select && (implies a.usage b.usage && (implies a.insert b.insert && (implies a.references b.references
    && (implies a.delete b.delete && (implies a.trigger b.trigger && (implies a.truncate b.truncate && (implies a.update b.update
    && implies a.create b.create)))))))

-- the rights that there are on an object; None where it has no grants
abbrev pub rights_of : Value → Option Rights
rights_of value.Schema = Some schema_rights
rights_of (value.Enum labels) = Some type_rights
rights_of (value.Domain d) = Some type_rights
rights_of (value.Table columns) = Some table_rights
rights_of (value.Sequence s) = Some sequence_rights
rights_of value.View = Some table_rights
rights_of _ = None

-- the rights that a statement can name for a kind of object
abbrev pub rights_on : Granted → Rights
rights_on (on.Table q) = table_rights
rights_on (on.Sequence q) = sequence_rights
rights_on (on.Schema name) = schema_rights
rights_on (on.Type q) = type_rights

-- each item gives rights, and has the option of none but these
pub record IsItem (item : Item) : Type 0 where
  pub gives : has_rights item.rights ≡ true
  pub options : is_within item.options item.rights ≡ true

abbrev pub AreItems : Grants → Type 0
AreItems grants = (holder : Holder) (item : Item) → get grants holder ≡ Some item → IsItem item

-- all rights of the grants are among these
abbrev pub AreWithin : Grants → Rights → Type 0
AreWithin grants rights = (holder : Holder) (item : Item) → get grants holder ≡ Some item → is_within item.rights rights ≡ true

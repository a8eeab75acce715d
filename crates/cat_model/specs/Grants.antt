-- The grants on an object: what a new object has, and what GRANT, REVOKE and a new owner make of them.
-- https://www.postgresql.org/docs/16/ddl-priv.html
use Rattle.std.specs.Prelude.{Bool, true, false, ◌&&◌, ◌||◌, not, List, [], ◌∷◌, Option, Some, None, if◌then◌else◌}
use Rattle.std.specs.FinMap.{get, insert, remove, from_entries}
use Rattle.cat_model.specs.declared.grant.Rights.{Rights}
use Rattle.cat_model.specs.declared.grant.Grantee.{Grantee}
use Rattle.cat_model.specs.declared.grant.Grantee.TheVariants as grantee
use Rattle.cat_model.specs.Values.{Bytes, Holder, OWNER, PUBLIC, ROLE, Item, Grants}
use Rattle.cat_model.specs.Lexemes.{same_text}

abbrev pub no_rights : Rights
no_rights = record { select = false; usage = false; insert = false; references = false; delete = false; trigger = false; truncate = false; update = false; create = false }

-- all rights on a table or a view, a sequence, a schema, a type
abbrev pub table_rights : Rights
table_rights = record { select = true; usage = false; insert = true; references = true; delete = true; trigger = true; truncate = true; update = true; create = false }

abbrev pub sequence_rights : Rights
sequence_rights = record no_rights { select = true; usage = true; update = true }

abbrev pub schema_rights : Rights
schema_rights = record no_rights { usage = true; create = true }

abbrev pub type_rights : Rights
type_rights = record no_rights { usage = true }

abbrev pub both_rights : Rights → Rights → Rights
both_rights a b = record {
  select = a.select || b.select;
  usage = a.usage || b.usage;
  insert = a.insert || b.insert;
  references = a.references || b.references;
  delete = a.delete || b.delete;
  trigger = a.trigger || b.trigger;
  truncate = a.truncate || b.truncate;
  update = a.update || b.update;
  create = a.create || b.create;
}

-- the rights of the first without those of the second
abbrev pub rights_less : Rights → Rights → Rights
rights_less a b = record {
  select = a.select && not b.select;
  usage = a.usage && not b.usage;
  insert = a.insert && not b.insert;
  references = a.references && not b.references;
  delete = a.delete && not b.delete;
  trigger = a.trigger && not b.trigger;
  truncate = a.truncate && not b.truncate;
  update = a.update && not b.update;
  create = a.create && not b.create;
}

abbrev pub has_rights : Rights → Bool
has_rights r = r.select || r.usage || r.insert || r.references || r.delete || r.trigger || r.truncate || r.update || r.create

-- ---- the grants of a new object

-- the owner has all rights, and needs no option to grant them
abbrev pub without_option : Rights → Item
without_option rights = record { rights = rights; options = no_rights }

abbrev pub owner_only : Rights → Grants
owner_only rights = from_entries ((OWNER, without_option rights) ∷ [])

-- everyone may use a type
abbrev pub type_grants : Grants
type_grants = from_entries ((OWNER, without_option type_rights) ∷ (PUBLIC, without_option type_rights) ∷ [])

-- ---- changes

abbrev pub item_or_none : Option Item → Item
item_or_none (Some item) = item
item_or_none None = record { rights = no_rights; options = no_rights }

-- whose item a grantee's is: the owner has the owner's
abbrev pub holder_of : Bytes → Grantee → Holder
holder_of owner grantee.Public = PUBLIC
holder_of owner (grantee.Role name) = if same_text owner name then OWNER else ROLE name

-- an item without rights goes
abbrev pub with_item : Grants → Holder → Item → Grants
with_item grants holder item = if has_rights item.rights then insert grants holder item else remove grants holder

-- these rights more, with their option where it is given; an option that is there stays
abbrev pub granted : Rights → Bool → Holder → Grants → Grants
granted rights option holder grants =
    let item = item_or_none (get grants holder) in
    with_item grants holder (record { rights = both_rights item.rights rights; options = if option then both_rights item.options rights else item.options })

-- these rights less, and their options
abbrev pub revoked : Rights → Holder → Grants → Grants
revoked rights holder grants =
    let item = item_or_none (get grants holder) in
    with_item grants holder (record { rights = rights_less item.rights rights; options = rights_less item.options rights })

abbrev pub both_items : Item → Item → Item
both_items a b = record { rights = both_rights a.rights b.rights; options = both_rights a.options b.options }

abbrev pub join : Bytes → Option Item → Grants → Grants
join role None grants = grants
join role (Some item) grants = insert (remove grants (ROLE role)) OWNER (both_items item (item_or_none (get grants OWNER)))

-- a new owner's own item joins the owner's; the old owner gets none
abbrev pub joined : Bytes → Grants → Grants
joined role grants = join role (get grants (ROLE role)) grants

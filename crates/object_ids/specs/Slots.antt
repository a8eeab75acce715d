-- What has an oid of its own: the object of a key, a check of a domain, or a label of an enum.
use Rattle.std.specs.Prelude.{ℕ, ◌+◌, ◌==◌, if◌then◌else◌}
use Rattle.std.specs.declared.cmp.Ordering.{Ordering}
use Rattle.std.specs.Ordering.{nat_cmp, ordering_then}
use Rattle.cat_model.specs.declared.object.QName.{QName}
use Rattle.cat_model.specs.declared.key.Key.{Key}
use Rattle.cat_model.specs.declared.key.Key.TheVariants as key
use Rattle.cat_model.specs.Keys.{key_cmp, key_kind}
use Rattle.cat_model.specs.Values.{Bytes}

-- a part and a key
abbrev pub Slot : Type 0
Slot = ℕ × Key

-- the object of a key
abbrev pub object : Key → Slot
object k = (0, k)

-- a check of a domain, by the key that a constraint of a table at this path would have
abbrev pub check : QName → Bytes → Slot
check q name = (1, key.Con q name)

-- the label of an enum at a place, counted from 0
abbrev pub label : QName → ℕ → Slot
label q place = (place + 2, key.UserType q)

abbrev pub slot_cmp : Slot → Slot → Ordering
slot_cmp a b = ordering_then (nat_cmp a.0 b.0) (key_cmp a.1 b.1)

-- the table whose rows have these oids, as a number: by the kind of an object, that of constraints for checks, and one of
-- their own for labels
abbrev pub table_of : Slot → ℕ
table_of s = if s.0 == 0 then key_kind s.1 else (if s.0 == 1 then 7 else 16)

-- The oids of objects, of labels and of checks, as they were given; 0 for what has none.
use Rattle.std.specs.Prelude.{ℕ, ℤ, unwrap_or}
use Rattle.std.specs.FinMap.{get}
use Rattle.cat_model.specs.declared.object.QName.{QName}
use Rattle.cat_model.specs.Values.{Bytes}
use Rattle.named_tables.specs.Oids.{Oids}
use Rattle.named_objects.specs.Oids.{ObjectOids}
use Rattle.object_ids.specs.Slots.{Slot, object, check, label}
use Rattle.object_ids.specs.Ids.{IdsOf}

abbrev pub oid_of : IdsOf → Slot → ℕ
oid_of ids s = unwrap_or (get ids.ids s) 0

abbrev pub of_keys : IdsOf → Oids
of_keys ids k = oid_of ids (object k)

-- with the numbers of columns
abbrev pub oids_of : IdsOf → (QName → Bytes → ℤ) → ObjectOids
oids_of ids number = record { of = of_keys ids; label = λ q place. oid_of ids (label q place); check = λ q name. oid_of ids (check q name); number = number }

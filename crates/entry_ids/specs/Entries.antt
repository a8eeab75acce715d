-- What has oids of its own of what an entry of a catalogue says.
use Rattle.std.specs.Prelude.{◌≡◌, ℕ, ◌+◌, List, [], ◌∷◌, ◌++◌, map, false, Some, None, IsSome, if◌then◌else◌}
use Rattle.std.specs.FinMap.{get, entries}
use Rattle.std.specs.FinSet.{contains}
use Rattle.std.specs.List.{slice_get, flat_map}
use Rattle.cat_model.specs.declared.object.QName.{QName}
use Rattle.cat_model.specs.declared.key.Key.{Key}
use Rattle.cat_model.specs.declared.key.Key.TheVariants as key
use Rattle.cat_model.specs.declared.value.Value.TheVariants as value
use Rattle.cat_model.specs.Values.{Bytes}
use Rattle.cat_names.specs.Naming.{Entry}
use Rattle.named_tables.specs.Oids.{has_oid}
use Rattle.object_ids.specs.Slots.{Slot, object, check, label}
use Rattle.object_ids.specs.Ids.{IdsOf}

-- the object of its key, where that has an oid
abbrev pub object_slots : Key → List Slot
object_slots k = if has_oid k then object k ∷ [] else []

-- the checks of a domain, in the order of their names
abbrev pub check_slots : Entry → List Slot
check_slots (key.UserType q, value.Domain d) = map (λ c. check q c.0) (entries d.checks)
check_slots _ = []

-- the labels of an enum from a place on
abbrev pub labels_from : QName → ℕ → List Bytes → List Slot
labels_from q place [] = []
labels_from q place (l ∷ labels) = label q place ∷ labels_from q (place + 1) labels

abbrev pub label_slots : Entry → List Slot
label_slots (key.UserType q, value.Enum labels) = labels_from q 0 labels
label_slots _ = []

-- of all entries, objects and checks before labels
abbrev pub slots_of : List Entry → List Slot
slots_of es = flat_map (λ e. object_slots e.0 ++ check_slots e) es ++ flat_map label_slots es

-- each has an oid
abbrev pub HaveIds : IdsOf → List Slot → Type 0
HaveIds ids slots = (i : ℕ) (s : Slot) → slice_get slots i ≡ Some s → IsSome (get ids.ids s)

-- the oids of what had none before weren't in use then
abbrev pub AreUnused : IdsOf → IdsOf → Type 0
AreUnused before after = (s : Slot) (oid : ℕ) → get before.ids s ≡ None → get after.ids s ≡ Some oid → contains before.used oid ≡ false

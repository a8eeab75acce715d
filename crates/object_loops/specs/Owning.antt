-- The column that owns a sequence, where one does.
use Rattle.std.specs.Prelude.{Option, Some, None}
use Rattle.std.specs.FinMap.{get}
use Rattle.cat_model.specs.declared.object.QName.{QName}
use Rattle.cat_model.specs.declared.key.Key.TheVariants as key
use Rattle.cat_model.specs.declared.value.Value.{Value}
use Rattle.cat_model.specs.declared.value.Value.TheVariants as value
use Rattle.cat_model.specs.Values.{Bytes, Named}
use Rattle.cat_sound.specs.Itself.{IsOwningColumn}

-- the table and the column
abbrev pub owning_in : Option Value → Option (QName × Bytes)
owning_in (Some (value.OwnedBy table column)) = Some (table, column)
owning_in _ = None

-- nothing else stands where the column that owns a sequence does
abbrev pub IsOwned : Option Value → Type 0
IsOwned None = Unit {0}
IsOwned (Some v) = IsOwningColumn v

abbrev pub AreOwned : Named → Type 0
AreOwned named = (q : QName) → IsOwned (get named (key.OwnedBy q))

-- The column that owns a sequence, where one does.
use Rattle.std.proofs.Common.{Option, Some, None}
use Rattle.cat_model.specs.declared.value.Value.{Value}
use Rattle.cat_model.specs.declared.value.Value.TheVariants as value
use Rattle.object_export.specs.Oids.{ObjectOids}
use Rattle.map_export.specs.Making.{IsRowOf}
use Rattle.object_rows.specs.declared.parts.ColumnPlace.{ColumnPlace}
use Rattle.object_rows.specs.Places.{IsColumnPlace, IsOwningColumn}
use Rattle.object_loops.specs.Owning.{owning_in, IsOwned}

pub owning : (oids : ObjectOids) (v : Option Value) (at : Option ColumnPlace) → IsOwned v → IsRowOf (λ c at. IsColumnPlace oids c.0 c.1 at) (owning_in v) at → IsOwningColumn oids v at
owning oids None None owned is = tt
owning oids None (Some at) owned is = absurd is
owning oids (Some (value.OwnedBy table column)) (Some at) owned is = is
owning oids (Some (value.OwnedBy table column)) None owned is = absurd is
owning oids (Some v) at owned is = absurd owned

-- Which column owns a sequence, and what a comment is on, by oids.
use Rattle.std.specs.Prelude.{◌≡◌, pos, Option, Some, None}
use Rattle.cat_model.specs.declared.key.Key.TheVariants as key
use Rattle.cat_model.specs.declared.object.Object.{Object}
use Rattle.cat_model.specs.declared.object.Object.TheVariants as object
use Rattle.cat_model.specs.declared.object.QName.{QName}
use Rattle.cat_model.specs.declared.value.Value.{Value}
use Rattle.cat_model.specs.declared.value.Value.TheVariants as value
use Rattle.cat_model.specs.Values.{Bytes}
use Rattle.named_objects.specs.Oids.{ObjectOids}
use Rattle.object_rows.specs.declared.parts.ColumnPlace.{ColumnPlace}
use Rattle.object_rows.specs.declared.parts.Place.{Place}
use Rattle.object_rows.specs.declared.parts.Place.TheVariants as place

-- a column of a table
pub record IsColumnPlace (oids : ObjectOids) (table : QName) (column : Bytes) (at : ColumnPlace) : Type 0 where
  pub relation : oids.of (key.Rel table) ≡ at.relation
  pub number : oids.number table column ≡ at.number

-- the place of a column; one without a table where there is none
abbrev pub place_or_none : Option ColumnPlace → ColumnPlace
place_or_none None = record { relation = 0; number = pos 0 }
place_or_none (Some at) = at

-- the column that owns a sequence, where one does
abbrev pub IsOwningColumn : ObjectOids → Option Value → Option ColumnPlace → Type 0
IsOwningColumn oids None None = Unit {0}
IsOwningColumn oids (Some (value.OwnedBy table column)) (Some at) = IsColumnPlace oids table column at
IsOwningColumn oids _ _ = ⊥

-- what a comment is on
abbrev pub IsPlacedOn : ObjectOids → Object → Place → Type 0
IsPlacedOn oids (object.Schema name) (place.Schema oid) = oids.of (key.Schema name) ≡ oid
IsPlacedOn oids (object.Type q) (place.Type oid) = oids.of (key.UserType q) ≡ oid
IsPlacedOn oids (object.Relation q) (place.Relation oid) = oids.of (key.Rel q) ≡ oid
IsPlacedOn oids (object.Column q column) (place.Column at) = IsColumnPlace oids q column at
IsPlacedOn oids (object.Constraint q name) (place.Constraint oid) = oids.of (key.Con q name) ≡ oid
IsPlacedOn oids _ _ = ⊥

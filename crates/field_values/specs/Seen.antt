-- The code's types of fields beside those of the definitions: a length greater than any that a number of 64 bits
-- holds stands as the greatest of these, which no text reaches.
use Rattle.std.specs.Prelude.{ℕ, min, Option, Some, None}
use Rattle.cat_model.specs.FieldTypes as says
use Rattle.field_values.specs.declared.field_type.FieldType.{FieldType}
use Rattle.field_values.specs.declared.field_type.FieldType.TheVariants.{Boolean, SmallInt, Integer, BigInt, Oid, Bytea, Varying, Character, Opaque}

abbrev pub longest : ℕ
longest = 18446744073709551615

abbrev pub seen : says.FieldType → FieldType
seen says.boolean = Boolean
seen says.smallint = SmallInt
seen says.integer = Integer
seen says.bigint = BigInt
seen says.oid = Oid
seen says.bytea = Bytea
seen (says.varying n) = Varying (min n longest)
seen (says.character n) = Character (min n longest)
seen says.opaque = Opaque

-- a type with a length, and any other type without one
abbrev pub with_limit : (ℕ → FieldType) → Option ℕ → FieldType
with_limit make (Some n) = make n
with_limit make None = Opaque

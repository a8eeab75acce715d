-- The catalogue by names: one finite map from keys to values. No oid occurs in it.
-- The values are those of the code; a key of each kind has values of its own.
use Rattle.std.specs.Prelude.{List, Option}
use Rattle.std.specs.FinMap.{FinMap}
use Rattle.cat_model.specs.Keys.{key_cmp}
pub use Rattle.cat_model.specs.Holders.{Bytes, bytes_cmp, holder_code, holder_cmp}
pub use Rattle.cat_model.specs.declared.holder.Holder.{Holder}
pub use Rattle.cat_model.specs.declared.holder.Holder.TheVariants.{Owner as OWNER, Public as PUBLIC, Role as ROLE}
pub use Rattle.cat_model.specs.declared.holder.Item.{Item}
pub use Rattle.cat_model.specs.declared.value.Role.{Role}
pub use Rattle.cat_model.specs.declared.value.Membership.{Membership}
pub use Rattle.cat_model.specs.declared.value.Resolved.{Resolved}
pub use Rattle.cat_model.specs.declared.value.Domain.{Domain}
pub use Rattle.cat_model.specs.declared.value.Column.{Column}
pub use Rattle.cat_model.specs.declared.value.Sequence.{Sequence}
pub use Rattle.cat_model.specs.declared.value.Constraint.{Constraint}
pub use Rattle.cat_model.specs.declared.value.Index.{Index}
pub use Rattle.cat_model.specs.declared.value.Value.{Value}
pub use Rattle.cat_model.specs.declared.value.Value.TheVariants.{Role as role, Member as member, Schema as schema, Enum as enum, Domain as domain, Table as table, Sequence as sequence, View as view, IndexOf as index_of, Owner as owner, DefaultText as default_text, Constraint as constraint, Index as index, Rows as rows, SequenceValue as sequence_value, OwnedBy as owned_by, Grants as grants, Comment as comment, Body as body, Database as database}

-- the rights on an object
abbrev pub Grants : Type 0
Grants = FinMap holder_cmp Item

-- a field of a row is null or a text
abbrev pub Row : Type 0
Row = List (Option Bytes)

-- the catalogue by names
abbrev pub Named : Type 0
Named = FinMap key_cmp Value

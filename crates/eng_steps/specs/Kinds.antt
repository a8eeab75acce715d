-- The kinds of objects that statements ask for.
use Rattle.std.specs.Prelude.{Bool, ◌||◌}
use Rattle.cat_model.specs.declared.value.Value.{Value}
use Rattle.cat_model.specs.Conditions.{is_enum, is_domain, is_type, is_table, is_view, is_table_or_view, is_sequence, is_index}
use Rattle.eng_steps.specs.declared.condition.ObjectKind.{ObjectKind}
use Rattle.eng_steps.specs.declared.condition.ObjectKind.TheVariants.{Enum, Domain, EnumOrDomain, Table, View, TableOrView, Owned, Sequence, Index}

abbrev pub is_of : ObjectKind → Value → Bool
is_of Enum = is_enum
is_of Domain = is_domain
is_of EnumOrDomain = is_type
is_of Table = is_table
is_of View = is_view
is_of TableOrView = is_table_or_view
is_of Owned = λ v. is_table_or_view v || is_sequence v
is_of Sequence = is_sequence
is_of Index = is_index

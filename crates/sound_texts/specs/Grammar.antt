-- The texts that are good by the grammar of statements: those that it writes and reads.
use Rattle.std.specs.Prelude.{Bool, ◌&&◌}
use Rattle.copy_text.specs.Texts.{is_name}
use Rattle.cat_model.specs.declared.constraint.ConstraintKind.{ConstraintKind}
use Rattle.cat_model.specs.declared.constraint.ConstraintKind.TheVariants as kinds
use Rattle.cat_model.specs.declared.value.Constraint.{Constraint}
use Rattle.ddl_laws.specs.Rests.{deferral, reactions}
use Rattle.cat_sound.specs.Texts.{Texts}
use Rattle.sound_texts.specs.Tests.{is_type, is_default, is_expression, is_bracketed, is_path, are_columns, is_rest, is_parent}

-- what ALTER TABLE .. ADD CONSTRAINT says of a constraint of this kind
abbrev pub is_of_kind : Constraint → ConstraintKind → Bool
is_of_kind c kinds.Primary = are_columns c.columns && is_rest deferral c.text
is_of_kind c kinds.Unique = are_columns c.columns && is_rest deferral c.text
is_of_kind c kinds.Foreign = are_columns c.columns && (is_parent c.parent && is_rest reactions c.text)
is_of_kind c kinds.Check = is_expression c.text

abbrev pub grammar : Texts
grammar = record {
  type = is_type;
  expression = is_default;
  constraint = λ c. is_of_kind c c.kind;
  index = λ q name i. is_path q && (is_name name && (is_name i.method && is_bracketed i.text));
  body = is_expression;
}

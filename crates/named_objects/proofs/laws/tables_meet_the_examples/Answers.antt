use Rattle.std.proofs.Common.{refl, ap, ◌==◌, true≢false, ℤ, pos}
use Rattle.sql_lex.specs.Next.{tokens_within, tokens_of}
use Rattle.constraint_table.proofs.Computing.{reads}
use Rattle.row_texts.specs.IndexTexts.{named_index, index_text, index_said}
use Rattle.cat_names.specs.Lookups.{role_name}
use Rattle.cat_names.specs.Grants.{grants_of}
use Rattle.row_texts.specs.DefaultTexts.{default_said}
use Rattle.row_texts.specs.Tokens.{all_tokens}
use Rattle.row_texts.specs.TypeTexts.{type_named}
use Rattle.row_texts.specs.SequenceTypes.{sequence_type, sequence_kind}
use Rattle.row_texts.specs.ViewTexts.{view_text, view_body}
use Rattle.oid_groups.specs.Orders.{placed, by_number}
use Rattle.cat_naming.specs.Ends.{resolved_within}
use Rattle.std.specs.Ordering.{int_eq}
use Rattle.named_objects.proofs.Small.{empty_stands}
use Rattle.named_objects.proofs.laws.tables_meet_the_examples.Goals as goal

pub returns-clause-empty : goal.returns-clause-empty
returns-clause-empty c = empty_stands

pub returns-clause-rows : goal.returns-clause-rows
unfolding reads all_tokens default_said tokens_within tokens_of named_index index_text index_said role_name grants_of type_named sequence_type sequence_kind view_text view_body placed by_number resolved_within
returns-clause-rows c = record {
  enum = record { letter = refl; base = refl };
  label = refl;
  domain = record { letter = refl; not_null = refl; base = refl; base_text = refl; default_text = (refl, refl) };
  column = record { relation = refl; number = refl; name = refl; type = refl; type_text = refl; not_null = refl };
  «default» = record { oid = refl; relation = refl; number = refl; expression = refl; said = refl };
  primary = record { oid = refl; name = refl; letter = refl; table = refl; no_domain = refl; index = refl; parent = refl; said = refl };
  check = record { oid = refl; name = refl; letter = refl; no_table = refl; domain = refl; no_index = refl; no_parent = refl; said = refl };
  index = record { relation = refl; table = refl; unique = refl; said = refl };
  owner = (refl, refl);
  body = record { oid = refl; view = refl; said = refl };
  comment = record { place = record { in_table = refl; of_oid = refl; of_number = refl }; text = refl };
}

pub returns-clause-others : goal.returns-clause-others
returns-clause-others c = record {
  kind = λ is. true≢false (ap (λ n. n == 100) is.letter);
  type = λ is. true≢false (ap (λ n. n == 20000) is.type);
  number = λ is. true≢false (ap (λ (n : ℤ). int_eq n (pos 2)) is.place.of_number);
  other_default = λ is. is.default_text;
  no_index = λ is. true≢false (ap (λ n. n == 0) is.index);
}

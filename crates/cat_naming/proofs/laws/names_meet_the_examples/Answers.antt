use Rattle.std.proofs.Common.{refl}
use Rattle.sql_lex.specs.Next.{tokens_within, tokens_of}
use Rattle.constraint_table.proofs.Computing.{reads}
use Rattle.row_texts.specs.IndexTexts.{named_index, index_text, index_said}
use Rattle.cat_names.specs.Lookups.{role_name}
use Rattle.cat_names.specs.Grants.{grants_of}
use Rattle.row_texts.specs.DefaultTexts.{default_said}
use Rattle.row_texts.specs.Tokens.{all_tokens}
use Rattle.row_texts.specs.TypeTexts.{type_named}
use Rattle.row_texts.specs.SequenceTypes.{sequence_type, sequence_kind}
use Rattle.row_texts.specs.ViewTexts.{view_text, view_body}
use Rattle.oid_groups.specs.Orders.{placed, by_number}
use Rattle.cat_lookups.specs.Ends.{resolved_within}
use Rattle.cat_naming.proofs.laws.names_meet_the_examples.Goals as goal

pub returns-clause-types : goal.returns-clause-types
unfolding reads all_tokens default_said tokens_within tokens_of named_index index_text index_said role_name grants_of type_named sequence_type sequence_kind view_text view_body placed by_number resolved_within
returns-clause-types c = record {
  enum = refl;
  domain = refl;
}

pub returns-clause-relations : goal.returns-clause-relations
unfolding reads all_tokens default_said tokens_within tokens_of named_index index_text index_said role_name grants_of type_named sequence_type sequence_kind view_text view_body placed by_number resolved_within
returns-clause-relations c = record {
  gaps_close = refl;
  table = refl;
  view = refl;
  index_of_a_key = refl;
  owner_of_a_sequence = refl;
  sequence = refl;
  body = refl;
  «default» = refl;
  comment = refl;
}

pub returns-clause-constraints : goal.returns-clause-constraints
unfolding reads all_tokens default_said tokens_within tokens_of named_index index_text index_said role_name grants_of type_named sequence_type sequence_kind view_text view_body placed by_number resolved_within
returns-clause-constraints c = record {
  primary = refl;
  check_of_a_domain = refl;
  index = refl;
}

pub returns-clause-renamed : goal.returns-clause-renamed
unfolding reads all_tokens default_said tokens_within tokens_of named_index index_text index_said role_name grants_of type_named sequence_type sequence_kind view_text view_body placed by_number resolved_within
returns-clause-renamed c = record {
  other_oid = refl;
  other_number = refl;
}

use Rattle.std.proofs.Common.{refl}
use Rattle.sql_lex.specs.Next.{tokens_within, tokens_of}
use Rattle.cat_model.specs.Lexemes.{lexemes}
use Rattle.cat_model.specs.IndexColumns.{plain_columns}
use Rattle.cat_model.specs.References.{expression_references, view_references}
use Rattle.ddl_scripts.proofs.Computing.{reads}
use Rattle.cat_names.specs.Findings.{first_from}
use Rattle.cat_names.specs.Lookups.{role_name}
use Rattle.cat_names.specs.Rights.{has_bad_item}
use Rattle.cat_book.specs.Chains.{ends_within}
use Rattle.row_texts.specs.Tokens.{all_tokens}
use Rattle.row_texts.specs.TypeTexts.{type_named}
use Rattle.row_texts.specs.DefaultTexts.{default_said, is_default}
use Rattle.row_texts.specs.IndexTexts.{named_index, index_text, index_said}
use Rattle.row_texts.specs.SequenceTypes.{sequence_type, sequence_kind}
use Rattle.row_texts.specs.ViewTexts.{view_text, view_body}
use Rattle.constraint_table.specs.Said.{constraint_said}
use Rattle.well_formed.specs.Catalogues.{table_fault, first_in}
use Rattle.table_laws.proofs.laws.catalogues_meet_the_examples.Goals as goal

pub returns-clause-clean : goal.returns-clause-clean
unfolding reads tokens_within tokens_of lexemes plain_columns expression_references view_references first_from role_name has_bad_item ends_within all_tokens type_named default_said is_default named_index index_text index_said sequence_type sequence_kind view_text view_body constraint_said first_in table_fault
returns-clause-clean c = record {
  new_cluster = refl;
  rows_in_each = refl;
}

pub returns-clause-schemas : goal.returns-clause-schemas
unfolding reads tokens_within tokens_of lexemes plain_columns expression_references view_references first_from role_name has_bad_item ends_within all_tokens type_named default_said is_default named_index index_text index_said sequence_type sequence_kind view_text view_body constraint_said first_in table_fault
returns-clause-schemas c = record {
  second_oid = refl;
  no_owner = refl;
}

pub returns-clause-types : goal.returns-clause-types
unfolding reads tokens_within tokens_of lexemes plain_columns expression_references view_references first_from role_name has_bad_item ends_within all_tokens type_named default_said is_default named_index index_text index_said sequence_type sequence_kind view_text view_body constraint_said first_in table_fault
returns-clause-types c = record {
  cycle = refl;
}

pub returns-clause-defaults : goal.returns-clause-defaults
unfolding reads tokens_within tokens_of lexemes plain_columns expression_references view_references first_from role_name has_bad_item ends_within all_tokens type_named default_said is_default named_index index_text index_said sequence_type sequence_kind view_text view_body constraint_said first_in table_fault
returns-clause-defaults c = record {
  second_of_a_column = refl;
}

pub returns-clause-constraints : goal.returns-clause-constraints
unfolding reads tokens_within tokens_of lexemes plain_columns expression_references view_references first_from role_name has_bad_item ends_within all_tokens type_named default_said is_default named_index index_text index_said sequence_type sequence_kind view_text view_body constraint_said first_in table_fault
returns-clause-constraints c = record {
  index_of_another_name = refl;
  no_type = refl;
}

pub returns-clause-views : goal.returns-clause-views
unfolding reads tokens_within tokens_of lexemes plain_columns expression_references view_references first_from role_name has_bad_item ends_within all_tokens type_named default_said is_default named_index index_text index_said sequence_type sequence_kind view_text view_body constraint_said first_in table_fault
returns-clause-views c = record {
  no_relation = refl;
}

pub returns-clause-notes : goal.returns-clause-notes
unfolding reads tokens_within tokens_of lexemes plain_columns expression_references view_references first_from role_name has_bad_item ends_within all_tokens type_named default_said is_default named_index index_text index_said sequence_type sequence_kind view_text view_body constraint_said first_in table_fault
returns-clause-notes c = record {
  second_comment = refl;
  identity = refl;
  earlier_table = refl;
}

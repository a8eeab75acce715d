use Rattle.std.proofs.Common.{refl}
use Rattle.sql_lex.specs.Next.{tokens_within, tokens_of}
use Rattle.cat_model.specs.Lexemes.{lexemes}
use Rattle.cat_model.specs.IndexColumns.{plain_columns}
use Rattle.cat_model.specs.References.{expression_references}
use Rattle.ddl_scripts.proofs.Computing.{reads}
use Rattle.cat_names.specs.Findings.{first_from}
use Rattle.row_texts.specs.Tokens.{all_tokens}
use Rattle.row_texts.specs.DefaultTexts.{default_said, is_default}
use Rattle.row_texts.specs.IndexTexts.{named_index, index_text, index_said}
use Rattle.constraint_table.specs.Said.{constraint_said}
use Rattle.well_formed.specs.Catalogues.{table_fault}
use Rattle.table_laws.proofs.laws.constraints_meet_the_examples.Goals as goal

pub returns-clause-texts : goal.returns-clause-texts
unfolding reads tokens_within tokens_of default_said is_default constraint_said
returns-clause-texts c = record {
  primary = refl;
  unique = refl;
  foreign = refl;
  check = refl;
  semicolon = refl;
  second = refl;
  open_bracket = refl;
  late_update = refl;
  other = refl;
  empty = refl;
}

pub returns-clause-rows : goal.returns-clause-rows
unfolding reads tokens_within tokens_of lexemes plain_columns expression_references first_from all_tokens default_said is_default named_index index_text index_said constraint_said table_fault
returns-clause-rows c = record {
  none = refl;
  second_oid = refl;
  second_name = refl;
  of_another_table = refl;
  of_a_domain = refl;
  no_table = refl;
  of_an_index = refl;
  no_domain = refl;
  of_nothing = refl;
  of_both = refl;
  key_of_a_domain = refl;
  no_oid = refl;
  exclusion = refl;
}

pub returns-clause-keys : goal.returns-clause-keys
unfolding reads tokens_within tokens_of lexemes plain_columns expression_references first_from all_tokens default_said is_default named_index index_text index_said constraint_said table_fault
returns-clause-keys c = record {
  both = refl;
  no_index = refl;
  another_name = refl;
  another_schema = refl;
  two_of_an_index = refl;
  two_of_a_table = refl;
  no_column = refl;
  column_twice = refl;
  another_kind = refl;
}

pub returns-clause-foreign_keys : goal.returns-clause-foreign_keys
unfolding reads tokens_within tokens_of lexemes plain_columns expression_references first_from all_tokens default_said is_default named_index index_text index_said constraint_said table_fault
returns-clause-foreign_keys c = record {
  to_an_index = refl;
  to_a_primary = refl;
  to_a_unique = refl;
  to_no_key = refl;
  to_another_table = refl;
  no_parent = refl;
  another_parent = refl;
  fewer = refl;
  no_column = refl;
  column_twice = refl;
}

pub returns-clause-checks : goal.returns-clause-checks
unfolding reads tokens_within tokens_of lexemes plain_columns expression_references first_from all_tokens default_said is_default named_index index_text index_said constraint_said table_fault
returns-clause-checks c = record {
  of_a_domain = refl;
  relation = refl;
  no_relation = refl;
  no_type = refl;
}

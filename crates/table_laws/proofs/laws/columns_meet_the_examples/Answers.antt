use Rattle.std.proofs.Common.{refl}
use Rattle.std.specs.Str.{is_utf8, chars}
use Rattle.std.proofs.Math.Utf8.{encode}
use Rattle.sql_lex.specs.Bytes.{is_blank, is_digit, begins_word, in_word, is_sign, marks_escapes, in_line, next_is}
use Rattle.sql_lex.specs.Ends.{run_end, quote_end, escape_end, comment_end, fraction_end, number_end}
use Rattle.sql_lex.specs.Pieces.{begins_line, closed, begun, in_utf8, piece_at}
use Rattle.sql_lex.specs.Next.{next_within, next_token_of, tokens_within, tokens_of}
use Rattle.sql_lex.specs.Meaning.{inside, undoubled, name_of, literal_of, is_keyword_of, spelling}
use Rattle.cat_model.specs.Lexemes.{lexemes}
use Rattle.cat_model.specs.References.{expression_references}
use Rattle.cat_names.specs.Findings.{first_from}
use Rattle.ddl_scripts.specs.Lexemes.{is_word, is_sign as sign_of}
use Rattle.ddl_scripts.specs.Leaves.{name_in, name_value}
use Rattle.ddl_scripts.specs.Parts.{scan}
use Rattle.ddl_scripts.specs.Expressions.{ends_run, nest_step, nest_done, default_text}
use Rattle.ddl_scripts.specs.Types.{type_step, type_done, type_long, is_type_word, is_number, type_of, type_part}
use Rattle.row_texts.specs.Tokens.{all_tokens}
use Rattle.row_texts.specs.TypeTexts.{type_named}
use Rattle.row_texts.specs.DefaultTexts.{default_said, is_default}
use Rattle.well_formed.specs.Catalogues.{table_fault, first_in}
use Rattle.table_laws.proofs.laws.columns_meet_the_examples.Goals as goal

pub returns-clause-columns : goal.returns-clause-columns
unfolding is_utf8 chars encode is_blank is_digit begins_word in_word is_sign marks_escapes in_line next_is run_end quote_end escape_end comment_end fraction_end number_end begins_line closed begun in_utf8 piece_at next_within next_token_of tokens_within tokens_of inside undoubled name_of literal_of is_keyword_of spelling first_from is_word sign_of name_in name_value scan ends_run nest_step nest_done type_step type_done type_long is_type_word is_number type_of type_part all_tokens type_named table_fault
returns-clause-columns c = record {
  none = refl;
  with_a_gap = refl;
  of_another_relation = refl;
  second_name = refl;
  second_number = refl;
  number_of_zero = refl;
  system_column = refl;
  no_relation = refl;
  of_a_sequence = refl;
  no_type = refl;
  words_with_oid = refl;
  path_without_oid = refl;
  open_bracket = refl;
  array = refl;
}

pub returns-clause-defaults : goal.returns-clause-defaults
unfolding is_utf8 chars encode is_blank is_digit begins_word in_word is_sign marks_escapes in_line next_is run_end quote_end escape_end comment_end fraction_end number_end begins_line closed begun in_utf8 piece_at next_within next_token_of tokens_within tokens_of inside undoubled name_of literal_of is_keyword_of spelling lexemes expression_references first_from is_word sign_of name_in name_value scan ends_run nest_step nest_done default_text all_tokens default_said is_default table_fault
returns-clause-defaults c = record {
  expression = refl;
  second_oid = refl;
  second_of_a_column = refl;
  no_column = refl;
  column_of_a_view = refl;
  bad_on_a_view = refl;
  of_a_sequence = refl;
  no_oid = refl;
  empty = refl;
  ended = refl;
  not_null = refl;
  sequence = refl;
  its_own_table = refl;
  no_sequence = refl;
  no_such_type = refl;
}

pub returns-clause-both : goal.returns-clause-both
unfolding is_utf8 chars encode is_blank is_digit begins_word in_word is_sign marks_escapes in_line next_is run_end quote_end escape_end comment_end fraction_end number_end begins_line closed begun in_utf8 piece_at next_within next_token_of tokens_within tokens_of inside undoubled name_of literal_of is_keyword_of spelling lexemes expression_references first_from is_word sign_of name_in name_value scan ends_run nest_step nest_done default_text type_step type_done type_long is_type_word is_number type_of type_part all_tokens type_named default_said is_default first_in table_fault
returns-clause-both c = record {
  columns_first = refl;
}

use Rattle.std.proofs.Common.{refl}
use Rattle.std.specs.Str.{is_utf8, chars}
use Rattle.std.proofs.Math.Utf8.{encode}
use Rattle.sql_lex.specs.Bytes.{is_blank, is_digit, begins_word, in_word, is_sign, marks_escapes, in_line, next_is}
use Rattle.sql_lex.specs.Ends.{run_end, quote_end, escape_end, comment_end, fraction_end, number_end}
use Rattle.sql_lex.specs.Pieces.{begins_line, closed, begun, in_utf8, piece_at}
use Rattle.sql_lex.specs.Next.{next_within, next_token_of, tokens_within, tokens_of}
use Rattle.sql_lex.specs.Meaning.{inside, undoubled, name_of, literal_of, is_keyword_of, spelling}
use Rattle.cat_model.specs.Lexemes.{lexemes}
use Rattle.cat_model.specs.References.{expression_references}
use Rattle.cat_names.specs.Findings.{first_from}
use Rattle.cat_names.specs.Lookups.{role_name}
use Rattle.cat_names.specs.Rights.{has_bad_item}
use Rattle.cat_book.specs.Chains.{ends_within}
use Rattle.ddl_scripts.specs.Lexemes.{is_word, is_sign as sign_of}
use Rattle.ddl_scripts.specs.Leaves.{name_in, name_value}
use Rattle.ddl_scripts.specs.Parts.{scan}
use Rattle.ddl_scripts.specs.Expressions.{ends_run, nest_step, nest_done, default_text}
use Rattle.ddl_scripts.specs.Types.{type_step, type_done, type_long, is_type_word, is_number, type_of, type_part}
use Rattle.row_texts.specs.Tokens.{all_tokens}
use Rattle.row_texts.specs.TypeTexts.{type_named}
use Rattle.row_texts.specs.DefaultTexts.{default_said, is_default}
use Rattle.well_formed.specs.Catalogues.{table_fault}
use Rattle.table_laws.proofs.laws.types_meet_the_examples.Goals as goal

pub returns-clause-rows : goal.returns-clause-rows
unfolding is_utf8 chars encode is_blank is_digit begins_word in_word is_sign marks_escapes in_line next_is run_end quote_end escape_end comment_end fraction_end number_end begins_line closed begun in_utf8 piece_at next_within next_token_of tokens_within tokens_of inside undoubled name_of literal_of is_keyword_of spelling first_from role_name has_bad_item ends_within is_word sign_of name_in name_value scan ends_run nest_step nest_done type_step type_done type_long is_type_word is_number type_of type_part all_tokens type_named table_fault
returns-clause-rows c = record {
  none = refl;
  enum_and_domain = refl;
  second_oid = refl;
  second_name = refl;
  in_another_schema = refl;
  name_first = refl;
  no_schema = refl;
  no_owner = refl;
  no_base = refl;
  no_oid = refl;
  no_such_right = refl;
  by_other = refl;
  bad_before_other = refl;
  composite = refl;
  texts_of_enum = refl;
}

pub returns-clause-bases : goal.returns-clause-bases
unfolding is_utf8 chars encode is_blank is_digit begins_word in_word is_sign marks_escapes in_line next_is run_end quote_end escape_end comment_end fraction_end number_end begins_line closed begun in_utf8 piece_at next_within next_token_of tokens_within tokens_of inside undoubled name_of literal_of is_keyword_of spelling first_from role_name has_bad_item ends_within is_word sign_of name_in name_value scan ends_run nest_step nest_done type_step type_done type_long is_type_word is_number type_of type_part all_tokens type_named table_fault
returns-clause-bases c = record {
  words = refl;
  open_bracket = refl;
  semicolon = refl;
  unclosed = refl;
  no_type = refl;
  of_system = refl;
  without_oid = refl;
  as_a_path = refl;
  other_path = refl;
  words_with_oid = refl;
}

pub returns-clause-chains : goal.returns-clause-chains
unfolding is_utf8 chars encode is_blank is_digit begins_word in_word is_sign marks_escapes in_line next_is run_end quote_end escape_end comment_end fraction_end number_end begins_line closed begun in_utf8 piece_at next_within next_token_of tokens_within tokens_of inside undoubled name_of literal_of is_keyword_of spelling first_from role_name has_bad_item ends_within is_word sign_of name_in name_value scan ends_run nest_step nest_done type_step type_done type_long is_type_word is_number type_of type_part all_tokens type_named table_fault
returns-clause-chains c = record {
  later = refl;
  itself = refl;
  into_a_cycle = refl;
  of_two = refl;
}

pub returns-clause-defaults : goal.returns-clause-defaults
unfolding is_utf8 chars encode is_blank is_digit begins_word in_word is_sign marks_escapes in_line next_is run_end quote_end escape_end comment_end fraction_end number_end begins_line closed begun in_utf8 piece_at next_within next_token_of tokens_within tokens_of inside undoubled name_of literal_of is_keyword_of spelling lexemes expression_references first_from role_name has_bad_item ends_within is_word sign_of name_in name_value scan ends_run nest_step nest_done default_text type_step type_done type_long is_type_word is_number type_of type_part all_tokens type_named default_said is_default table_fault
returns-clause-defaults c = record {
  expression = refl;
  not_null = refl;
  ended = refl;
  empty = refl;
  relation = refl;
  no_relation = refl;
  enum = refl;
  no_enum = refl;
  own = refl;
}

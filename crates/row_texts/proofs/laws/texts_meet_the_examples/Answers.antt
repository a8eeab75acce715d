use Rattle.std.proofs.Common.{refl}
use Rattle.std.specs.Str.{is_utf8, chars}
use Rattle.std.proofs.Math.Utf8.{encode}
use Rattle.sql_lex.specs.Bytes.{is_blank, is_digit, begins_word, in_word, is_sign, marks_escapes, in_line, next_is}
use Rattle.sql_lex.specs.Ends.{run_end, quote_end, escape_end, comment_end, fraction_end, number_end}
use Rattle.sql_lex.specs.Pieces.{begins_line, closed, begun, in_utf8, piece_at}
use Rattle.sql_lex.specs.Next.{next_within, next_token_of, tokens_within, tokens_of}
use Rattle.sql_lex.specs.Meaning.{inside, undoubled, name_of, literal_of, is_keyword_of, spelling}
use Rattle.ddl_part_laws.specs.Lexemes.{is_word, is_sign as sign_of}
use Rattle.ddl_part_laws.specs.Leaves.{name_in, name_value}
use Rattle.ddl_part_laws.specs.Parts.{scan}
use Rattle.ddl_part_laws.specs.Expressions.{ends_run, nest_step, nest_done, expression, default_text}
use Rattle.ddl_part_laws.specs.Types.{type_step, type_done, type_long, is_type_word, is_number, type_of, type_part}
use Rattle.row_texts.specs.Tokens.{all_tokens}
use Rattle.row_texts.specs.TypeTexts.{type_named}
use Rattle.row_texts.specs.DefaultTexts.{default_said, is_default}
use Rattle.row_texts.specs.IndexTexts.{named_index, index_text, index_said}
use Rattle.row_texts.specs.SequenceTypes.{sequence_type, sequence_kind}
use Rattle.row_texts.specs.ViewTexts.{view_text, view_body}
use Rattle.row_texts.proofs.laws.texts_meet_the_examples.Goals as goal

pub returns-clause-types : goal.returns-clause-types
unfolding is_utf8 chars encode is_blank is_digit begins_word in_word is_sign marks_escapes in_line next_is run_end quote_end escape_end comment_end fraction_end number_end begins_line closed begun in_utf8 piece_at next_within next_token_of inside undoubled name_of literal_of is_keyword_of spelling is_word sign_of name_in name_value scan ends_run nest_step nest_done tokens_within tokens_of all_tokens type_step type_done type_long is_type_word is_number type_of type_part type_named
returns-clause-types c = record {
  words = refl;
  array = refl;
  as_a_path = refl;
  of_the_system = refl;
  quoted = refl;
  open_bracket = refl;
  not_null = refl;
  semicolon = refl;
  second = refl;
  unclosed = refl;
  unclosed_comment = refl;
  three_names = refl;
  empty = refl;
}

pub returns-clause-defaults : goal.returns-clause-defaults
unfolding is_utf8 chars encode is_blank is_digit begins_word in_word is_sign marks_escapes in_line next_is run_end quote_end escape_end comment_end fraction_end number_end begins_line closed begun in_utf8 piece_at next_within next_token_of inside undoubled name_of literal_of is_keyword_of spelling is_word sign_of name_in name_value scan ends_run nest_step nest_done tokens_within tokens_of all_tokens default_text default_said is_default
returns-clause-defaults c = record {
  expression = refl;
  is_one = refl;
  inner_comment = refl;
  not_null = refl;
  is_none = refl;
  is_not_null = refl;
  null_in_brackets = refl;
  two = refl;
  in_brackets = refl;
  open_bracket = refl;
  semicolon = refl;
  unclosed = refl;
  empty = refl;
}

pub returns-clause-indexes : goal.returns-clause-indexes
unfolding is_utf8 chars encode is_blank is_digit begins_word in_word is_sign marks_escapes in_line next_is run_end quote_end escape_end comment_end fraction_end number_end begins_line closed begun in_utf8 piece_at next_within next_token_of inside undoubled name_of literal_of is_keyword_of spelling is_word sign_of name_in name_value scan ends_run nest_step nest_done tokens_within tokens_of all_tokens expression named_index index_text index_said
returns-clause-indexes c = record {
  one = refl;
  unique = refl;
  comments_around = refl;
  quoted = refl;
  semicolon = refl;
  without_bracket = refl;
  open_bracket = refl;
  no_method = refl;
  no_schema = refl;
  no_name = refl;
  empty = refl;
}

pub returns-clause-sequences : goal.returns-clause-sequences
unfolding is_utf8 chars encode is_blank is_digit begins_word in_word is_sign marks_escapes in_line next_is run_end quote_end escape_end comment_end fraction_end number_end begins_line closed begun in_utf8 piece_at next_within next_token_of inside undoubled name_of literal_of is_keyword_of spelling is_word sign_of name_in name_value scan ends_run nest_step nest_done tokens_within tokens_of all_tokens sequence_type sequence_kind
returns-clause-sequences c = record {
  smallest = refl;
  middle = refl;
  largest = refl;
  another_type = refl;
  quoted = refl;
  two_words = refl;
  semicolon = refl;
  empty = refl;
}

pub returns-clause-views : goal.returns-clause-views
unfolding is_utf8 chars encode is_blank is_digit begins_word in_word is_sign marks_escapes in_line next_is run_end quote_end escape_end comment_end fraction_end number_end begins_line closed begun in_utf8 piece_at next_within next_token_of inside undoubled name_of literal_of is_keyword_of spelling is_word sign_of name_in name_value scan ends_run nest_step nest_done tokens_within tokens_of all_tokens expression view_text view_body
returns-clause-views c = record {
  one = refl;
  comment_behind = refl;
  in_a_literal = refl;
  no_semicolon = refl;
  two_semicolons = refl;
  two_bodies = refl;
  unclosed_behind = refl;
  closing_bracket = refl;
  no_body = refl;
}

pub returns-clause-names : goal.returns-clause-names
returns-clause-names c = record {
  none = refl;
  different = refl;
  twice = refl;
}

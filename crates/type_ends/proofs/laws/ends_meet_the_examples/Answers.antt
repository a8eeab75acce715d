use Rattle.std.proofs.Common.{refl}
use Rattle.std.specs.Str.{is_utf8, chars}
use Rattle.std.proofs.Math.Utf8.{encode}
use Rattle.sql_lex.specs.Bytes.{is_blank, is_digit, begins_word, in_word, is_sign, marks_escapes, in_line, next_is}
use Rattle.sql_lex.specs.Ends.{run_end, quote_end, escape_end, comment_end, fraction_end, number_end}
use Rattle.sql_lex.specs.Pieces.{begins_line, closed, begun, in_utf8, piece_at}
use Rattle.sql_lex.specs.Next.{next_within, next_token_of, tokens_within, tokens_of}
use Rattle.sql_lex.specs.Meaning.{inside, undoubled, name_of, literal_of, is_keyword_of, spelling}
use Rattle.ddl_parts.specs.Lexemes.{is_word, is_sign as sign_of}
use Rattle.ddl_parts.specs.Leaves.{name_in, name_value}
use Rattle.ddl_parts.specs.Parts.{scan}
use Rattle.ddl_parts.specs.Expressions.{ends_run, nest_step, nest_done}
use Rattle.ddl_parts.specs.Collecting.{collected_within, collected}
use Rattle.ddl_parts.specs.Types.{type_step, type_done, type_long, is_type_word, is_number, type_of, type_part}
use Rattle.oid_groups.specs.Orders.{placed, by_number}
use Rattle.row_texts.specs.Tokens.{all_tokens}
use Rattle.row_texts.specs.TypeTexts.{type_named}
use Rattle.type_ends.specs.Ends.{resolved_within}
use Rattle.type_ends.proofs.laws.ends_meet_the_examples.Goals as goal

pub returns-clause-labels : goal.returns-clause-labels
unfolding all_tokens placed by_number
returns-clause-labels c = record {
  by_position = refl;
  of_another = refl;
  of_none = refl;
}

pub returns-clause-chains : goal.returns-clause-chains
unfolding all_tokens resolved_within type_named placed by_number tokens_within tokens_of is_utf8 chars encode is_blank is_digit begins_word in_word is_sign marks_escapes in_line next_is run_end quote_end escape_end comment_end fraction_end number_end begins_line closed begun in_utf8 piece_at next_within next_token_of inside undoubled name_of literal_of is_keyword_of spelling is_word sign_of name_in name_value scan ends_run nest_step nest_done collected_within collected type_step type_done type_long is_type_word is_number type_of type_part
returns-clause-chains c = record {
  enum = refl;
  over_an_enum = refl;
  over_a_domain = refl;
  first_not_null = refl;
  second_not_null = refl;
  not_of_those_before = refl;
  not_of_an_enum = refl;
  words = refl;
  over_words = refl;
  without_oid = refl;
  by_oid_alone = refl;
}

pub returns-clause-no_ends : goal.returns-clause-no_ends
unfolding all_tokens resolved_within type_named placed by_number tokens_within tokens_of is_utf8 chars encode is_blank is_digit begins_word in_word is_sign marks_escapes in_line next_is run_end quote_end escape_end comment_end fraction_end number_end begins_line closed begun in_utf8 piece_at next_within next_token_of inside undoubled name_of literal_of is_keyword_of spelling is_word sign_of name_in name_value scan ends_run nest_step nest_done collected_within collected type_step type_done type_long is_type_word is_number type_of type_part
returns-clause-no_ends c = record {
  itself = refl;
  of_two = refl;
  into_a_cycle = refl;
  no_such_base = refl;
  no_type_named = refl;
  no_schema = refl;
  no_such_type = refl;
}

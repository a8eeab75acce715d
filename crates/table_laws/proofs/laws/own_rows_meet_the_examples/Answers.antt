use Rattle.std.proofs.Common.{refl}
use Rattle.std.specs.Str.{is_utf8, chars}
use Rattle.std.proofs.Math.Utf8.{encode}
use Rattle.sql_lex.specs.Bytes.{is_blank, is_digit, begins_word, in_word, is_sign, marks_escapes, in_line, next_is}
use Rattle.sql_lex.specs.Ends.{run_end, quote_end, escape_end, comment_end, fraction_end, number_end}
use Rattle.sql_lex.specs.Pieces.{begins_line, closed, begun, in_utf8, piece_at}
use Rattle.sql_lex.specs.Next.{next_within, next_token_of, tokens_within, tokens_of}
use Rattle.sql_lex.specs.Meaning.{inside, undoubled, name_of, literal_of, is_keyword_of, spelling}
use Rattle.cat_model.specs.Lexemes.{lexemes}
use Rattle.cat_model.specs.IndexColumns.{plain_columns}
use Rattle.cat_model.specs.References.{view_references}
use Rattle.cat_names.specs.Findings.{first_from}
use Rattle.ddl_scripts.specs.Lexemes.{is_word, is_sign as sign_of}
use Rattle.ddl_scripts.specs.Leaves.{name_in, name_value}
use Rattle.ddl_scripts.specs.Parts.{scan}
use Rattle.ddl_scripts.specs.Expressions.{ends_run, nest_step, nest_done, expression}
use Rattle.row_texts.specs.Tokens.{all_tokens}
use Rattle.row_texts.specs.IndexTexts.{named_index, index_text, index_said}
use Rattle.row_texts.specs.SequenceTypes.{sequence_type, sequence_kind}
use Rattle.row_texts.specs.ViewTexts.{view_text, view_body}
use Rattle.well_formed.specs.Catalogues.{table_fault}
use Rattle.table_laws.proofs.laws.own_rows_meet_the_examples.Goals as goal

pub returns-clause-indexes : goal.returns-clause-indexes
unfolding is_utf8 chars encode is_blank is_digit begins_word in_word is_sign marks_escapes in_line next_is run_end quote_end escape_end comment_end fraction_end number_end begins_line closed begun in_utf8 piece_at next_within next_token_of tokens_within tokens_of inside undoubled name_of literal_of is_keyword_of spelling lexemes plain_columns first_from is_word sign_of name_in name_value scan ends_run nest_step nest_done expression all_tokens named_index index_text index_said table_fault
returns-clause-indexes c = record {
  none = refl;
  one = refl;
  comments_around = refl;
  quoted = refl;
  twice = refl;
  no_index = refl;
  of_no_table = refl;
  of_a_key = refl;
  in_another_schema = refl;
  another_name = refl;
  another_table = refl;
  says_unique = refl;
  says_no_unique = refl;
  semicolon = refl;
  without_bracket = refl;
  open_bracket = refl;
  plain_columns = refl;
  no_column = refl;
  column_twice = refl;
  no_plain_column = refl;
  not_unique = refl;
}

pub returns-clause-sequences : goal.returns-clause-sequences
unfolding is_utf8 chars encode is_blank is_digit begins_word in_word is_sign marks_escapes in_line next_is run_end quote_end escape_end comment_end fraction_end number_end begins_line closed begun in_utf8 piece_at next_within next_token_of tokens_within tokens_of inside undoubled name_of literal_of is_keyword_of spelling first_from is_word sign_of name_in name_value scan ends_run nest_step nest_done all_tokens sequence_type sequence_kind table_fault
returns-clause-sequences c = record {
  one = refl;
  owned = refl;
  any_case = refl;
  twice = refl;
  no_sequence = refl;
  no_owner = refl;
  no_type = refl;
  two_words = refl;
  beyond_smallint = refl;
  largest_smallint = refl;
  no_step = refl;
  last_beyond = refl;
  start_beyond = refl;
  nothing_kept = refl;
}

pub returns-clause-views : goal.returns-clause-views
unfolding is_utf8 chars encode is_blank is_digit begins_word in_word is_sign marks_escapes in_line next_is run_end quote_end escape_end comment_end fraction_end number_end begins_line closed begun in_utf8 piece_at next_within next_token_of tokens_within tokens_of inside undoubled name_of literal_of is_keyword_of spelling lexemes view_references first_from is_word sign_of name_in name_value scan ends_run nest_step nest_done expression all_tokens view_text view_body table_fault
returns-clause-views c = record {
  one = refl;
  comment_behind = refl;
  of_itself = refl;
  second_oid = refl;
  second_of_a_view = refl;
  no_view = refl;
  no_oid = refl;
  no_semicolon = refl;
  two_semicolons = refl;
  two_bodies = refl;
  unclosed_behind = refl;
  no_body = refl;
  no_table = refl;
  of_the_system = refl;
  no_type = refl;
}

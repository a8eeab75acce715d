use Rattle.ddl_scripts.proofs.Common.{refl, is_utf8, chars, encode, lines, is_blank, is_digit, begins_word, in_word, marks_escapes, in_line, next_is, run_end, quote_end, escape_end, comment_end, fraction_end, number_end, begins_line, closed, begun, in_utf8, piece_at, next_within, next_token_of, inside, undoubled, name_of, spelling, name_in, name_value, collected_within, collected, is_between, rows_in, rows_from, rows_at, rows_behind, command_len, stands_alone, name_alone, said_by, meta_line}
use Rattle.sql_lex.specs.Bytes.{is_sign}
use Rattle.ddl_scripts.proofs.laws.the_definitions_meet_the_examples.Goals as goal

pub returns : goal.returns
unfolding lines is_utf8 chars encode is_blank is_digit begins_word in_word is_sign marks_escapes in_line next_is run_end quote_end escape_end comment_end fraction_end number_end begins_line closed begun in_utf8 piece_at next_within next_token_of inside undoubled name_of spelling name_in name_value collected_within collected is_between rows_in rows_from rows_at rows_behind command_len stands_alone name_alone said_by meta_line
returns c = record { rows = refl; no_rows = refl; cut_short = refl; no_line = refl; not_whole = refl; same_line = refl; connect = refl; folded = refl; passed = refl; passed_too = refl; two_names = refl; remark = refl; no_name = refl; other = refl; empty_name = refl; long_name = refl }

-- Over the entries of the empty cluster as a list the runs compute.
use Rattle.std.proofs.Common.{◌≡◌, List, refl, ap, map, ◌∙◌}
use Rattle.std.specs.Char.{encode_utf8}
use Rattle.std.specs.Str.{chars, is_utf8}
use Rattle.std.specs.FinMap.{entries, entries-from_sorted}
use Rattle.copy_text.specs.Escapes.{escape, decode_behind}
use Rattle.copy_text.specs.Lines.{lines}
use Rattle.copy_text.specs.Pieces.{pieces_after, ends_escaping}
use Rattle.copy_text.specs.Reading.{field_of, fields_of, row_of}
use Rattle.sql_lex.specs.Bytes.{is_blank, is_digit, begins_word, in_word, is_sign, marks_escapes, in_line, next_is}
use Rattle.sql_lex.specs.Ends.{run_end, quote_end, escape_end, comment_end, fraction_end, number_end}
use Rattle.sql_lex.specs.Pieces.{begins_line, closed, begun, in_utf8, piece_at}
use Rattle.sql_lex.specs.Next.{next_within, next_token_of, tokens_within, tokens_of}
use Rattle.sql_lex.specs.Meaning.{spelling, inside, undoubled, name_of, literal_of}
use Rattle.cat_model.specs.declared.key.Key.{Key}
use Rattle.cat_model.specs.declared.stmt.Stmt.{Stmt}
use Rattle.cat_model.specs.Keys.{key_cmp}
use Rattle.cat_model.specs.IndexColumns.{plain_columns}
use Rattle.cat_model.specs.Lexemes.{lexemes}
use Rattle.cat_model.specs.References.{expression_references, view_references}
use Rattle.cat_model.specs.declared.value.Value.{Value}
use Rattle.model_laws.specs.Examples.{postgres, causes, catalogue_after}
use Rattle.model_laws.specs.Runs.{empty_entries, empty_cluster, run_one, said_one, keys_one, run_two, said_two, keys_two, run_three, said_three, keys_three, run_four, said_four, keys_four}
use Rattle.model_laws.proofs.Listed.{Entries, causes_in, entries_after, causes-in, catalogue-in}
use Rattle.model_laws.proofs.examples.runs_end_as_worked_out.Goals as goal

abbrev keys_in : Entries → List Key
keys_in es = map (λ (e : Key × Value). e.0) es

opened : entries empty_cluster ≡ empty_entries
opened = entries-from_sorted key_cmp empty_entries tt

said : (ss : List Stmt) → causes postgres ss empty_cluster ≡ causes_in postgres ss empty_entries
said ss = causes-in postgres ss empty_cluster ∙ ap (causes_in postgres ss) opened

there : (ss : List Stmt) → keys_in (entries (catalogue_after postgres ss empty_cluster)) ≡ keys_in (entries_after postgres ss empty_entries)
there ss = ap keys_in (catalogue-in postgres ss empty_cluster ∙ ap (entries_after postgres ss) opened)

says_one : causes_in postgres run_one empty_entries ≡ said_one
unfolding lines row_of fields_of field_of pieces_after escape decode_behind ends_escaping chars is_utf8 encode_utf8 is_blank is_digit begins_word in_word is_sign marks_escapes in_line next_is run_end quote_end escape_end comment_end fraction_end number_end begins_line closed begun in_utf8 piece_at next_within next_token_of tokens_within tokens_of spelling inside undoubled name_of literal_of lexemes expression_references view_references plain_columns
says_one = refl

leaves_one : keys_in (entries_after postgres run_one empty_entries) ≡ keys_one
unfolding lines row_of fields_of field_of pieces_after escape decode_behind ends_escaping chars is_utf8 encode_utf8 is_blank is_digit begins_word in_word is_sign marks_escapes in_line next_is run_end quote_end escape_end comment_end fraction_end number_end begins_line closed begun in_utf8 piece_at next_within next_token_of tokens_within tokens_of spelling inside undoubled name_of literal_of lexemes expression_references view_references plain_columns
leaves_one = refl

says_two : causes_in postgres run_two empty_entries ≡ said_two
unfolding lines row_of fields_of field_of pieces_after escape decode_behind ends_escaping chars is_utf8 encode_utf8 is_blank is_digit begins_word in_word is_sign marks_escapes in_line next_is run_end quote_end escape_end comment_end fraction_end number_end begins_line closed begun in_utf8 piece_at next_within next_token_of tokens_within tokens_of spelling inside undoubled name_of literal_of lexemes expression_references view_references plain_columns
says_two = refl

leaves_two : keys_in (entries_after postgres run_two empty_entries) ≡ keys_two
unfolding lines row_of fields_of field_of pieces_after escape decode_behind ends_escaping chars is_utf8 encode_utf8 is_blank is_digit begins_word in_word is_sign marks_escapes in_line next_is run_end quote_end escape_end comment_end fraction_end number_end begins_line closed begun in_utf8 piece_at next_within next_token_of tokens_within tokens_of spelling inside undoubled name_of literal_of lexemes expression_references view_references plain_columns
leaves_two = refl

says_three : causes_in postgres run_three empty_entries ≡ said_three
unfolding lines row_of fields_of field_of pieces_after escape decode_behind ends_escaping chars is_utf8 encode_utf8 is_blank is_digit begins_word in_word is_sign marks_escapes in_line next_is run_end quote_end escape_end comment_end fraction_end number_end begins_line closed begun in_utf8 piece_at next_within next_token_of tokens_within tokens_of spelling inside undoubled name_of literal_of lexemes expression_references view_references plain_columns
says_three = refl

leaves_three : keys_in (entries_after postgres run_three empty_entries) ≡ keys_three
unfolding lines row_of fields_of field_of pieces_after escape decode_behind ends_escaping chars is_utf8 encode_utf8 is_blank is_digit begins_word in_word is_sign marks_escapes in_line next_is run_end quote_end escape_end comment_end fraction_end number_end begins_line closed begun in_utf8 piece_at next_within next_token_of tokens_within tokens_of spelling inside undoubled name_of literal_of lexemes expression_references view_references plain_columns
leaves_three = refl

says_four : causes_in postgres run_four empty_entries ≡ said_four
unfolding lines row_of fields_of field_of pieces_after escape decode_behind ends_escaping chars is_utf8 encode_utf8 is_blank is_digit begins_word in_word is_sign marks_escapes in_line next_is run_end quote_end escape_end comment_end fraction_end number_end begins_line closed begun in_utf8 piece_at next_within next_token_of tokens_within tokens_of spelling inside undoubled name_of literal_of lexemes expression_references view_references plain_columns
says_four = refl

leaves_four : keys_in (entries_after postgres run_four empty_entries) ≡ keys_four
unfolding lines row_of fields_of field_of pieces_after escape decode_behind ends_escaping chars is_utf8 encode_utf8 is_blank is_digit begins_word in_word is_sign marks_escapes in_line next_is run_end quote_end escape_end comment_end fraction_end number_end begins_line closed begun in_utf8 piece_at next_within next_token_of tokens_within tokens_of spelling inside undoubled name_of literal_of lexemes expression_references view_references plain_columns
leaves_four = refl

pub returns : goal.returns
returns c = record {
  one = said run_one ∙ says_one;
  one_keys = there run_one ∙ leaves_one;
  two = said run_two ∙ says_two;
  two_keys = there run_two ∙ leaves_two;
  three = said run_three ∙ says_three;
  three_keys = there run_three ∙ leaves_three;
  four = said run_four ∙ says_four;
  four_keys = there run_four ∙ leaves_four;
}

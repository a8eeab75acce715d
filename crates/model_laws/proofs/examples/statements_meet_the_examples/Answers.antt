-- Over the opening's entries as a list the statements compute.
use Rattle.std.proofs.Common.{◌≡◌, ℕ, List, [], ◌∷◌, Option, Some, None, refl, ap, ◌∙◌}
use Rattle.std.specs.Prelude.{codes}
use Rattle.std.specs.Char.{encode_utf8}
use Rattle.std.specs.Str.{chars, is_utf8}
use Rattle.std.specs.FinMap.{get, find, entries, get-entries, entries-from_sorted}
use Rattle.copy_text.specs.Escapes.{escape, decode_behind}
use Rattle.copy_text.specs.Lines.{lines}
use Rattle.copy_text.specs.Pieces.{pieces_after, ends_escaping}
use Rattle.copy_text.specs.Reading.{field_of, fields_of, row_of}
use Rattle.sql_lex.specs.Bytes.{is_blank, is_digit, begins_word, in_word, is_sign, marks_escapes, in_line, next_is}
use Rattle.sql_lex.specs.Ends.{run_end, quote_end, escape_end, comment_end, fraction_end, number_end}
use Rattle.sql_lex.specs.Pieces.{begins_line, closed, begun, in_utf8, piece_at}
use Rattle.sql_lex.specs.Next.{next_within, next_token_of, tokens_within, tokens_of}
use Rattle.sql_lex.specs.Meaning.{spelling, inside, undoubled, name_of, literal_of}
use Rattle.cat_model.specs.declared.key.Key.{Key}
use Rattle.cat_model.specs.declared.key.Key.TheVariants as key
use Rattle.cat_model.specs.declared.cause.Cause.{Cause}
use Rattle.cat_model.specs.declared.cause.Cause.TheVariants as cause
use Rattle.cat_model.specs.declared.stmt.Stmt.{Stmt}
use Rattle.cat_model.specs.Keys.{key_cmp}
use Rattle.cat_model.specs.IndexColumns.{plain_columns}
use Rattle.cat_model.specs.Lexemes.{lexemes}
use Rattle.cat_model.specs.References.{expression_references, view_references}
use Rattle.cat_model.specs.declared.value.Value.TheVariants as value
use Rattle.cat_model.specs.declared.value.Value.{Value}
use Rattle.model_laws.specs.Examples.{causes, catalogue_after, opening, postgres, public, setvals, bigints, children, equal_rows, domains, views}
use Rattle.model_laws.proofs.Listed.{Entries, causes_in, entries_after, causes-in, catalogue-in}
use Rattle.model_laws.proofs.examples.statements_meet_the_examples.Goals as goal

abbrev listed : Entries
listed = (key.Schema (codes "public"), value.Schema) ∷ []

opened : entries opening ≡ listed
opened = entries-from_sorted key_cmp listed tt

computed : (ss : List Stmt) → causes postgres ss opening ≡ causes_in postgres ss listed
computed ss = causes-in postgres ss opening ∙ ap (causes_in postgres ss) opened

found : (ss : List Stmt) (k : Key) → get (catalogue_after postgres ss opening) k ≡ find key_cmp k (entries_after postgres ss listed)
found ss k =
    get-entries (catalogue_after postgres ss opening) k
    ∙ ap (find key_cmp k) (catalogue-in postgres ss opening ∙ ap (entries_after postgres ss) opened)

set_values : causes_in postgres setvals listed ≡ None ∷ Some cause.OutOfRange ∷ None ∷ []
set_values = refl

big_numbers : causes_in postgres bigints listed ≡ None ∷ None ∷ Some (cause.BadValue 1 1) ∷ Some (cause.BadValue 1 2) ∷ []
unfolding lines row_of fields_of field_of pieces_after escape decode_behind ends_escaping chars is_utf8 encode_utf8 is_blank is_digit begins_word in_word is_sign marks_escapes in_line next_is run_end quote_end escape_end comment_end fraction_end number_end begins_line closed begun in_utf8 piece_at next_within next_token_of tokens_within tokens_of spelling inside undoubled name_of literal_of lexemes expression_references view_references plain_columns
big_numbers = refl

number_kept : find key_cmp (key.Rows (public (codes "t"))) (entries_after postgres bigints listed) ≡ Some (value.Rows ((Some (codes "9223372036854775807") ∷ []) ∷ []))
unfolding lines row_of fields_of field_of pieces_after escape decode_behind ends_escaping chars is_utf8 encode_utf8 is_blank is_digit begins_word in_word is_sign marks_escapes in_line next_is run_end quote_end escape_end comment_end fraction_end number_end begins_line closed begun in_utf8 piece_at next_within next_token_of tokens_within tokens_of spelling inside undoubled name_of literal_of lexemes expression_references view_references plain_columns
number_kept = refl

orphans : causes_in postgres children listed ≡ None ∷ None ∷ None ∷ None ∷ None ∷ Some (cause.NoParent (codes "c_fk") 3) ∷ None ∷ None ∷ []
unfolding lines row_of fields_of field_of pieces_after escape decode_behind ends_escaping chars is_utf8 encode_utf8 is_blank is_digit begins_word in_word is_sign marks_escapes in_line next_is run_end quote_end escape_end comment_end fraction_end number_end begins_line closed begun in_utf8 piece_at next_within next_token_of tokens_within tokens_of spelling inside undoubled name_of literal_of lexemes expression_references view_references plain_columns
orphans = refl

duplicates : causes_in postgres equal_rows listed ≡ None ∷ None ∷ Some (cause.Duplicate (codes "t_n_key") 2 3) ∷ Some (cause.NullValue 1 5) ∷ Some (cause.Duplicate (codes "t_i") 2 3) ∷ None ∷ []
unfolding lines row_of fields_of field_of pieces_after escape decode_behind ends_escaping chars is_utf8 encode_utf8 is_blank is_digit begins_word in_word is_sign marks_escapes in_line next_is run_end quote_end escape_end comment_end fraction_end number_end begins_line closed begun in_utf8 piece_at next_within next_token_of tokens_within tokens_of spelling inside undoubled name_of literal_of lexemes expression_references view_references plain_columns
duplicates = refl

own_names : causes_in postgres domains listed ≡ None ∷ Some (cause.Absent (key.UserType (public (codes "e")))) ∷ []
unfolding chars is_utf8 encode_utf8 is_blank is_digit begins_word in_word is_sign marks_escapes in_line next_is run_end quote_end escape_end comment_end fraction_end number_end begins_line closed begun in_utf8 piece_at next_within next_token_of tokens_within tokens_of spelling inside undoubled name_of literal_of lexemes expression_references view_references plain_columns
own_names = refl

relations : causes_in postgres views listed ≡ None ∷ None ∷ Some (cause.Absent (key.Rel (public (codes "q")))) ∷ []
unfolding chars is_utf8 encode_utf8 is_blank is_digit begins_word in_word is_sign marks_escapes in_line next_is run_end quote_end escape_end comment_end fraction_end number_end begins_line closed begun in_utf8 piece_at next_within next_token_of tokens_within tokens_of spelling inside undoubled name_of literal_of lexemes expression_references view_references plain_columns
relations = refl

pub returns : goal.returns
returns c = record {
  setvals = computed setvals ∙ set_values;
  bigints = computed bigints ∙ big_numbers;
  kept = found bigints (key.Rows (public (codes "t"))) ∙ number_kept;
  children = computed children ∙ orphans;
  equal_rows = computed equal_rows ∙ duplicates;
  domains = computed domains ∙ own_names;
  views = computed views ∙ relations;
}

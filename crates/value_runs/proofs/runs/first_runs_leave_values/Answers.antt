-- Over the entries of the empty cluster as a list the runs compute. `made_` and `checks_` tell for each object with
-- grants, and for each domain, in the order of keys, what a run did to them.
use Rattle.std.proofs.Common.{refl, ◌≡◌, true, false, List, [], ◌∷◌}
use Rattle.std.specs.Prelude.{codes}
use Rattle.value_runs.specs.Written.{letters}
use Rattle.cat_model.specs.Grants.{table_rights, sequence_rights, schema_rights}
use Rattle.value_runs.specs.RunsOne.{run_one, values_one, run_two, values_two, run_three, values_three, run_four, values_four}
use Rattle.value_runs.proofs.Maps.{Made, grant, join_role, fresh, fresh_type, Checks, filled, settled}
use Rattle.value_runs.proofs.Leaving.{after, leaves}
use Rattle.cat_model.specs.declared.holder.Holder.TheVariants.{Public as PUBLIC, Role as ROLE}
use Rattle.std.specs.Char.{encode_utf8}
use Rattle.std.specs.Str.{chars, is_utf8}
use Rattle.copy_text.specs.Escapes.{escape, decode_behind}
use Rattle.copy_text.specs.Lines.{lines}
use Rattle.copy_text.specs.Pieces.{pieces_after, ends_escaping}
use Rattle.copy_text.specs.Reading.{field_of, fields_of, row_of}
use Rattle.sql_lex.specs.Bytes.{is_blank, is_digit, begins_word, in_word, is_sign, marks_escapes, in_line, next_is}
use Rattle.sql_lex.specs.Ends.{run_end, quote_end, escape_end, comment_end, fraction_end, number_end}
use Rattle.sql_lex.specs.Pieces.{begins_line, closed, begun, in_utf8, piece_at}
use Rattle.sql_lex.specs.Next.{next_within, next_token_of, tokens_within, tokens_of}
use Rattle.sql_lex.specs.Meaning.{spelling, inside, undoubled, name_of, literal_of}
use Rattle.cat_model.specs.IndexColumns.{plain_columns}
use Rattle.cat_model.specs.Lexemes.{lexemes}
use Rattle.cat_model.specs.References.{expression_references, view_references}
use Rattle.value_runs.proofs.runs.first_runs_leave_values.Goals as goal

made_one : List Made
made_one =
    fresh schema_rights
    ∷ join_role (codes "bob") (fresh schema_rights)
    ∷ fresh sequence_rights
    ∷ fresh table_rights
    ∷ fresh table_rights
    ∷ fresh table_rights
    ∷ fresh sequence_rights
    ∷ []

checks_one : List Checks
checks_one = []

makes_one : after run_one ≡ filled made_one checks_one values_one
unfolding made_one checks_one lines row_of fields_of field_of pieces_after escape decode_behind ends_escaping chars is_utf8 encode_utf8 is_blank is_digit begins_word in_word is_sign marks_escapes in_line next_is run_end quote_end escape_end comment_end fraction_end number_end begins_line closed begun in_utf8 piece_at next_within next_token_of tokens_within tokens_of spelling inside undoubled name_of literal_of lexemes expression_references view_references plain_columns
makes_one = refl

are_one : settled made_one checks_one values_one ≡ values_one
unfolding made_one checks_one
are_one = refl

made_two : List Made
made_two =
    fresh schema_rights
    ∷ fresh schema_rights
    ∷ fresh_type
    ∷ fresh_type
    ∷ fresh_type
    ∷ fresh_type
    ∷ fresh sequence_rights
    ∷ grant (letters (codes "x")) false (ROLE (codes "bob")) (grant (letters (codes "arwdDxt")) true PUBLIC (fresh table_rights))
    ∷ fresh table_rights
    ∷ []

checks_two : List Checks
checks_two = ([] ∷ [] ∷ (((codes "m"), (codes "1")) ∷ []) ∷ [])

makes_two : after run_two ≡ filled made_two checks_two values_two
unfolding made_two checks_two lines row_of fields_of field_of pieces_after escape decode_behind ends_escaping chars is_utf8 encode_utf8 is_blank is_digit begins_word in_word is_sign marks_escapes in_line next_is run_end quote_end escape_end comment_end fraction_end number_end begins_line closed begun in_utf8 piece_at next_within next_token_of tokens_within tokens_of spelling inside undoubled name_of literal_of lexemes expression_references view_references plain_columns
makes_two = refl

are_two : settled made_two checks_two values_two ≡ values_two
unfolding made_two checks_two
are_two = refl

made_three : List Made
made_three =
    fresh schema_rights
    ∷ fresh schema_rights
    ∷ fresh_type
    ∷ fresh_type
    ∷ fresh_type
    ∷ fresh table_rights
    ∷ fresh table_rights
    ∷ []

checks_three : List Checks
checks_three = ([] ∷ [])

makes_three : after run_three ≡ filled made_three checks_three values_three
unfolding made_three checks_three lines row_of fields_of field_of pieces_after escape decode_behind ends_escaping chars is_utf8 encode_utf8 is_blank is_digit begins_word in_word is_sign marks_escapes in_line next_is run_end quote_end escape_end comment_end fraction_end number_end begins_line closed begun in_utf8 piece_at next_within next_token_of tokens_within tokens_of spelling inside undoubled name_of literal_of lexemes expression_references view_references plain_columns
makes_three = refl

are_three : settled made_three checks_three values_three ≡ values_three
unfolding made_three checks_three
are_three = refl

made_four : List Made
made_four =
    fresh schema_rights
    ∷ fresh schema_rights
    ∷ fresh_type
    ∷ grant (letters (codes "w")) true PUBLIC (fresh table_rights)
    ∷ fresh table_rights
    ∷ fresh table_rights
    ∷ []

checks_four : List Checks
checks_four = ([] ∷ [])

makes_four : after run_four ≡ filled made_four checks_four values_four
unfolding made_four checks_four lines row_of fields_of field_of pieces_after escape decode_behind ends_escaping chars is_utf8 encode_utf8 is_blank is_digit begins_word in_word is_sign marks_escapes in_line next_is run_end quote_end escape_end comment_end fraction_end number_end begins_line closed begun in_utf8 piece_at next_within next_token_of tokens_within tokens_of spelling inside undoubled name_of literal_of lexemes expression_references view_references plain_columns
makes_four = refl

are_four : settled made_four checks_four values_four ≡ values_four
unfolding made_four checks_four
are_four = refl

pub returns : goal.returns
returns c = record {
  one = leaves run_one made_one checks_one values_one makes_one are_one;
  two = leaves run_two made_two checks_two values_two makes_two are_two;
  three = leaves run_three made_three checks_three values_three makes_three are_three;
  four = leaves run_four made_four checks_four values_four makes_four are_four;
}

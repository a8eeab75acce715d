-- Over the entries of the empty cluster as a list the runs compute. `made_` and `checks_` tell for each object with
-- grants, and for each domain, in the order of keys, what a run did to them.
use Rattle.std.proofs.Common.{refl, ◌≡◌, true, false, List, [], ◌∷◌}
use Rattle.std.specs.Prelude.{codes}
use Rattle.value_runs.specs.Written.{letters}
use Rattle.cat_model.specs.Grants.{table_rights, sequence_rights, schema_rights}
use Rattle.value_runs.specs.RunsThree.{run_nine, values_nine, run_ten, values_ten, run_eleven, values_eleven, run_twelve, values_twelve}
use Rattle.value_runs.proofs.Maps.{Made, grant, revoke, join_role, fresh, fresh_type, Checks, filled, settled}
use Rattle.value_runs.proofs.Leaving.{after, leaves}
use Rattle.cat_model.specs.declared.holder.Holder.TheVariants.{Owner as OWNER, Public as PUBLIC, Role as ROLE}
use Rattle.std.specs.Char.{encode_utf8}
use Rattle.std.specs.Str.{chars, is_utf8}
use Rattle.copy_text.specs.Escapes.{escape, decode_behind}
use Rattle.copy_text.specs.Lines.{lines}
use Rattle.copy_text.specs.Pieces.{pieces_after, ends_escaping}
use Rattle.copy_text.specs.Reading.{field_of, fields_of, row_of}
use Rattle.sql_lex.specs.Bytes.{is_blank, is_digit, begins_word, in_word, is_sign, marks_escapes, in_line, next_is}
use Rattle.sql_lex.specs.Ends.{run_end, quote_end, escape_end, comment_end, fraction_end, number_end}
use Rattle.sql_lex.specs.Pieces.{begins_line, closed, begun, in_utf8, piece_at}
use Rattle.sql_lex.specs.Next.{next_within, next_token_of, tokens_within, tokens_of}
use Rattle.sql_lex.specs.Meaning.{spelling, inside, undoubled, name_of, literal_of}
use Rattle.cat_model.specs.IndexColumns.{plain_columns}
use Rattle.cat_model.specs.Lexemes.{lexemes}
use Rattle.cat_model.specs.References.{expression_references, view_references}
use Rattle.value_runs.proofs.runs.third_runs_leave_values.Goals as goal

made_nine : List Made
made_nine =
    grant (letters (codes "C")) true OWNER (revoke (letters (codes "UC")) (ROLE (codes "bob")) (fresh schema_rights))
    ∷ revoke (letters (codes "UC")) OWNER (fresh schema_rights)
    ∷ fresh_type
    ∷ fresh_type
    ∷ join_role (codes "bob") (grant (letters (codes "U")) false PUBLIC (fresh_type))
    ∷ fresh table_rights
    ∷ []

checks_nine : List Checks
checks_nine = ([] ∷ (((codes "k"), (codes "'m'::public.n")) ∷ ((codes "n"), (codes "1")) ∷ []) ∷ [] ∷ [])

makes_nine : after run_nine ≡ filled made_nine checks_nine values_nine
unfolding made_nine checks_nine lines row_of fields_of field_of pieces_after escape decode_behind ends_escaping chars is_utf8 encode_utf8 is_blank is_digit begins_word in_word is_sign marks_escapes in_line next_is run_end quote_end escape_end comment_end fraction_end number_end begins_line closed begun in_utf8 piece_at next_within next_token_of tokens_within tokens_of spelling inside undoubled name_of literal_of lexemes expression_references view_references plain_columns
makes_nine = refl

are_nine : settled made_nine checks_nine values_nine ≡ values_nine
unfolding made_nine checks_nine
are_nine = refl

made_ten : List Made
made_ten =
    grant (letters (codes "UC")) true PUBLIC (fresh schema_rights)
    ∷ fresh schema_rights
    ∷ fresh_type
    ∷ fresh table_rights
    ∷ []

checks_ten : List Checks
checks_ten = []

makes_ten : after run_ten ≡ filled made_ten checks_ten values_ten
unfolding made_ten checks_ten lines row_of fields_of field_of pieces_after escape decode_behind ends_escaping chars is_utf8 encode_utf8 is_blank is_digit begins_word in_word is_sign marks_escapes in_line next_is run_end quote_end escape_end comment_end fraction_end number_end begins_line closed begun in_utf8 piece_at next_within next_token_of tokens_within tokens_of spelling inside undoubled name_of literal_of lexemes expression_references view_references plain_columns
makes_ten = refl

are_ten : settled made_ten checks_ten values_ten ≡ values_ten
unfolding made_ten checks_ten
are_ten = refl

made_eleven : List Made
made_eleven =
    fresh schema_rights
    ∷ revoke (letters (codes "UC")) OWNER (fresh schema_rights)
    ∷ fresh_type
    ∷ fresh_type
    ∷ revoke (letters (codes "d")) PUBLIC (fresh table_rights)
    ∷ fresh sequence_rights
    ∷ fresh table_rights
    ∷ []

checks_eleven : List Checks
checks_eleven = ((((codes "v"), (codes "1")) ∷ []) ∷ [])

makes_eleven : after run_eleven ≡ filled made_eleven checks_eleven values_eleven
unfolding made_eleven checks_eleven lines row_of fields_of field_of pieces_after escape decode_behind ends_escaping chars is_utf8 encode_utf8 is_blank is_digit begins_word in_word is_sign marks_escapes in_line next_is run_end quote_end escape_end comment_end fraction_end number_end begins_line closed begun in_utf8 piece_at next_within next_token_of tokens_within tokens_of spelling inside undoubled name_of literal_of lexemes expression_references view_references plain_columns
makes_eleven = refl

are_eleven : settled made_eleven checks_eleven values_eleven ≡ values_eleven
unfolding made_eleven checks_eleven
are_eleven = refl

made_twelve : List Made
made_twelve =
    fresh schema_rights
    ∷ fresh schema_rights
    ∷ fresh table_rights
    ∷ fresh table_rights
    ∷ fresh table_rights
    ∷ []

checks_twelve : List Checks
checks_twelve = []

makes_twelve : after run_twelve ≡ filled made_twelve checks_twelve values_twelve
unfolding made_twelve checks_twelve lines row_of fields_of field_of pieces_after escape decode_behind ends_escaping chars is_utf8 encode_utf8 is_blank is_digit begins_word in_word is_sign marks_escapes in_line next_is run_end quote_end escape_end comment_end fraction_end number_end begins_line closed begun in_utf8 piece_at next_within next_token_of tokens_within tokens_of spelling inside undoubled name_of literal_of lexemes expression_references view_references plain_columns
makes_twelve = refl

are_twelve : settled made_twelve checks_twelve values_twelve ≡ values_twelve
unfolding made_twelve checks_twelve
are_twelve = refl

pub returns : goal.returns
returns c = record {
  nine = leaves run_nine made_nine checks_nine values_nine makes_nine are_nine;
  ten = leaves run_ten made_ten checks_ten values_ten makes_ten are_ten;
  eleven = leaves run_eleven made_eleven checks_eleven values_eleven makes_eleven are_eleven;
  twelve = leaves run_twelve made_twelve checks_twelve values_twelve makes_twelve are_twelve;
}

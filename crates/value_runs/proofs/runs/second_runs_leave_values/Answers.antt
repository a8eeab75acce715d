-- Over the entries of the empty cluster as a list the runs compute. `made_` and `checks_` tell for each object with
-- grants, and for each domain, in the order of keys, what a run did to them.
use Rattle.std.proofs.Common.{refl, ◌≡◌, true, false, List, [], ◌∷◌, Some, None}
use Rattle.std.specs.Prelude.{codes}
use Rattle.cat_model.specs.declared.key.Key.TheVariants as key
use Rattle.cat_model.specs.declared.stmt.Stmt.{Stmt}
use Rattle.cat_model.specs.declared.type_name.TypeName.TheVariants.{Words}
use Rattle.cat_model.specs.declared.value.Value.TheVariants as value
use Rattle.model_laws.specs.Runs.{at}
use Rattle.value_runs.specs.Written.{Entries, letters, resolved}
use Rattle.cat_model.specs.Grants.{table_rights, sequence_rights, schema_rights}
use Rattle.cat_model.specs.Keys.{key_cmp}
use Rattle.std.specs.FinMap.{find, empty}
use Rattle.cat_model.specs.declared.value.Domain.{Domain}
use Rattle.value_runs.specs.RunsTwo.{run_five, values_five, run_six, values_six, run_seven, values_seven, run_eight, values_eight}
use Rattle.value_runs.proofs.Maps.{Made, grant, revoke, join_role, fresh, fresh_type, Checks, filled, settled}
use Rattle.value_runs.proofs.Leaving.{after, leaves, asked-in, with_checks, firsts, others_behind}
use Rattle.cat_model.specs.declared.holder.Holder.TheVariants.{Owner as OWNER, Public as PUBLIC, Role as ROLE}
use Rattle.std.specs.Char.{encode_utf8}
use Rattle.std.specs.Str.{chars, is_utf8}
use Rattle.copy_text.specs.Escapes.{escape, decode_behind}
use Rattle.copy_text.specs.Lines.{lines}
use Rattle.copy_text.specs.Pieces.{pieces_after, ends_escaping}
use Rattle.copy_text.specs.Reading.{field_of, fields_of, row_of}
use Rattle.sql_lex.specs.Bytes.{is_blank, is_digit, begins_word, in_word, is_sign, marks_escapes, in_line, next_is}
use Rattle.sql_lex.specs.Ends.{run_end, quote_end, escape_end, comment_end, fraction_end, number_end}
use Rattle.sql_lex.specs.Pieces.{begins_line, closed, begun, in_utf8, piece_at}
use Rattle.sql_lex.specs.Next.{next_within, next_token_of, tokens_within, tokens_of}
use Rattle.sql_lex.specs.Meaning.{spelling, inside, undoubled, name_of, literal_of}
use Rattle.cat_model.specs.IndexColumns.{plain_columns}
use Rattle.cat_model.specs.Lexemes.{lexemes}
use Rattle.cat_model.specs.References.{expression_references, view_references}
use Rattle.value_runs.proofs.runs.second_runs_leave_values.Goals as goal

made_five : List Made
made_five =
    fresh schema_rights
    ∷ fresh schema_rights
    ∷ fresh sequence_rights
    ∷ fresh table_rights
    ∷ fresh table_rights
    ∷ fresh table_rights
    ∷ []

checks_five : List Checks
checks_five = []

makes_five : after run_five ≡ filled made_five checks_five values_five
unfolding made_five checks_five lines row_of fields_of field_of pieces_after escape decode_behind ends_escaping chars is_utf8 encode_utf8 is_blank is_digit begins_word in_word is_sign marks_escapes in_line next_is run_end quote_end escape_end comment_end fraction_end number_end begins_line closed begun in_utf8 piece_at next_within next_token_of tokens_within tokens_of spelling inside undoubled name_of literal_of lexemes expression_references view_references plain_columns
makes_five = refl

are_five : settled made_five checks_five values_five ≡ values_five
unfolding made_five checks_five
are_five = refl

made_six : List Made
made_six =
    grant (letters (codes "UC")) true (ROLE (codes "bob")) (fresh schema_rights)
    ∷ fresh schema_rights
    ∷ fresh_type
    ∷ revoke (letters (codes "rwU")) OWNER (fresh sequence_rights)
    ∷ fresh table_rights
    ∷ fresh sequence_rights
    ∷ fresh table_rights
    ∷ fresh table_rights
    ∷ []

checks_six : List Checks
checks_six = []

makes_six : after run_six ≡ filled made_six checks_six values_six
unfolding made_six checks_six lines row_of fields_of field_of pieces_after escape decode_behind ends_escaping chars is_utf8 encode_utf8 is_blank is_digit begins_word in_word is_sign marks_escapes in_line next_is run_end quote_end escape_end comment_end fraction_end number_end begins_line closed begun in_utf8 piece_at next_within next_token_of tokens_within tokens_of spelling inside undoubled name_of literal_of lexemes expression_references view_references plain_columns
makes_six = refl

are_six : settled made_six checks_six values_six ≡ values_six
unfolding made_six checks_six
are_six = refl

made_seven : List Made
made_seven =
    fresh schema_rights
    ∷ join_role (codes "eve") (fresh schema_rights)
    ∷ fresh_type
    ∷ fresh table_rights
    ∷ fresh sequence_rights
    ∷ []

checks_seven : List Checks
checks_seven = ((((codes "k"), (codes "1")) ∷ []) ∷ [])

rest_seven : List Stmt
rest_seven = others_behind 15 run_seven

domain_seven : Domain
domain_seven = (record { base = (Words (codes "character(2)")); resolved = (resolved (Words (codes "character(2)")) None false); not_null = false; «default» = None; checks = empty })

old_seven : Checks
old_seven = []

begun_seven : Entries
begun_seven = after (firsts 14 run_seven)

there_seven : find key_cmp (key.UserType (at (codes "a") (codes "m"))) begun_seven ≡ Some (value.Domain (with_checks domain_seven old_seven))
unfolding begun_seven rest_seven domain_seven old_seven lines row_of fields_of field_of pieces_after escape decode_behind ends_escaping chars is_utf8 encode_utf8 is_blank is_digit begins_word in_word is_sign marks_escapes in_line next_is run_end quote_end escape_end comment_end fraction_end number_end begins_line closed begun in_utf8 piece_at next_within next_token_of tokens_within tokens_of spelling inside undoubled name_of literal_of lexemes expression_references view_references plain_columns
there_seven = refl

makes_seven : after run_seven ≡ filled made_seven checks_seven values_seven
unfolding begun_seven rest_seven domain_seven old_seven made_seven checks_seven lines row_of fields_of field_of pieces_after escape decode_behind ends_escaping chars is_utf8 encode_utf8 is_blank is_digit begins_word in_word is_sign marks_escapes in_line next_is run_end quote_end escape_end comment_end fraction_end number_end begins_line closed begun in_utf8 piece_at next_within next_token_of tokens_within tokens_of spelling inside undoubled name_of literal_of lexemes expression_references view_references plain_columns
makes_seven = asked-in (at (codes "a") (codes "m")) (codes "k") (codes "1") rest_seven domain_seven old_seven begun_seven there_seven

are_seven : settled made_seven checks_seven values_seven ≡ values_seven
unfolding made_seven checks_seven
are_seven = refl

made_eight : List Made
made_eight =
    grant (letters (codes "UC")) true (ROLE (codes "eve")) (fresh schema_rights)
    ∷ fresh schema_rights
    ∷ fresh_type
    ∷ revoke (letters (codes "U")) PUBLIC (fresh_type)
    ∷ fresh table_rights
    ∷ fresh table_rights
    ∷ fresh table_rights
    ∷ fresh table_rights
    ∷ []

checks_eight : List Checks
checks_eight = ([] ∷ [])

makes_eight : after run_eight ≡ filled made_eight checks_eight values_eight
unfolding made_eight checks_eight lines row_of fields_of field_of pieces_after escape decode_behind ends_escaping chars is_utf8 encode_utf8 is_blank is_digit begins_word in_word is_sign marks_escapes in_line next_is run_end quote_end escape_end comment_end fraction_end number_end begins_line closed begun in_utf8 piece_at next_within next_token_of tokens_within tokens_of spelling inside undoubled name_of literal_of lexemes expression_references view_references plain_columns
makes_eight = refl

are_eight : settled made_eight checks_eight values_eight ≡ values_eight
unfolding made_eight checks_eight
are_eight = refl

pub returns : goal.returns
returns c = record {
  five = leaves run_five made_five checks_five values_five makes_five are_five;
  six = leaves run_six made_six checks_six values_six makes_six are_six;
  seven = leaves run_seven made_seven checks_seven values_seven makes_seven are_seven;
  eight = leaves run_eight made_eight checks_eight values_eight makes_eight are_eight;
}

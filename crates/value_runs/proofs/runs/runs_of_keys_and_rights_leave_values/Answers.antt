-- Over the entries of the empty cluster as a list the runs compute. `made_` and `checks_` tell for each object with
-- grants, and for each domain, in the order of keys, what a run did to them.
use Rattle.std.proofs.Common.{refl, ◌∙◌, ◌≡◌, true, false, List, [], ◌∷◌, Some, None}
use Rattle.std.specs.Prelude.{codes}
use Rattle.cat_model.specs.declared.key.Key.TheVariants as key
use Rattle.cat_model.specs.declared.stmt.Stmt.{Stmt}
use Rattle.cat_model.specs.declared.type_name.TypeName.TheVariants.{Words}
use Rattle.cat_model.specs.declared.value.Value.TheVariants as value
use Rattle.model_laws.specs.Runs.{at, empty_entries}
use Rattle.value_runs.specs.Written.{Entries, letters, resolved}
use Rattle.cat_model.specs.Grants.{table_rights, sequence_rights, schema_rights}
use Rattle.cat_model.specs.Keys.{key_cmp}
use Rattle.cat_model.specs.Holders.{bytes_cmp}
use Rattle.std.specs.FinMap.{find, empty}
use Rattle.cat_model.specs.declared.value.Domain.{Domain}
use Rattle.model_laws.specs.Examples.{postgres}
use Rattle.model_laws.proofs.Listed.{causes_in, entries_after, next_in}
use Rattle.value_runs.specs.RunsFour.{run_keyed, values_keyed, said_keyed, run_shown, values_shown, said_shown, run_granted, values_granted}
use Rattle.value_runs.proofs.Maps.{Made, grant, revoke, join_role, fresh, fresh_type, Checks, filled, settled}
use Rattle.value_runs.proofs.Leaving.{after, leaves, says, asked, asked-in, with_checks, firsts, others_behind}
use Rattle.cat_model.specs.declared.holder.Holder.TheVariants.{Owner as OWNER, Public as PUBLIC, Role as ROLE}
use Rattle.std.specs.Char.{encode_utf8}
use Rattle.std.specs.Str.{chars, is_utf8}
use Rattle.copy_text.specs.Escapes.{escape, decode_behind}
use Rattle.copy_text.specs.Lines.{lines}
use Rattle.copy_text.specs.Pieces.{pieces_after, ends_escaping}
use Rattle.copy_text.specs.Reading.{field_of, fields_of, row_of}
use Rattle.sql_lex.specs.Bytes.{is_blank, is_digit, begins_word, in_word, is_sign, marks_escapes, in_line, next_is}
use Rattle.sql_lex.specs.Ends.{run_end, quote_end, escape_end, comment_end, fraction_end, number_end}
use Rattle.sql_lex.specs.Pieces.{begins_line, closed, begun, in_utf8, piece_at}
use Rattle.sql_lex.specs.Next.{next_within, next_token_of, tokens_within, tokens_of}
use Rattle.sql_lex.specs.Meaning.{spelling, inside, undoubled, name_of, literal_of}
use Rattle.cat_model.specs.IndexColumns.{plain_columns}
use Rattle.cat_model.specs.Lexemes.{lexemes}
use Rattle.cat_model.specs.References.{expression_references, view_references}
use Rattle.value_runs.proofs.runs.runs_of_keys_and_rights_leave_values.Goals as goal

made_keyed : List Made
made_keyed =
    fresh schema_rights
    ∷ fresh table_rights
    ∷ fresh table_rights
    ∷ fresh table_rights
    ∷ fresh table_rights
    ∷ []

checks_keyed : List Checks
checks_keyed = []

makes_keyed : after run_keyed ≡ filled made_keyed checks_keyed values_keyed
unfolding made_keyed checks_keyed lines row_of fields_of field_of pieces_after escape decode_behind ends_escaping chars is_utf8 encode_utf8 is_blank is_digit begins_word in_word is_sign marks_escapes in_line next_is run_end quote_end escape_end comment_end fraction_end number_end begins_line closed begun in_utf8 piece_at next_within next_token_of tokens_within tokens_of spelling inside undoubled name_of literal_of lexemes expression_references view_references plain_columns
makes_keyed = refl

are_keyed : settled made_keyed checks_keyed values_keyed ≡ values_keyed
unfolding made_keyed checks_keyed
are_keyed = refl

says_keyed : causes_in postgres run_keyed empty_entries ≡ said_keyed
unfolding lines row_of fields_of field_of pieces_after escape decode_behind ends_escaping chars is_utf8 encode_utf8 is_blank is_digit begins_word in_word is_sign marks_escapes in_line next_is run_end quote_end escape_end comment_end fraction_end number_end begins_line closed begun in_utf8 piece_at next_within next_token_of tokens_within tokens_of spelling inside undoubled name_of literal_of lexemes expression_references view_references plain_columns
says_keyed = refl

made_shown : List Made
made_shown =
    fresh schema_rights
    ∷ fresh_type
    ∷ fresh_type
    ∷ fresh_type
    ∷ fresh_type
    ∷ fresh sequence_rights
    ∷ fresh table_rights
    ∷ fresh table_rights
    ∷ []

checks_shown : List Checks
checks_shown = ([] ∷ [] ∷ [] ∷ [])

makes_shown : after run_shown ≡ filled made_shown checks_shown values_shown
unfolding made_shown checks_shown lines row_of fields_of field_of pieces_after escape decode_behind ends_escaping chars is_utf8 encode_utf8 is_blank is_digit begins_word in_word is_sign marks_escapes in_line next_is run_end quote_end escape_end comment_end fraction_end number_end begins_line closed begun in_utf8 piece_at next_within next_token_of tokens_within tokens_of spelling inside undoubled name_of literal_of lexemes expression_references view_references plain_columns
makes_shown = refl

are_shown : settled made_shown checks_shown values_shown ≡ values_shown
unfolding made_shown checks_shown
are_shown = refl

says_shown : causes_in postgres run_shown empty_entries ≡ said_shown
unfolding lines row_of fields_of field_of pieces_after escape decode_behind ends_escaping chars is_utf8 encode_utf8 is_blank is_digit begins_word in_word is_sign marks_escapes in_line next_is run_end quote_end escape_end comment_end fraction_end number_end begins_line closed begun in_utf8 piece_at next_within next_token_of tokens_within tokens_of spelling inside undoubled name_of literal_of lexemes expression_references view_references plain_columns
says_shown = refl

made_granted : List Made
made_granted =
    revoke (letters (codes "C")) (ROLE (codes "r")) (grant (letters (codes "U")) false (ROLE (codes "r")) (grant (letters (codes "UC")) true (ROLE (codes "r")) (fresh schema_rights)))
    ∷ revoke (letters (codes "U")) OWNER (join_role (codes "r") (grant (letters (codes "C")) true (ROLE (codes "r")) (fresh schema_rights)))
    ∷ fresh schema_rights
    ∷ revoke (letters (codes "U")) OWNER (join_role (codes "s") (fresh_type))
    ∷ revoke (letters (codes "U")) PUBLIC (fresh_type)
    ∷ grant (letters (codes "rw")) false PUBLIC (join_role (codes "s") (fresh sequence_rights))
    ∷ revoke (letters (codes "w")) OWNER (join_role (codes "s") (grant (letters (codes "r")) true (ROLE (codes "s")) (fresh table_rights)))
    ∷ []

checks_granted : List Checks
checks_granted = ((((codes "x"), (codes "VALUE < 9")) ∷ ((codes "y"), (codes "VALUE > 0")) ∷ []) ∷ [])

rest_granted_one : List Stmt
rest_granted_one = others_behind 14 run_granted

domain_granted_one : Domain
domain_granted_one = (record { base = (Words (codes "integer")); resolved = (resolved (Words (codes "integer")) None false); not_null = false; «default» = None; checks = empty })

old_granted_one : Checks
old_granted_one = (((codes "y"), (codes "VALUE > 0")) ∷ [])

begun_granted_one : Entries
begun_granted_one = after (firsts 13 run_granted)

there_granted_one : find key_cmp (key.UserType (at (codes "public") (codes "d"))) begun_granted_one ≡ Some (value.Domain (with_checks domain_granted_one old_granted_one))
unfolding begun_granted_one rest_granted_one domain_granted_one old_granted_one lines row_of fields_of field_of pieces_after escape decode_behind ends_escaping chars is_utf8 encode_utf8 is_blank is_digit begins_word in_word is_sign marks_escapes in_line next_is run_end quote_end escape_end comment_end fraction_end number_end begins_line closed begun in_utf8 piece_at next_within next_token_of tokens_within tokens_of spelling inside undoubled name_of literal_of lexemes expression_references view_references plain_columns
there_granted_one = refl

rest_granted_two : List Stmt
rest_granted_two = others_behind 15 run_granted

domain_granted_two : Domain
domain_granted_two = (record { base = (Words (codes "integer")); resolved = (resolved (Words (codes "integer")) None false); not_null = false; «default» = None; checks = empty })

old_granted_two : Checks
old_granted_two = (((codes "x"), (codes "VALUE < 9")) ∷ ((codes "y"), (codes "VALUE > 0")) ∷ [])

begun_granted_two : Entries
unfolding begun_granted_one rest_granted_one domain_granted_one old_granted_one
begun_granted_two = entries_after postgres (firsts 0 rest_granted_one) (next_in (asked (with_checks domain_granted_one old_granted_one) (at (codes "public") (codes "d")) (codes "x") (codes "VALUE < 9") (find bytes_cmp (codes "x") old_granted_one)) begun_granted_one)

there_granted_two : find key_cmp (key.UserType (at (codes "public") (codes "d"))) begun_granted_two ≡ Some (value.Domain (with_checks domain_granted_two old_granted_two))
unfolding begun_granted_one rest_granted_one domain_granted_one old_granted_one begun_granted_two rest_granted_two domain_granted_two old_granted_two lines row_of fields_of field_of pieces_after escape decode_behind ends_escaping chars is_utf8 encode_utf8 is_blank is_digit begins_word in_word is_sign marks_escapes in_line next_is run_end quote_end escape_end comment_end fraction_end number_end begins_line closed begun in_utf8 piece_at next_within next_token_of tokens_within tokens_of spelling inside undoubled name_of literal_of lexemes expression_references view_references plain_columns
there_granted_two = refl

makes_granted : after run_granted ≡ filled made_granted checks_granted values_granted
unfolding begun_granted_one rest_granted_one domain_granted_one old_granted_one begun_granted_two rest_granted_two domain_granted_two old_granted_two made_granted checks_granted lines row_of fields_of field_of pieces_after escape decode_behind ends_escaping chars is_utf8 encode_utf8 is_blank is_digit begins_word in_word is_sign marks_escapes in_line next_is run_end quote_end escape_end comment_end fraction_end number_end begins_line closed begun in_utf8 piece_at next_within next_token_of tokens_within tokens_of spelling inside undoubled name_of literal_of lexemes expression_references view_references plain_columns
makes_granted = asked-in (at (codes "public") (codes "d")) (codes "x") (codes "VALUE < 9") rest_granted_one domain_granted_one old_granted_one begun_granted_one there_granted_one ∙ asked-in (at (codes "public") (codes "d")) (codes "y") (codes "VALUE < 8") rest_granted_two domain_granted_two old_granted_two begun_granted_two there_granted_two

are_granted : settled made_granted checks_granted values_granted ≡ values_granted
unfolding made_granted checks_granted
are_granted = refl

pub returns : goal.returns
returns c = record {
  keyed = leaves run_keyed made_keyed checks_keyed values_keyed makes_keyed are_keyed;
  keyed_said = says run_keyed ∙ says_keyed;
  shown = leaves run_shown made_shown checks_shown values_shown makes_shown are_shown;
  shown_said = says run_shown ∙ says_shown;
  granted = leaves run_granted made_granted checks_granted values_granted makes_granted are_granted;
}

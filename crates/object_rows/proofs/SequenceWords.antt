-- The words that stand for the types of sequences.
use Rattle.std.proofs.Common.{◌≡◌, Some, refl}
use Rattle.std.specs.Prelude.{codes}
use Rattle.std.specs.Str.{is_utf8, chars}
use Rattle.std.proofs.Math.Utf8.{encode}
use Rattle.sql_lex.specs.Bytes.{is_blank, is_digit, begins_word, in_word, is_sign, marks_escapes, in_line, next_is}
use Rattle.sql_lex.specs.Ends.{run_end, quote_end, escape_end, comment_end, fraction_end, number_end}
use Rattle.sql_lex.specs.Pieces.{begins_line, closed, begun, in_utf8, piece_at}
use Rattle.sql_lex.specs.Next.{next_within, next_token_of, tokens_within, tokens_of}
use Rattle.sql_lex.specs.Meaning.{inside, undoubled, name_of, literal_of, is_keyword_of, spelling}
use Rattle.cat_model.specs.declared.constraint.SequenceKind.TheVariants.{SmallInt, Integer, BigInt}
use Rattle.ddl_parts.specs.Lexemes.{is_word, is_sign as sign_of}
use Rattle.ddl_parts.specs.Parts.{scan}
use Rattle.row_texts.specs.Tokens.{all_tokens}
use Rattle.row_texts.specs.SequenceTypes.{sequence_type, sequence_kind}

pub smallint_said : sequence_kind (codes "smallint") ≡ Some SmallInt
unfolding is_utf8 chars encode is_blank is_digit begins_word in_word is_sign marks_escapes in_line next_is run_end quote_end escape_end comment_end fraction_end number_end begins_line closed begun in_utf8 piece_at next_within next_token_of inside undoubled name_of literal_of is_keyword_of spelling is_word sign_of scan tokens_within tokens_of all_tokens sequence_type sequence_kind
smallint_said = refl

pub integer_said : sequence_kind (codes "integer") ≡ Some Integer
unfolding is_utf8 chars encode is_blank is_digit begins_word in_word is_sign marks_escapes in_line next_is run_end quote_end escape_end comment_end fraction_end number_end begins_line closed begun in_utf8 piece_at next_within next_token_of inside undoubled name_of literal_of is_keyword_of spelling is_word sign_of scan tokens_within tokens_of all_tokens sequence_type sequence_kind
integer_said = refl

pub bigint_said : sequence_kind (codes "bigint") ≡ Some BigInt
unfolding is_utf8 chars encode is_blank is_digit begins_word in_word is_sign marks_escapes in_line next_is run_end quote_end escape_end comment_end fraction_end number_end begins_line closed begun in_utf8 piece_at next_within next_token_of inside undoubled name_of literal_of is_keyword_of spelling is_word sign_of scan tokens_within tokens_of all_tokens sequence_type sequence_kind
bigint_said = refl

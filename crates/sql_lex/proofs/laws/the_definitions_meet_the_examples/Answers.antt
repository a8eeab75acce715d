use Rattle.std.proofs.Common.{refl}
use Rattle.std.specs.Str.{is_utf8, chars}
use Rattle.std.proofs.Math.Utf8.{encode}
use Rattle.sql_lex.specs.Bytes.{is_blank, is_digit, begins_word, in_word, is_sign, marks_escapes, in_line, next_is}
use Rattle.sql_lex.specs.Ends.{run_end, quote_end, escape_end, comment_end, fraction_end, number_end}
use Rattle.sql_lex.specs.Pieces.{begins_line, closed, begun, in_utf8, piece_at}
use Rattle.sql_lex.specs.Next.{next_within, next_token_of, tokens_within, tokens_of}
use Rattle.sql_lex.specs.Reserved.{is_reserved}
use Rattle.sql_lex.specs.Written.{begins_bare, in_bare, is_bare, doubled, quoted, written_name, written_literal}
use Rattle.sql_lex.specs.Meaning.{inside, undoubled, name_of, literal_of}
use Rattle.sql_lex.proofs.laws.the_definitions_meet_the_examples.Goals as goal

pub returns : goal.returns
unfolding is_utf8 chars encode is_blank is_digit begins_word in_word is_sign marks_escapes in_line next_is run_end quote_end escape_end comment_end fraction_end number_end begins_line closed begun in_utf8 piece_at next_within next_token_of tokens_within tokens_of is_reserved begins_bare in_bare is_bare doubled quoted written_name written_literal inside undoubled name_of literal_of
returns c = record {
  dotted = refl;
  unclosed = refl;
  nested = refl;
  never_closed = refl;
  escapes = refl;
  no_escapes = refl;
  doubled_quote = refl;
  numbers = refl;
  meta_line = refl;
  no_meta_line = refl;
  line_comment = refl;
  no_utf8 = refl;
  dollar = refl;
  from_inside = refl;
  bare_name = refl;
  reserved_name = refl;
  written = refl;
  small = refl;
  quoted_name = refl;
  escaped_text = refl;
}

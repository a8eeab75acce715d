use Rattle.std.proofs.Common.{refl}
use Rattle.std.specs.Str.{is_utf8, chars}
use lib.Utf8.{encode}
use Rattle.copy_text.specs.Pieces.{pieces_after, ends_escaping}
use Rattle.copy_text.specs.Escapes.{decode_behind, escape}
use Rattle.copy_text.specs.Rows.{spell_row}
use Rattle.copy_text.specs.Reading.{row_of, fields_of, field_of}
use Rattle.copy_text.specs.Lines.{lines, rows_from, line_at}
use Rattle.copy_text.proofs.laws.worked_examples.Goals as goal

pub returns : goal.returns
unfolding row_of fields_of field_of pieces_after ends_escaping decode_behind escape is_utf8 chars encode spell_row lines rows_from line_at
returns c = record {
  escapes = refl;
  modulo = refl;
  letters = refl;
  null = refl;
  letter_n = refl;
  empty = refl;
  escaped_tab = refl;
  open_end = refl;
  raw_return = refl;
  bad_utf8 = refl;
  field_start = refl;
  written = refl;
  read_again = refl;
  first_line = refl;
  second_line = refl;
  at_end = refl;
  rows = refl;
}

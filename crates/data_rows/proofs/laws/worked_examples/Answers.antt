use Rattle.std.proofs.Common.{refl}
use Rattle.std.specs.Str.{is_utf8, chars}
use lib.Utf8.{encode}
use Rattle.copy_text.specs.Pieces.{pieces_after, ends_escaping}
use Rattle.copy_text.specs.Escapes.{decode_behind, escape}
use Rattle.copy_text.specs.Reading.{row_of, fields_of, field_of}
use Rattle.copy_text.specs.Lines.{lines}
use Rattle.data_rows.specs.Rows.{rows_from, rows_of}
use Rattle.data_rows.proofs.laws.worked_examples.Goals as goal

pub returns : goal.returns
unfolding is_utf8 chars encode pieces_after ends_escaping decode_behind escape row_of fields_of field_of lines rows_from rows_of
returns c = record {
  two_rows = refl;
  last_newline = refl;
  no_row = refl;
  empty_field = refl;
  no_columns = refl;
  no_columns_no_row = refl;
  end_mark = refl;
  end_mark_alone = refl;
  second_row = refl;
  open_end = refl;
  copy_first = refl;
  first_row_first = refl;
  escaped = refl;
  null = refl;
  faults_too = refl;
}

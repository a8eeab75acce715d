use Rattle.std.proofs.Common.{refl}
use Rattle.std.specs.Str.{is_utf8, chars}
use lib.Utf8.{encode}
use Rattle.copy_text.specs.Pieces.{pieces_after, ends_escaping}
use Rattle.copy_text.specs.Escapes.{decode_behind, escape}
use Rattle.copy_text.specs.Rows.{spell_row}
use Rattle.copy_text.specs.Reading.{row_of, fields_of, field_of}
use Rattle.copy_text.specs.Lines.{lines}
use Rattle.dump_files.specs.Spelled.{spelled, spelled_from}
use Rattle.dump_files.proofs.laws.worked_examples.Goals as goal

pub returns : goal.returns
unfolding is_utf8 chars encode pieces_after ends_escaping decode_behind escape spell_row row_of fields_of field_of lines spelled_from spelled
returns c = record {
  two_rows = refl;
  no_row = refl;
  last_line = refl;
  second_row = refl;
  open_end = refl;
}

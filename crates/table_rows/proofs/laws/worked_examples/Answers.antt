use Rattle.std.proofs.Common.{refl}
use Rattle.std.specs.Str.{is_utf8, chars}
use lib.Utf8.{encode}
use Rattle.copy_text.specs.Pieces.{pieces_after, ends_escaping}
use Rattle.copy_text.specs.Escapes.{decode_behind, escape}
use Rattle.copy_text.specs.Reading.{row_of, fields_of, field_of}
use Rattle.copy_text.specs.Lines.{lines}
use Rattle.data_rows.specs.Rows.{rows_from, rows_of}
use Rattle.oid_groups.specs.Orders.{placed, by_number}
use Rattle.table_rows.specs.Tables.{is_table_row, table_oids}
use Rattle.table_rows.specs.Values.{first_fault}
use Rattle.table_rows.proofs.laws.worked_examples.Goals as goal

pub returns : goal.returns
unfolding is_utf8 chars encode pieces_after ends_escaping decode_behind escape row_of fields_of field_of lines rows_from rows_of placed by_number is_table_row table_oids first_fault
returns c = record {
  tables = record { none = refl; by_oid = refl; twice = refl; two_columns = refl; no_columns = refl };
  texts = record {
    nothing = refl;
    rows = refl;
    after_end = refl;
    too_many = refl;
    too_few = refl;
    no_columns = refl;
    least_oid = refl;
    copy_first = refl;
  };
}

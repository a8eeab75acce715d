use Rattle.std.proofs.Common.{refl}
use Rattle.std.specs.Fmt.{digits}
use Rattle.std.specs.Str.{is_utf8, chars}
use lib.Utf8.{encode}
use Rattle.copy_text.specs.Pieces.{pieces_after, ends_escaping}
use Rattle.copy_text.specs.Escapes.{decode_behind, escape}
use Rattle.copy_text.specs.Rows.{spell_row}
use Rattle.copy_text.specs.Reading.{row_of, fields_of, field_of}
use Rattle.copy_text.specs.Lines.{lines}
use Rattle.acl_text.specs.Acls.{acl_of, elements_from, items_of}
use Rattle.cat_rows.specs.Numbers.{oid_of, int_of}
use Rattle.cat_rows.specs.Cells.{cell_of}
use Rattle.cat_rows.specs.Reading.{cell_at, cells_at, row_start, cells_of, table_from, table_of}
use Rattle.cat_rows.proofs.laws.worked_examples.Goals as goal

pub returns : goal.returns
unfolding digits is_utf8 chars encode pieces_after ends_escaping decode_behind escape spell_row row_of fields_of field_of lines acl_of elements_from items_of oid_of int_of cell_of cell_at cells_at row_start cells_of table_from table_of
returns c = record {
  oids = record { zero = refl; greatest = refl; too_great = refl; leading_zero = refl; plus = refl; minus = refl; nothing = refl; blank = refl };
  integers = record {
    zero = refl;
    minus_one = refl;
    greatest = refl;
    too_great = refl;
    least = refl;
    too_small = refl;
    leading_zero = refl;
    minus_zero = refl;
    plus = refl;
    lone_minus = refl;
  };
  other_cells = record {
    bool = refl;
    no_bool = refl;
    letter = refl;
    two_letters = refl;
    no_name = refl;
    empty_text = refl;
    null_for_text = refl;
    null = refl;
    default_rights = refl;
    no_list = refl;
  };
  lines = record {
    row = refl;
    three_columns = refl;
    empty_line = refl;
    bad_oid = refl;
    longest_name = refl;
    long_name = refl;
    first_bad = refl;
    columns_first = refl;
    copy_first = refl;
  };
  tables = record { none = refl; second_line = refl; end_mark = refl; written = refl };
  orders = record { schemas = refl; labels = refl; places = refl; classes = refl; objects = refl; tie = refl };
}

use Rattle.std.proofs.Common.{refl}
use Rattle.std.specs.Fmt.{digits}
use Rattle.std.specs.Str.{is_utf8, chars}
use Rattle.std.proofs.Math.Utf8.{encode}
use Rattle.copy_text.specs.Lines.{lines}
use Rattle.copy_text.specs.Pieces.{pieces_after, ends_escaping}
use Rattle.copy_text.specs.Escapes.{decode_behind, escape}
use Rattle.copy_text.specs.Rows.{spell_row}
use Rattle.copy_text.specs.Reading.{row_of, fields_of, field_of}
use Rattle.acl_text.specs.Acls.{acl_of, elements_from, items_of}
use Rattle.cat_rows.specs.Numbers.{oid_of, int_of}
use Rattle.cat_rows.specs.Cells.{cell_of}
use Rattle.cat_rows.specs.Reading.{cell_at, cells_at, row_start, cells_of, table_from, table_of}
use Rattle.tool_laws.proofs.laws.the_empty_export_holds_public.Goals as goal

pub returns : goal.returns
unfolding digits is_utf8 chars encode pieces_after ends_escaping decode_behind escape spell_row row_of fields_of field_of lines acl_of elements_from items_of oid_of int_of cell_of cell_at cells_at row_start cells_of table_from table_of
returns c = refl

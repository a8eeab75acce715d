-- The conditions of pg_sequence.
use Rattle.std.specs.Prelude.{Bool, true, false, not, ◌&&◌, ◌==◌, Option, Some, None, if◌then◌else◌}
use Rattle.cat_rows.specs.declared.catalogue.Catalogue.{Catalogue}
use Rattle.cat_rows.specs.declared.sequences.SequenceRow.{SequenceRow}
use Rattle.cat_model.specs.declared.constraint.SequenceKind.{SequenceKind}
use Rattle.cat_model.specs.RelationEffects.{fits_sequence, within}
use Rattle.cat_model.specs.declared.value.Sequence.{Sequence}
use Rattle.cat_names.specs.Kinds.{kind_of, is_table, is_sequence}
use Rattle.cat_book.specs.Leads.{has_number}
use Rattle.cat_book.specs.Rules.{Rules}
use Rattle.row_texts.specs.SequenceTypes.{sequence_kind}

-- the numbers of a sequence's row
abbrev pub numbers : SequenceKind → SequenceRow → Sequence
numbers kind row = record { kind = kind; start = row.seqstart; step = row.seqincrement; min = row.seqmin; max = row.seqmax; cache = row.seqcache; cycle = row.seqcycle }

-- Whether the numbers are those of a sequence of this type, as CREATE SEQUENCE asks, and the last value lies between its
-- bounds.
abbrev pub has_good_numbers : Option SequenceKind → SequenceRow → Bool
has_good_numbers None row = false
has_good_numbers (Some kind) row = fits_sequence (numbers kind row) && within row.seqmin row.seqmax row.last_value

-- the column that owns a sequence is there, or none owns it
abbrev pub is_owner_there : Catalogue → SequenceRow → Bool
is_owner_there cat row =
    if row.ownrel == 0 then true
    else is_table (kind_of cat.pg_class row.ownrel) && has_number cat row.ownrel row.owncol

-- the sequence and the column that owns it, if one does, are there
abbrev pub is_there : Catalogue → SequenceRow → Bool
is_there cat row = is_sequence (kind_of cat.pg_class row.seqrelid) && is_owner_there cat row

-- a sequence has one row, is there with its owner, and its numbers are those of its type
abbrev pub sequence_rules : Rules Catalogue SequenceRow
sequence_rules = record {
  keys = λ row. record { oid = Some row.seqrelid; name = None; place = None; is_marked = false };
  unmet = λ cat row. record {
    dangles = not (is_there cat row);
    is_bad = not (has_good_numbers (sequence_kind row.seqtype) row);
    left_out = None;
  };
  needed = λ cat. true;
}

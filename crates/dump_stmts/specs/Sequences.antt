-- The statements that make sequences, set their values and name the columns that own them.
use Rattle.std.specs.Prelude.{Option}
use Rattle.std.specs.Option.{option_map, option_and_then}
use Rattle.cat_rows.specs.declared.catalogue.Catalogue.{Catalogue}
use Rattle.cat_rows.specs.declared.relations.AttributeRow.{AttributeRow}
use Rattle.cat_rows.specs.declared.sequences.SequenceRow.{SequenceRow}
use Rattle.cat_model.specs.declared.constraint.SequenceKind.{SequenceKind}
use Rattle.cat_model.specs.declared.object.QName.{QName}
use Rattle.cat_model.specs.declared.stmt.Stmt.{Stmt}
use Rattle.cat_model.specs.declared.stmt.Stmt.TheVariants as stmt
use Rattle.cat_book.specs.Paths.{class_path_of}
use Rattle.row_texts.specs.SequenceTypes.{sequence_kind}
use Rattle.graph_parts.specs.declared.object.Obj.{Obj}
use Rattle.dump_rows.specs.Rows.{column_at, sequence_of}
use Rattle.dump_stmts.specs.Paths.{path_of}

abbrev pub of_kind : SequenceRow → SequenceKind → QName → Stmt
of_kind row kind q = stmt.CreateSequence q kind row.seqstart row.seqincrement row.seqmin row.seqmax row.seqcache row.seqcycle

abbrev pub sequence_in : Obj → SequenceRow → Option Stmt
sequence_in o row = option_and_then (λ kind. option_map (of_kind row kind) (path_of o)) (sequence_kind row.seqtype)

unfoldable pub sequence_stmt : Catalogue → Obj → Option Stmt
sequence_stmt cat o = option_and_then (sequence_in o) (sequence_of cat o.id.oid)

abbrev pub value_of : SequenceRow → QName → Stmt
value_of row q = stmt.SetVal q row.last_value row.is_called

unfoldable pub value_stmt : Catalogue → Obj → Option Stmt
value_stmt cat o = option_and_then (λ row. option_map (value_of row) (path_of o)) (sequence_of cat o.id.oid)

-- ---- owners

abbrev pub owned : QName → QName → AttributeRow → Stmt
owned q table column = stmt.OwnedBy q table column.attname

abbrev pub owned_in : Catalogue → SequenceRow → QName → Option Stmt
owned_in cat row q = option_and_then (λ table. option_map (owned q table) (column_at cat row.ownrel row.owncol)) (class_path_of cat row.ownrel)

-- the column that owns a sequence, where one does
unfoldable pub owned_stmt : Catalogue → Obj → Option Stmt
owned_stmt cat o = option_and_then (λ row. option_and_then (owned_in cat row) (path_of o)) (sequence_of cat o.id.oid)

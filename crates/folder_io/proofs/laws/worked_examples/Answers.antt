use Rattle.std.proofs.Common.{◌≡◌, ◌+◌, ◌≤◌, [], ◌∷◌, List, length, map, Option, Some, unwrap_or, Result, Ok, Err, codes, refl, sym, ap, ◌∙◌, arith}
use Rattle.std.specs.List.{sum_by}
use Rattle.std.proofs.lemmas.List.Sums.{sum_by-cons}
use Rattle.copy_text.specs.Pieces.{pieces_after, ends_escaping}
use Rattle.copy_text.specs.Escapes.{decode_behind, escape}
use Rattle.copy_text.specs.Reading.{row_of, fields_of, field_of}
use Rattle.copy_text.specs.Lines.{lines}
use Rattle.cat_rows.specs.declared.cell.Cell.{Cell}
use Rattle.cat_rows.specs.Numbers.{oid_of, int_of}
use Rattle.cat_rows.specs.Cells.{cell_of}
use Rattle.cat_rows.specs.Reading.{cell_at, cells_at, row_start, cells_of, table_from, table_of}
use Rattle.cat_rows.specs.declared.table.SysTable.{SysTable}
use Rattle.cat_rows.specs.declared.table.SysTable.TheVariants.{PgAuthid, PgAuthMembers, PgDatabase, PgNamespace, PgType, PgEnum, PgClass, PgAttribute, PgAttrdef, PgConstraint, PgIndex, PgSequence, PgRewrite, PgDescription, PgDepend}
use Rattle.std.specs.Str.{is_utf8, chars}
use Rattle.std.specs.Fmt.{digits}
use lib.Utf8.{encode}
use Rattle.folder_io.specs.declared.file.ExportFile.TheVariants.{Marker, Table}
use Rattle.folder_io.specs.declared.fault.FolderLimit.TheVariants.{TableFile}
use Rattle.folder_io.specs.declared.fault.FolderFault.{FolderFault}
use Rattle.folder_io.specs.declared.fault.FolderFault.TheVariants.{Missing}
use Rattle.folder_io.specs.Answers.{◌>>=◌, each_of}
use Rattle.folder_io.specs.Folders.{Bytes, marked, marker_of, within, file_text, text_of, texts_of, tables_of, catalogue_of, file_of, file_length, bytes_of, all_tables, marker, table_limit}
use Rattle.folder_io.specs.Examples.{File, tree_of, in_folder, empty_files, empty_export, empty_text, empty_catalogue}
use Rattle.cat_rows.specs.Catalogues.{rows_in}
use Rattle.folder_io.proofs.Examples.{found, first_of}
use Rattle.folder_io.proofs.Standing.{stands_read}
use Rattle.folder_io.proofs.laws.worked_examples.Goals as goal

abbrev after : List File → Option Bytes → Result (List (List (List Cell))) FolderFault
after files marker = marked (codes "D/format") marker >>= λ done. texts_of (codes "D") (tree_of files) >>= tables_of

-- the marker is tried first
tried : (files : List File) → catalogue_of (codes "D") (tree_of files) ≡ after files (first_of files (codes "D/format"))
unfolding marker_of catalogue_of
tried files = ap (after files) (found files (codes "D/format"))

abbrev only : Bytes → List File
only text = in_folder Marker text ∷ []

-- the tables behind the first
abbrev later_tables : List SysTable
later_tables = PgAuthMembers ∷ PgDatabase ∷ PgNamespace ∷ PgType ∷ PgEnum ∷ PgClass ∷ PgAttribute ∷ PgAttrdef ∷ PgConstraint ∷ PgIndex ∷ PgSequence ∷ PgRewrite ∷ PgDescription ∷ PgDepend ∷ []

no_authid : texts_of (codes "D") (tree_of (only (codes "1\n"))) ≡ Err (Missing (codes "D/pg_authid.copy"))
unfolding texts_of each_of text_of file_text
no_authid =
    ap (λ o. (within TableFile (codes "D/pg_authid.copy") o >>= λ text. Ok (record { table = PgAuthid; text = text })) >>= λ y. each_of (text_of (codes "D") (tree_of (only (codes "1\n")))) later_tables >>= λ ys. Ok (y ∷ ys))
    (found (only (codes "1\n")) (codes "D/pg_authid.copy"))

pub returns-clause-markers : goal.returns-clause-markers
returns-clause-markers c = record {
  nothing = tried [];
  no_tables = tried (only (codes "1\n")) ∙ ap (λ r. r >>= tables_of) no_authid;
  other_version = tried (only (codes "2\n"));
  no_line_feed = tried (only (codes "1"));
  longer = tried (only (codes "1\n\n"));
}

pub returns-clause-names : goal.returns-clause-names
unfolding digits
returns-clause-names c = record { marker = refl; table = refl; rows = refl }

pub returns-clause-rows : goal.returns-clause-rows
unfolding is_utf8 chars encode pieces_after ends_escaping decode_behind row_of fields_of field_of lines cell_at cells_at row_start cells_of table_from table_of
returns-clause-rows c = record { none = refl; too_few = refl }

-- ---- the empty export

fits : (table : SysTable) → length (empty_text table) ≤ table_limit
fits PgAuthid = omega arith
fits PgAuthMembers = omega arith
fits PgDatabase = omega arith
fits PgNamespace = omega arith
fits PgType = omega arith
fits PgEnum = omega arith
fits PgClass = omega arith
fits PgAttribute = omega arith
fits PgAttrdef = omega arith
fits PgConstraint = omega arith
fits PgIndex = omega arith
fits PgSequence = omega arith
fits PgRewrite = omega arith
fits PgDescription = omega arith
fits PgDepend = omega arith

there : (table : SysTable) → first_of empty_files (file_of (codes "D") (Table table)) ≡ Some (empty_text table)
there PgAuthid = refl
there PgAuthMembers = refl
there PgDatabase = refl
there PgNamespace = refl
there PgType = refl
there PgEnum = refl
there PgClass = refl
there PgAttribute = refl
there PgAttrdef = refl
there PgConstraint = refl
there PgIndex = refl
there PgSequence = refl
there PgRewrite = refl
there PgDescription = refl
there PgDepend = refl

reads : (table : SysTable) → table_of table (empty_text table) ≡ Ok (rows_in table empty_catalogue)
unfolding digits is_utf8 chars encode pieces_after ends_escaping decode_behind row_of fields_of field_of lines escape oid_of int_of cell_of cell_at cells_at row_start cells_of table_from table_of
reads PgAuthid = refl
reads PgAuthMembers = refl
reads PgDatabase = refl
reads PgNamespace = refl
reads PgType = refl
reads PgEnum = refl
reads PgClass = refl
reads PgAttribute = refl
reads PgAttrdef = refl
reads PgConstraint = refl
reads PgIndex = refl
reads PgSequence = refl
reads PgRewrite = refl
reads PgDescription = refl
reads PgDepend = refl

-- the bytes of these tables' files
tables_length : (tables : List SysTable) → sum_by (file_length (codes "D") empty_export) (map Table tables) ≡ sum_by (λ table. length (empty_text table)) tables
tables_length [] = refl
tables_length (table ∷ tables) =
    sum_by-cons (file_length (codes "D") empty_export) (Table table) (map Table tables)
    ∙ ap (λ o. length (unwrap_or o []) + sum_by (file_length (codes "D") empty_export) (map Table tables)) (found empty_files (file_of (codes "D") (Table table)) ∙ there table)
    ∙ ap (λ n. length (empty_text table) + n) (tables_length tables)
    ∙ sym (sum_by-cons (λ t. length (empty_text t)) table tables)

pub returns-clause-empty_export : goal.returns-clause-empty_export
unfolding bytes_of
returns-clause-empty_export c = record {
  reads = stands_read (codes "D") empty_export empty_catalogue (record {
    marked = found empty_files (file_of (codes "D") Marker);
    tables = λ table. record {
      text = empty_text table;
      there = found empty_files (file_of (codes "D") (Table table)) ∙ there table;
      fits = fits table;
      reads = reads table;
    };
  });
  bytes =
      sum_by-cons (file_length (codes "D") empty_export) Marker (map Table all_tables)
      ∙ ap (λ o. length (unwrap_or o []) + sum_by (file_length (codes "D") empty_export) (map Table all_tables)) (found empty_files (file_of (codes "D") Marker))
      ∙ ap (λ n. 2 + n) (tables_length all_tables);
}

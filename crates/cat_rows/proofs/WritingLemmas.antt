-- What is written for rows reads as these rows.
use Rattle.std.proofs.Common.{◌≡◌, ◌≢◌, ℕ, zero, suc, ltb, ◌+◌, ◌<◌, Bool, true, false, cond, eqb, List, [], ◌∷◌, ◌++◌, length, map, Some, None, Ok, ◌↔◌, IsTrue, refl, sym, ap, subst, ◌∙◌, append_assoc, arith}
use Rattle.std.specs.List.{All, AllByRecursion}
use Rattle.std.specs.Option.{option_map}
use Rattle.std.specs.Fmt.{decimal, signed_decimal}
use Rattle.std.proofs.lemmas.Bool.{lt-ltb, eq-eqb}
use Rattle.std.proofs.lemmas.Str.{IsUtf8-from_ascii}
use Rattle.std.proofs.lemmas.Fmt.{IsAscii-decimal, IsAscii-signed}
use Rattle.std.specs.Str.{IsAscii, is_utf8, chars}
use lib.Utf8.{encode}
use Rattle.std.proofs.lemmas.List.{length-map}
use Rattle.std.proofs.lemmas.List.Elements.{All-cons}
use Rattle.copy_text.specs.Texts.{IsName, IsText, is_name}
use Rattle.copy_text.specs.Marks.{newline, end_mark}
use Rattle.copy_text.specs.Pieces.{pieces_after, ends_escaping}
use Rattle.copy_text.specs.Escapes.{decode_behind, escape}
use Rattle.copy_text.specs.Rows.{Field, IsField, IsRow, SpellsRow, spell_row}
use Rattle.copy_text.specs.Reading.{row_of, fields_of, field_of as field_of_piece}
use Rattle.copy_text.specs.Lines.{lines, before_end_mark, data_lines}
use Rattle.cat_rows.specs.declared.table.SysTable.{SysTable}
use Rattle.cat_rows.specs.declared.table.SysTable.TheVariants.{PgAuthid, PgAuthMembers, PgDatabase, PgNamespace, PgType, PgEnum, PgClass, PgAttribute, PgAttrdef, PgConstraint, PgIndex, PgSequence, PgRewrite, PgDescription, PgDepend}
use Rattle.cat_rows.specs.declared.kind.ColKind.{ColKind}
use Rattle.cat_rows.specs.declared.cell.Cell.{Cell}
use Rattle.cat_rows.specs.declared.cell.Cell.TheVariants.{Oid, Int, Bool as BoolCell, Name, Text, NullText, Letter, Acl}
use Rattle.acl_text.specs.declared.list.AclItem.{AclItem}
use Rattle.acl_text.specs.Acls.{acl_of, spell_acl, IsAcl}
use Rattle.cat_rows.specs.Kinds.{columns}
use Rattle.cat_rows.specs.Cells.{cell_of, kind_of, field_of, IsCell}
use Rattle.cat_rows.specs.Reading.{cell_at, cells_at, row_start, cells_of, table_from, table_of}
use Rattle.cat_rows.specs.Writing.{IsRowOf, AreRowsOf, text_of}
use Rattle.cat_rows.proofs.LineLemmas.{NoNewline, lines-append, before_end_mark-more}
use Rattle.cat_rows.proofs.NumberLemmas.{oid_of-decimal, int_of-decimal, is_int-Fits}

abbrev pub NameTests : Type 0
NameTests = (bytes : List ℕ) → IsTrue (is_name bytes) ↔ IsName bytes

abbrev pub ListsRead : Type 0
ListsRead = (items : List AclItem) → IsAcl items → acl_of (spell_acl items) ≡ Some items

-- what the laws of the crates below say
pub record Told : Type 0 where
  pub names : NameTests
  pub spelled : (row : List Field) → IsRow row → SpellsRow row (spell_row row)
  pub exact : (row : List Field) (line : List ℕ) → NoNewline line → (row_of line ≡ Ok row) ↔ SpellsRow row line
  pub lists : ListsRead
  pub texts : (items : List AclItem) → IsAcl items → IsText (spell_acl items)

passes : {A : Type 0} (test : Bool) (x : A) → test ≡ true → cond test (Some x) None ≡ Some x
passes test x is = rw is refl

-- ---- cells

pub written_cell : NameTests → ListsRead → (cell : Cell) → IsCell cell → cell_of (kind_of cell) (field_of cell) ≡ Some cell
unfolding cell_of
written_cell names lists (Oid n) is = ap (option_map Oid) (oid_of-decimal (decimal n) n is refl)
written_cell names lists (Int n) is = ap (option_map Int) (int_of-decimal (signed_decimal n) n is refl)
written_cell names lists (BoolCell true) is = refl
written_cell names lists (BoolCell false) is = refl
written_cell names lists (Name name) is = ap (option_map Name) (passes (is_name name) name ((names name).1 is))
written_cell names lists (Text text) is = refl
written_cell names lists (NullText None) is = refl
written_cell names lists (NullText (Some text)) is = refl
written_cell names lists (Letter b) is = ap (option_map Letter) (passes (ltb b 128) b (lt-ltb b 128 is))
written_cell names lists (Acl None) is = refl
written_cell names lists (Acl (Some items)) is = ap (option_map (λ l. Acl (Some l))) (lists items is)

ascii_list : (b : ℕ) → b < 128 → IsAscii (b ∷ [])
ascii_list b below zero = below
ascii_list b below (suc i) = omega arith

one_ascii : (b : ℕ) → b < 128 → IsText (b ∷ [])
one_ascii b below = IsUtf8-from_ascii (b ∷ []) (ascii_list b below)

pub written_field : Told → (cell : Cell) → IsCell cell → IsField (field_of cell)
written_field told (Oid n) is = IsUtf8-from_ascii (decimal n) (IsAscii-decimal n (omega arith))
written_field told (Int n) is = let fits = is_int-Fits n is in IsUtf8-from_ascii (signed_decimal n) (IsAscii-signed n fits.sfits)
written_field told (BoolCell true) is = one_ascii 116 (omega arith)
written_field told (BoolCell false) is = one_ascii 102 (omega arith)
written_field told (Name name) is = is.utf8
written_field told (Text text) is = is
written_field told (NullText text) is = is
written_field told (Letter b) is = one_ascii b is
written_field told (Acl None) is = tt
written_field told (Acl (Some items)) is = told.texts items is

-- ---- rows

pub written_cells : Told → (cells : List Cell) (column : ℕ) → AllByRecursion IsCell cells → cells_at (map kind_of cells) (record { column = column; fields = map field_of cells }) ≡ Ok cells
unfolding cells_at cell_at
written_cells told [] column all = refl
written_cells told (cell ∷ more) column all = rw (written_cell told.names told.lists cell all.0, written_cells told more (column + 1) all.1) refl

all_fields : Told → (cells : List Cell) → AllByRecursion IsCell cells → All IsField (map field_of cells)
all_fields told [] all k d lt = absurd (omega arith)
all_fields told (cell ∷ more) all k d lt = All-cons IsField (field_of cell) (map field_of more) (written_field told cell all.0) (all_fields told more all.1) k d lt

some_columns : (table : SysTable) → 0 < length (columns table)
some_columns PgAuthid = omega arith
some_columns PgAuthMembers = omega arith
some_columns PgDatabase = omega arith
some_columns PgNamespace = omega arith
some_columns PgType = omega arith
some_columns PgEnum = omega arith
some_columns PgClass = omega arith
some_columns PgAttribute = omega arith
some_columns PgAttrdef = omega arith
some_columns PgConstraint = omega arith
some_columns PgIndex = omega arith
some_columns PgSequence = omega arith
some_columns PgRewrite = omega arith
some_columns PgDescription = omega arith
some_columns PgDepend = omega arith

length_of_row : (table : SysTable) (row : List Cell) → IsRowOf table row → length (map field_of row) ≡ length (columns table)
length_of_row table row is = length-map row field_of ∙ sym (length-map row kind_of) ∙ ap length is.kinds

pub written_is_row : Told → (table : SysTable) (row : List Cell) → IsRowOf table row → IsRow (map field_of row)
written_is_row told table row is = record {
  some = omega (arith, length_of_row table row is, some_columns table);
  each = all_fields told row is.cells;
}

reads_back : Told → (row : List Field) → IsRow row → row_of (spell_row row) ≡ Ok row
reads_back told row is = (told.exact row (spell_row row) (told.spelled row is).one_line).1 (told.spelled row is)

the_end_mark : row_of end_mark ≡ Ok (Some (46 ∷ []) ∷ [])
unfolding row_of fields_of field_of_piece pieces_after decode_behind escape ends_escaping is_utf8 chars encode
the_end_mark = refl

the_dot : spell_row (Some (46 ∷ []) ∷ []) ≡ 46 ∷ []
unfolding spell_row
the_dot = refl

no_end_mark : Told → (row : List Field) → IsRow row → spell_row row ≢ end_mark
no_end_mark told row is same =
    let read : row_of end_mark ≡ Ok row = ap row_of (sym same) ∙ reads_back told row is in
    let both : Ok row ≡ Ok (Some (46 ∷ []) ∷ []) = sym read ∙ the_end_mark in
    let it_is : row ≡ Some (46 ∷ []) ∷ [] = cc in
    let dot : end_mark ≡ 46 ∷ [] = sym same ∙ ap spell_row it_is ∙ the_dot in
    absurd cc

pub written_line : Told → (table : SysTable) (row : List Cell) → IsRowOf table row → cells_of (columns table) (spell_row (map field_of row)) ≡ Ok row
unfolding cells_of row_start
written_line told table row is =
    let read = reads_back told (map field_of row) (written_is_row told table row is) in
    let same : eqb (length (map field_of row)) (length (columns table)) ≡ true = eq-eqb _ _ (length_of_row table row is) in
    let P : List ColKind → Type 0 = λ kinds. cells_at kinds (record { column = 1; fields = map field_of row }) ≡ Ok row in
    rw (read, same) (subst P is.kinds (written_cells told row 1 is.cells))

-- ---- texts

pub written_table_from : Told → (table : SysTable) (rows : List (List Cell)) (n : ℕ) → AreRowsOf table rows → table_from (columns table) n (data_lines (text_of rows)) ≡ Ok rows
unfolding table_from lines
written_table_from told table [] n all = refl
written_table_from told table (row ∷ more) n all =
    let line = spell_row (map field_of row) in
    let is_row = written_is_row told table row all.0 in
    let cut : lines ((line ++ newline ∷ []) ++ text_of more) ≡ line ∷ lines (text_of more) = ap lines (append_assoc line (newline ∷ []) (text_of more)) ∙ lines-append line (text_of more) (told.spelled (map field_of row) is_row).one_line in
    let here : data_lines (text_of (row ∷ more)) ≡ line ∷ data_lines (text_of more) = ap before_end_mark cut ∙ before_end_mark-more line (lines (text_of more)) (no_end_mark told (map field_of row) is_row) in
    rw (here, written_line told table row all.0, written_table_from told table more (n + 1) all.1) refl

pub written_table : Told → (table : SysTable) (rows : List (List Cell)) → AreRowsOf table rows → table_of table (text_of rows) ≡ Ok rows
unfolding table_of
written_table told table rows all = written_table_from told table rows 1 all

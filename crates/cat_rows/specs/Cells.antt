-- A cell is a field of a system table with its type. Which field is which cell of a kind, and how a cell is written.
use Rattle.std.specs.Prelude.{ℕ, ◌<◌, ◌^◌, List, [], ◌∷◌, Option, Some, None, IfSome, IsTrue, Bool, true, false, decimal, codes, nat_lt, if◌then◌else◌}
use Rattle.std.specs.Option.{option_map}
use Rattle.std.specs.Str.{bytes_eq}
use Rattle.std.specs.Fmt.{signed_decimal}
use Rattle.copy_text.specs.Texts.{IsName, IsText, is_name}
use Rattle.copy_text.specs.Rows.{Field, IsField}
use Rattle.cat_rows.specs.declared.kind.ColKind.{ColKind}
use Rattle.cat_rows.specs.declared.kind.ColKind.TheVariants as kinds
use Rattle.cat_rows.specs.declared.cell.Cell.{Cell}
use Rattle.cat_rows.specs.declared.cell.Cell.TheVariants as cells
use Rattle.cat_rows.specs.Numbers.{oid_of, int_of, is_int}
use Rattle.acl_text.specs.Acls.{acl_of, spell_acl, IsAcl}

-- ---- reading a field

abbrev pub bool_of : List ℕ → Option Bool
bool_of text =
    if bytes_eq text (codes "t") then Some true
    else if bytes_eq text (codes "f") then Some false
    else None

abbrev pub name_of : List ℕ → Option (List ℕ)
name_of text = if is_name text then Some text else None

-- one byte, which is ASCII since a text is UTF-8
abbrev pub letter_of : List ℕ → Option ℕ
letter_of [] = None
letter_of (b ∷ []) = if nat_lt b 128 then Some b else None
letter_of (b ∷ c ∷ more) = None

-- the cell of a kind that a field spells; of all kinds only NullText and Acl take null
unfoldable pub cell_of : ColKind → Field → Option Cell
cell_of kinds.Oid (Some text) = option_map cells.Oid (oid_of text)
cell_of kinds.Int (Some text) = option_map cells.Int (int_of text)
cell_of kinds.Bool (Some text) = option_map cells.Bool (bool_of text)
cell_of kinds.NameCol (Some text) = option_map cells.Name (name_of text)
cell_of kinds.TextCol (Some text) = Some (cells.Text text)
cell_of kinds.NullText (Some text) = Some (cells.NullText (Some text))
cell_of kinds.NullText None = Some (cells.NullText None)
cell_of kinds.Letter (Some text) = option_map cells.Letter (letter_of text)
cell_of kinds.Acl (Some text) = option_map (λ items. cells.Acl (Some items)) (acl_of text)
cell_of kinds.Acl None = Some (cells.Acl None)
cell_of kinds.Oid None = None
cell_of kinds.Int None = None
cell_of kinds.Bool None = None
cell_of kinds.NameCol None = None
cell_of kinds.TextCol None = None
cell_of kinds.Letter None = None

-- ---- writing a cell

abbrev pub kind_of : Cell → ColKind
kind_of (cells.Oid n) = kinds.Oid
kind_of (cells.Int n) = kinds.Int
kind_of (cells.Bool b) = kinds.Bool
kind_of (cells.Name name) = kinds.NameCol
kind_of (cells.Text text) = kinds.TextCol
kind_of (cells.NullText text) = kinds.NullText
kind_of (cells.Letter b) = kinds.Letter
kind_of (cells.Acl acl) = kinds.Acl

-- the field that is written for a cell
abbrev pub field_of : Cell → Field
field_of (cells.Oid n) = Some (decimal n)
field_of (cells.Int n) = Some (signed_decimal n)
field_of (cells.Bool b) = Some (if b then codes "t" else codes "f")
field_of (cells.Name name) = Some name
field_of (cells.Text text) = Some text
field_of (cells.NullText text) = text
field_of (cells.Letter b) = Some (b ∷ [])
field_of (cells.Acl acl) = option_map spell_acl acl

-- a cell that can be written
abbrev pub IsCell : Cell → Type 0
IsCell (cells.Oid n) = n < 2 ^ 32
IsCell (cells.Int n) = IsTrue (is_int n)
IsCell (cells.Bool b) = Unit {0}
IsCell (cells.Name name) = IsName name
IsCell (cells.Text text) = IsText text
IsCell (cells.NullText text) = IsField text
IsCell (cells.Letter b) = b < 128
IsCell (cells.Acl acl) = IfSome acl IsAcl

-- Which lines spell which rows. A row is a list of at least one field, and a field is null (None) or a text.
-- A line has neither a newline nor a carriage return, and each of its pieces spells one field.
use Rattle.std.specs.Prelude.{◌≡◌, ◌≢◌, ℕ, ◌<◌, ◌++◌, Bool, false, List, [], ◌∷◌, length, map, Option, None, Some, is_some, ◌==◌, if◌then◌else◌}
use Rattle.std.specs.Option.{option_map_or}
use Rattle.std.specs.List.{All, AllZip, flat_map, join_with_byte}
use Rattle.copy_text.specs.Marks.{tab, newline, carriage_return, backslash, null_mark}
use Rattle.copy_text.specs.Texts.{IsText}
use Rattle.copy_text.specs.Pieces.{pieces, ends_in_backslash}
use Rattle.copy_text.specs.Escapes.{decode}

abbrev pub Field : Type 0
Field = Option (List ℕ)

-- The whole piece \N spells null. Any other piece spells the text that it stands for; inside a longer piece
-- \N stands for the letter N.
abbrev pub SpellsField : Field → List ℕ → Type 0
SpellsField None piece = piece ≡ null_mark
SpellsField (Some text) piece =
    (piece ≢ null_mark) × (ends_in_backslash piece ≡ false) × (decode piece ≡ text) × IsText text

-- the line spells the row
pub record SpellsRow (row : List Field) (line : List ℕ) : Type 0 where
  pub one_line : All (λ b. b ≢ newline) line
  pub no_return : All (λ b. b ≢ carriage_return) line
  pub fields : AllZip SpellsField row (pieces line)

-- ---- the one spelling that is written

-- a row as it can be written: at least one field, each null or a text
abbrev pub IsField : Field → Type 0
IsField None = Unit {0}
IsField (Some text) = IsText text

pub record IsRow (row : List Field) : Type 0 where
  pub some : 0 < length row
  pub each : All IsField row

-- the letter by which a byte is escaped: backslash, and the control characters from backspace to carriage return,
-- of which one is the tab
abbrev pub letter_of : ℕ → Option ℕ
letter_of b =
    if b == backslash then Some backslash
    else if b == 8 then Some 98
    else if b == 9 then Some 116
    else if b == 10 then Some 110
    else if b == 11 then Some 118
    else if b == 12 then Some 102
    else if b == 13 then Some 114
    else None

abbrev pub is_escaped : ℕ → Bool
is_escaped b = is_some (letter_of b)

-- a byte without a letter is written as it is
abbrev pub spell_byte : ℕ → List ℕ
spell_byte b = option_map_or (λ letter. backslash ∷ letter ∷ []) (letter_of b) (b ∷ [])

abbrev pub spell_text : List ℕ → List ℕ
spell_text text = flat_map spell_byte text

abbrev pub spell_field : Field → List ℕ
spell_field None = null_mark
spell_field (Some text) = spell_text text

-- the written spelling of a row, without its newline
unfoldable pub spell_row : List Field → List ℕ
spell_row row = join_with_byte tab (map spell_field row)

-- the lines of rows, each with its newline
abbrev pub spell_rows : List (List Field) → List ℕ
spell_rows rows = flat_map (λ row. spell_row row ++ newline ∷ []) rows

-- new is old with more behind it
abbrev pub Extends : List ℕ → List ℕ → Type 0
Extends old new = (more : List ℕ) × (new ≡ old ++ more)

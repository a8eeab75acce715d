-- Lines of a text as rows of a table, and their keys in one column.
use Rattle.std.specs.Prelude.{◌≡◌, ◌⊎◌, ℕ, Bool, true, false, not, ◌&&◌, List, [], ◌∷◌, length, map, Option, Some, None, Result, Ok, Err}
use Rattle.std.specs.List.{AllByRecursion, list_any}
use Rattle.std.specs.Borrow.{Bor}
use Rattle.std.specs.declared.cmp.Ordering.{Ordering}
use Rattle.std.specs.declared.cmp.Ordering.TheVariants.{Less}
use Rattle.std.specs.Ordering.{nat_cmp}
use Rattle.std.specs.Cmp.Lexicographic.{slice_cmp}
use Rattle.copy_text.specs.declared.fault.CopyFault.{CopyFault}
use Rattle.copy_text.specs.Lines.{data_lines}
use Rattle.copy_text.specs.Reading.{row_of}
use Rattle.cat_model.specs.declared.value.Column.{Column}
use Rattle.cat_model.specs.Values.{Bytes, Row}
use Rattle.cat_model.specs.Lexemes.{same_text}
use Rattle.cat_model.specs.FieldTypes.{takes}
use Rattle.line_fields.specs.Clear.{IsClearText}
use Rattle.key_sets.specs.declared.key_set.KeySet.{KeySet}
use Rattle.key_sets.specs.Holding.{holds}
use Rattle.cat_model.specs.CopiedRows.{fields_cause}
use Rattle.row_keys.specs.ByPlaces.{field_at}

-- a column takes a field: a value of its type, or null where that isn't refused
abbrev pub FieldFits : Bool → Column → Option Bytes → Type 0
FieldFits required column (Some text) = takes column.resolved text ≡ true
FieldFits required column None = required ≡ false

-- a column takes a piece that stands for itself
abbrev pub TakesPiece : Column → Bytes → Type 0
TakesPiece column piece = takes column.resolved piece ≡ true

-- the line is a row with a field for each column, which takes it
pub record LineFits (columns : List Column) (primary : List Bytes) (line : Bytes) : Type 0 where
  pub row : Row
  pub reads : row_of line ≡ Ok row
  pub many : length row ≡ length columns
  pub taken : (number : ℕ) → fields_cause primary number 1 columns row ≡ None

-- the key of a line that reads so, in the column at a place
abbrev pub key_read : List Column → ℕ → Result Row CopyFault → Option Bytes
key_read columns place (Ok row) = field_at columns (Some place) row
key_read columns place (Err fault) = None

abbrev pub line_key : List Column → ℕ → Bytes → Option Bytes
line_key columns place line = key_read columns place (row_of line)

-- the keys of a text's lines
abbrev pub line_keys : List Column → ℕ → Bytes → List (Option Bytes)
line_keys columns place text = map (line_key columns place) (data_lines text)

-- a line has no key but this one, if it has one
abbrev pub HasAtMost : Option Bytes → Option Bytes → Type 0
HasAtMost key found = (found ≡ None) ⊎ (found ≡ key)

-- none of these keys stands among those before it, or the ones that were known; null stands for none
abbrev pub none_again : List Bytes → List (Option Bytes) → Bool
none_again known [] = true
none_again known (None ∷ more) = none_again known more
none_again known (Some key ∷ more) = not (list_any (same_text key) known) && none_again (key ∷ known) more

abbrev pub same_some : Bytes → Option Bytes → Bool
same_some key None = false
same_some key (Some other) = same_text key other

-- the set has only keys that are among these
abbrev pub AreAmong : List (Option Bytes) → KeySet → Type 0
AreAmong keys set = (key : Bytes) → holds set key ≡ true → list_any (same_some key) keys ≡ true

-- the set has exactly these keys
abbrev pub AreKnown : List Bytes → KeySet → Type 0
AreKnown keys set = (key : Bytes) → holds set key ≡ list_any (same_text key) keys

-- each of these keys that isn't null is one of the parents
abbrev pub all_among : List (Option Bytes) → List (Option Bytes) → Bool
all_among parents [] = true
all_among parents (None ∷ more) = all_among parents more
all_among parents (Some key ∷ more) = list_any (same_some key) parents && all_among parents more

-- ---- keys that rise

-- a shorter key comes first, and of two as long the lesser
abbrev pub by_length : Bytes → Bytes → Ordering
by_length a b = slice_cmp nat_cmp (length a ∷ a) (length b ∷ b)

-- each of these keys is the last one or comes before it; where there is no last one there is none
abbrev pub AreUpTo : Option (Bor (List ℕ)) → List Bytes → Type 0
AreUpTo None known = (key : Bytes) → list_any (same_text key) known ≡ false
AreUpTo (Some last) known = (key : Bytes) → list_any (same_text key) known ≡ true → (key ≡ last.now) ⊎ (by_length key last.now ≡ Less)

-- ---- lines without an escape

-- the first line of a text has this key, and what stands behind the line is such a text too
pub record HasFirst (columns : List Column) (place : ℕ) (text key behind : Bytes) : Type 0 where
  pub keys : line_keys columns place text ≡ Some key ∷ line_keys columns place behind
  pub rest : IsClearText behind

-- The first line of a text has this key, and what stands behind the line is such a text too; where its lines fit, all do.
pub record FitsFirst (columns : List Column) (place : ℕ) (text key behind : Bytes) : Type 0 where
  pub keys : line_keys columns place text ≡ Some key ∷ line_keys columns place behind
  pub fits : (primary : List Bytes) → AllByRecursion (LineFits columns primary) (data_lines behind) → AllByRecursion (LineFits columns primary) (data_lines text)
  pub rest : IsClearText behind

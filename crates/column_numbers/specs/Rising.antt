-- Numbers of columns that rise in each table of a catalogue by names.
use Rattle.std.specs.Prelude.{◌≡◌, ℕ, ◌<◌, ◌≤◌, ◌+◌, ℤ, pos, true, List, [], ◌∷◌, map, length, Some}
use Rattle.std.specs.FinMap.{get}
use Rattle.std.specs.List.{slice_get}
use Rattle.cat_model.specs.declared.object.QName.{QName}
use Rattle.cat_model.specs.declared.key.Key.TheVariants as key
use Rattle.cat_model.specs.declared.value.Value.TheVariants as value
use Rattle.cat_model.specs.declared.value.Column.{Column}
use Rattle.cat_model.specs.Tables.{distinct}
use Rattle.cat_model.specs.Values.{Bytes, Named}
use Rattle.column_numbers.specs.Numbers.{NumbersOf, number_of}
use Rattle.column_numbers.specs.Rule.{last}

-- no table has two columns of one name
abbrev pub HaveApartNames : Named → Type 0
HaveApartNames named = (q : QName) (columns : List Column) → get named (key.Rel q) ≡ Some (value.Table columns) → distinct (map (λ c. c.name) columns) ≡ true

-- from 1 up, rising in the order of the columns
pub record AreRising (named : Named) (number : QName → Bytes → ℤ) : Type 0 where
  pub rises : (q : QName) (columns : List Column) (i j : ℕ) (c d : Column) → get named (key.Rel q) ≡ Some (value.Table columns) → i < j → slice_get columns i ≡ Some c → slice_get columns j ≡ Some d → (m : ℕ) × (n : ℕ) × (number q c.name ≡ pos m) × (number q d.name ≡ pos n) × (m < n)
  pub from_one : (q : QName) (columns : List Column) (i : ℕ) (c : Column) → get named (key.Rel q) ≡ Some (value.Table columns) → slice_get columns i ≡ Some c → (n : ℕ) × (number q c.name ≡ pos n) × (0 < n)

-- the numbers that columns had rise behind this one, and each leaves room for the columns behind it
abbrev pub HadRising : NumbersOf → QName → ℕ → List Column → Type 0
HadRising had q before [] = Unit {0}
HadRising had q before (c ∷ cs) = (n : ℕ) × (number_of had q c.name ≡ pos n) × (before < n) × (n + length cs ≤ last) × HadRising had q n cs

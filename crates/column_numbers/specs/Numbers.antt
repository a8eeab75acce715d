-- The numbers of the columns of tables, as they were given; 0 for a column that has none.
use Rattle.std.specs.Prelude.{ℤ, pos, unwrap_or}
use Rattle.std.specs.FinMap.{FinMap, get}
use Rattle.cat_model.specs.declared.object.QName.{QName}
use Rattle.cat_model.specs.declared.key.Key.{Key}
use Rattle.cat_model.specs.declared.key.Key.TheVariants as key
use Rattle.cat_model.specs.Keys.{key_cmp}
use Rattle.cat_model.specs.Values.{Bytes}

-- by the key that the column's default would have
abbrev pub NumbersOf : Type 0
NumbersOf = FinMap key_cmp ℤ

abbrev pub number_at : NumbersOf → Key → ℤ
number_at numbers k = unwrap_or (get numbers k) (pos 0)

abbrev pub number_of : NumbersOf → QName → Bytes → ℤ
number_of numbers q column = number_at numbers (key.Default q column)

-- The conditions of pg_attribute, which are columns, and of pg_attrdef, which are their defaults.
use Rattle.std.specs.Prelude.{ℤ, pos, Bool, true, not, ◌||◌, ◌&&◌, false, [], Option, Some, None, if◌then◌else◌}
use Rattle.std.specs.Ordering.{int_cmp, is_le}
use Rattle.cat_rows.specs.declared.catalogue.Catalogue.{Catalogue}
use Rattle.cat_rows.specs.declared.relations.AttributeRow.{AttributeRow}
use Rattle.cat_rows.specs.declared.relations.AttrdefRow.{AttrdefRow}
use Rattle.cat_model.specs.declared.words.What.{What}
use Rattle.cat_model.specs.declared.words.What.TheVariants as what
use Rattle.cat_names.specs.Kinds.{kind_of, is_view}
use Rattle.cat_book.specs.Leads.{is_base_there, has_columns, has_number}
use Rattle.cat_book.specs.Rules.{Rules}
use Rattle.text_tables.specs.Agreeing.{is_type_named, is_met_default}

-- ---- columns

-- columns are numbered from 1, with gaps
abbrev pub is_column_number : ℤ → Bool
is_column_number number = is_le (int_cmp (pos 1) number)

-- the relation is a table or a view, and the type is there
abbrev pub is_column_there : Catalogue → AttributeRow → Bool
is_column_there cat row = has_columns (kind_of cat.pg_class row.attrelid) && is_base_there cat.pg_type row.atttypid

-- names and numbers are distinct within a relation, which is there with the type, and the text names that type
abbrev pub column_rules : Rules Catalogue AttributeRow
column_rules = record {
  keys = λ row. record { oid = None; name = Some (row.attrelid, 0, pos 0, row.attname); place = Some (row.attrelid, row.attnum); is_marked = false };
  unmet = λ cat row. record {
    dangles = not (is_column_there cat row);
    is_bad = not (is_column_number row.attnum) || not (is_type_named cat row.atttypid row.typtext);
    left_out = None;
  };
  needed = λ cat. true;
}

-- ---- defaults

-- the column is there, of a table or a view
abbrev pub is_default_there : Catalogue → AttrdefRow → Bool
is_default_there cat row = has_columns (kind_of cat.pg_class row.adrelid) && has_number cat row.adrelid row.adnum

-- a default on a column of a view
abbrev pub default_left_out : Catalogue → AttrdefRow → Option What
default_left_out cat row = if is_view (kind_of cat.pg_class row.adrelid) then Some what.DefaultOnView else None

-- oids are distinct; a column, which is there, has one default, which is an expression whose references are met
abbrev pub default_rules : Rules Catalogue AttrdefRow
default_rules = record {
  keys = λ row. record { oid = Some row.oid; name = Some (row.adrelid, 0, row.adnum, []); place = None; is_marked = false };
  unmet = λ cat row. record {
    dangles = not (is_default_there cat row);
    is_bad = not (is_met_default cat None row.adexpr);
    left_out = default_left_out cat row;
  };
  needed = λ cat. true;
}

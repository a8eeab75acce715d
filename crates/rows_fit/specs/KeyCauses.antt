-- What the keys of a table say of its rows: the first unique key that two rows have in common, and the first foreign
-- key for which a row has no parent.
use Rattle.std.specs.Prelude.{ℕ, List, [], ◌∷◌, Option, Some, None, Result, Err, if◌then◌else◌}
use Rattle.cat_model.specs.declared.object.QName.{QName}
use Rattle.cat_model.specs.declared.key.Key.TheVariants as key
use Rattle.cat_model.specs.declared.cause.Cause.{Cause}
use Rattle.cat_model.specs.declared.cause.Cause.TheVariants as cause
use Rattle.cat_model.specs.declared.value.Column.{Column}
use Rattle.cat_model.specs.Values.{Bytes, Row}
use Rattle.cat_model.specs.Tables.{repeated, orphan}
use Rattle.cat_model.specs.Trees.{Seen, same_path}
use Rattle.cat_model.specs.KeyEffects.{rows_in, columns_of}
use Rattle.cat_model.specs.CopyEffect.{Unique, Foreign}
use Rattle.rows_fit.specs.Causes.{first_cause}

abbrev pub duplicate_or : Bytes → Option (ℕ × ℕ) → Option Cause → Option Cause
duplicate_or name (Some (first, second)) later = Some (cause.Duplicate name first second)
duplicate_or name None later = later

-- of the first of these keys that two rows have in common
abbrev pub unique_cause : List Unique → List Column → List Row → Option Cause
unique_cause [] columns rows = None
unique_cause (u ∷ us) columns rows = duplicate_or u.0 (repeated columns u.1 rows) (unique_cause us columns rows)

-- a foreign key with the columns and the rows of the table that it refers to
pub record Linked : Type 0 where
  pub name : Bytes
  pub columns : List Bytes
  pub parent_names : List Bytes
  pub parent_columns : List Column
  pub parent_rows : List Row

abbrev pub orphan_or : Bytes → Option ℕ → Option Cause → Option Cause
orphan_or name (Some row) later = Some (cause.NoParent name row)
orphan_or name None later = later

-- of the first of these foreign keys for which a row has no parent
abbrev pub parent_cause : List Linked → List Column → List Row → Option Cause
parent_cause [] columns rows = None
parent_cause (f ∷ fs) columns rows =
    orphan_or f.name (orphan columns f.columns rows f.parent_columns f.parent_names f.parent_rows) (parent_cause fs columns rows)

-- the unique keys over all rows, then the foreign keys over those that are added
abbrev pub keys_cause : List Unique → List Linked → List Column → List Row → List Row → Option Cause
keys_cause uniques foreigns columns all added = first_cause (unique_cause uniques columns all) (parent_cause foreigns columns added)

-- ---- beside the effect of COPY

-- a foreign key of the table q with what stands under its parent; q's own rows are those after the COPY
abbrev pub linked : Seen → QName → List Row → Foreign → Linked
linked seen q all f = record {
  name = f.name;
  columns = f.columns;
  parent_names = f.parent_columns;
  parent_columns = columns_of (seen.at (key.Rel f.parent));
  parent_rows = if same_path q f.parent then all else rows_in (seen.at (key.Rows f.parent));
}

-- the cause, or what comes later
abbrev pub refused_or : {A : Type 0} → Option Cause → Result A Cause → Result A Cause
refused_or (Some because) later = Err because
refused_or None later = later

-- A table whose lines are tried part by part, and the keys that are known of tables that were tried.
use Rattle.std.specs.Prelude.{◌≡◌, ℕ, List, Option, true}
use Rattle.std.specs.FinMap.{get}
use Rattle.std.specs.List.{AllByRecursion}
use Rattle.std.specs.Option.{IfSome}
use Rattle.copy_text.specs.Lines.{data_lines}
use Rattle.cat_rows.specs.declared.catalogue.Catalogue.{Catalogue}
use Rattle.cat_model.specs.declared.key.Key.TheVariants as key
use Rattle.cat_model.specs.declared.object.QName.{QName}
use Rattle.cat_model.specs.declared.value.Column.{Column}
use Rattle.cat_model.specs.Values.{Bytes, Named}
use Rattle.cat_model.specs.KeyEffects.{columns_of}
use Rattle.cat_names.specs.DataSets.{TextsByOid}
use Rattle.table_rows.specs.Values.{text_of}
use Rattle.key_sets.specs.declared.key_set.KeySet.{KeySet}
use Rattle.plain_rows.specs.Lines.{AreAmong, LineFits, all_among, line_keys}
use Rattle.plain_rows.specs.Parts.{AreApart, EndsLine}
use Rattle.plain_loads.specs.declared.trying.KnownKeys.{KnownKeys}
use Rattle.plain_loads.specs.declared.trying.Link.{Link}
use Rattle.plain_loads.specs.declared.trying.TableTrial.{TableTrial}
use Rattle.plain_loads.specs.Meeting.{Meets, TableTakes}

-- the keys are among those of the lines of their table's text
abbrev pub IsKnown : Named → TextsByOid → KnownKeys → Type 0
IsKnown named texts k = AreAmong (line_keys (columns_of (get named (key.Rel k.path))) k.place (text_of texts k.table)) k.keys

-- each key of a text in the link's column is one of those that the parents have
abbrev pub LinkHolds : List Column → Bytes → Link → Type 0
LinkHolds columns text link = (all : List (Option Bytes)) → AreAmong all link.parents.now → all_among all (line_keys columns link.place text) ≡ true

-- So far the text's lines fit the table, have the set's keys, none of them twice, and have their parents.
pub record Seen (trial : TableTrial) (keys : KeySet) (text : Bytes) : Type 0 where
  pub ends : EndsLine text
  pub fit : AllByRecursion (LineFits trial.columns trial.primary.now) (data_lines text)
  pub apart : IfSome trial.own (λ place. AreApart (line_keys trial.columns place text) keys)
  pub linked : AllByRecursion (LinkHolds trial.columns text) trial.links.items

-- A trial of the table of this oid at this path: where a text was seen whole, and the known keys are those of other tables' texts, the
-- table meets the text.
pub record Tries (named : Named) (cat : Catalogue) (known : List KnownKeys) (table : ℕ) (path : QName) (trial : TableTrial) : Type 0 where
  pub meets : (texts : TextsByOid) → AllByRecursion (IsKnown named texts) known → (text : Bytes) (keys : KeySet) → Seen trial keys text → Meets named cat texts path text
  pub columns : columns_of (get named (key.Rel trial.path)) ≡ trial.columns
  pub oid : trial.table ≡ table

-- A trial of the table of this oid: where its text was seen whole, and the known keys are those of other tables' texts, the table
-- takes the text.
pub record Judges (named : Named) (cat : Catalogue) (known : List KnownKeys) (table : ℕ) (trial : TableTrial) : Type 0 where
  pub takes : (texts : TextsByOid) → AllByRecursion (IsKnown named texts) known → (keys : KeySet) → Seen trial keys (text_of texts table) → TableTakes named cat texts table
  pub columns : columns_of (get named (key.Rel trial.path)) ≡ trial.columns
  pub oid : trial.table ≡ table

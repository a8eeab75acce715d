-- Keys of a loaded catalogue that are in order.
use Rattle.std.specs.Prelude.{◌≡◌, true, Some}
use Rattle.std.specs.FinMap.{get}
use Rattle.std.specs.List.{list_all}
use Rattle.cat_rows.specs.declared.catalogue.Catalogue.{Catalogue}
use Rattle.cat_rows.specs.declared.relations.ClassRow.{ClassRow}
use Rattle.cat_model.specs.declared.key.Key.{Key}
use Rattle.cat_model.specs.declared.value.Value.{Value}
use Rattle.cat_names.specs.declared.relations.RelationKind.TheVariants.{Table}
use Rattle.cat_names.specs.Kinds.{relation_kind}
use Rattle.well_formed.specs.Formed.{IsWellFormed}
use Rattle.cat_naming.specs.Relations.{RowsByOid, columns_of}
use Rattle.cat_naming.specs.Entries.{catalogue_named}
use Rattle.cat_sound.specs.Asked.{is_row}
use Rattle.cat_sound.specs.Texts.{Texts}
use Rattle.cat_sound.specs.Sound.{IsSoundAt}
use Rattle.sound_rows.specs.Rows.{IsAmong}

-- whatever stands at the key in the catalogue by names of well-formed tables, and of any rows, is in order by itself, and
-- what it asks of others is met
abbrev pub IsInOrder : Texts → Key → Type 0
IsInOrder texts k = (cat : Catalogue) (rows : RowsByOid) (v : Value) → IsWellFormed cat → get (catalogue_named cat rows) k ≡ Some v → IsSoundAt texts (catalogue_named cat rows) k v

-- the rows of each table have a field for each of its columns
abbrev pub AreFit : Catalogue → RowsByOid → Type 0
AreFit cat rows = (c : ClassRow) → IsAmong c cat.pg_class → relation_kind c.relkind ≡ Table → list_all (is_row (columns_of cat c.oid)) (rows c.oid) ≡ true

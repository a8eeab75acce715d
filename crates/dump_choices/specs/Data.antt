-- The rows that a dump reads: for each of its entries that has rows, their table and the number of its columns.
use Rattle.std.specs.Prelude.{List, length, map}
use Rattle.std.specs.List.{filter}
use Rattle.cat_rows.specs.declared.catalogue.Catalogue.{Catalogue}
use Rattle.dump_rows.specs.Rows.{columns_of}
use Rattle.toc_entry.specs.declared.entry.Entry.{Entry}
use Rattle.dump_choices.specs.declared.data.TableData.{TableData}

-- those of an entry, which tells the oid of its table
abbrev pub data_of : Catalogue → Entry → TableData
data_of cat e = record { dump_id = e.dump_id; table = e.oid; columns = length (columns_of cat e.oid) }

-- those of all entries that have rows, in their order
unfoldable pub table_data : Catalogue → List Entry → List TableData
table_data cat entries = map (data_of cat) (filter (λ e. e.has_rows) entries)

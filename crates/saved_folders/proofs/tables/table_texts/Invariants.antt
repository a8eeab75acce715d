use Rattle.std.proofs.Common.{◌≡◌, map, take}
use Rattle.std.specs.List.{AllByRecursion}
use Rattle.folder_io.specs.Folders.{all_tables}
use Rattle.saved_folders.specs.Folders.{IsTextOf}
use Rattle.saved_folders.proofs.tables.table_texts.Given as goal

-- the texts so far are those of the first tables
abbrev pub invariant-loop-table : goal.invariant-loop-table
invariant-loop-table l = record {
  tables : map (λ text. text.table) l.texts.items ≡ take l.table-index all_tables;
  written : AllByRecursion (IsTextOf l.cat) l.texts.items;
}

-- The relation has the columns so far.
use Rattle.std.proofs.Common.{◌≡◌, true, take}
use Rattle.std.specs.List.{list_all}
use Rattle.cat_book.specs.Leads.{has_column}
use Rattle.text_tables.proofs.indexes.has_columns.Given as goal

abbrev pub invariant-loop-name : goal.invariant-loop-name
invariant-loop-name l = list_all (has_column l.book l.relation) (take l.name-index l.names) ≡ true

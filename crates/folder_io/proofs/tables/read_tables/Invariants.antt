use Rattle.std.proofs.Common.{drop, take}
use Rattle.folder_io.specs.Folders.{rows_of, catalogue_rows}
use Rattle.folder_io.proofs.Steps.{GoesOn}
use Rattle.folder_io.proofs.tables.read_tables.Given as goal

-- the first tables have the rows of their texts
abbrev pub invariant-loop-text : goal.invariant-loop-text
invariant-loop-text l = GoesOn rows_of l.texts (take l.text-index (catalogue_rows l.cat)) (drop l.text-index l.texts)

-- What an export folder holds beside its tables, said apart from reading.
use Rattle.std.specs.Prelude.{◌≡◌, None}
use Rattle.dump_ports.specs.Tree.{Tree}
use Rattle.cat_model.specs.Values.{Bytes}
use Rattle.well_formed.specs.Catalogues.{catalogue_fault}
use Rattle.table_rows.specs.Values.{values_fault}
use Rattle.folder_io.specs.Folders.{bytes_of}
use Rattle.folder_rows.specs.Holding.{HoldsRows}
use Rattle.exports.specs.Exports.{Exported}

-- The catalogue is well-formed, the folder holds its data files within the limits, and their texts hold rows.
pub record IsWhole (folder : Bytes) (tree : Tree) (export : Exported) : Type 0 where
  pub formed : catalogue_fault export.cat ≡ None
  pub texts : HoldsRows folder (bytes_of folder tree) export.cat tree export.rows
  pub rows : values_fault export.cat export.rows ≡ None

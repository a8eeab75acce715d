-- What the first fault of a catalogue is, apart from going over its tables.
use Rattle.std.specs.Prelude.{◌≡◌, List, ◌∷◌, ◌++◌, Some, None}
use Rattle.std.specs.List.{AllByRecursion}
use Rattle.cat_rows.specs.declared.catalogue.Catalogue.{Catalogue}
use Rattle.cat_rows.specs.declared.table.SysTable.{SysTable}
use Rattle.cat_names.specs.declared.fault.CatFault.{CatFault}
use Rattle.well_formed.specs.Catalogues.{table_fault}

-- no table of these has a fault
abbrev pub AreClean : Catalogue → List SysTable → Type 0
AreClean cat tables = AllByRecursion (λ table. table_fault cat table ≡ None) tables

-- the fault is the first of its table, which is one of these, and no earlier one of these has a fault
pub record IsFirstAmong (cat : Catalogue) (tables : List SysTable) (fault : CatFault) : Type 0 where
  pub before : List SysTable
  pub behind : List SysTable
  pub order : tables ≡ before ++ fault.table ∷ behind
  pub earlier : AreClean cat before
  pub first : table_fault cat fault.table ≡ Some (record { line = fault.line; kind = fault.kind })

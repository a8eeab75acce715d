-- Catalogues whose rows tables hold, and objects whose names are names.
use Rattle.std.specs.Option.{ForSome}
use Rattle.copy_text.specs.Texts.{IsName}
use Rattle.cat_rows.specs.declared.catalogue.Catalogue.{Catalogue}
use Rattle.cat_rows.specs.declared.table.SysTable.{SysTable}
use Rattle.cat_rows.specs.Catalogues.{rows_in}
use Rattle.cat_rows.specs.Writing.{AreRowsOf}
use Rattle.graph_parts.specs.declared.object.Obj.{Obj}

-- each table's rows can be written for it, as those that were read can
abbrev pub HoldsCells : Catalogue → Type 0
HoldsCells cat = (table : SysTable) → AreRowsOf table (rows_in table cat)

-- an object's name and that of its schema, where it has them
abbrev pub IsNamed : Obj → Type 0
IsNamed o = ForSome o.schema IsName × ForSome o.name IsName

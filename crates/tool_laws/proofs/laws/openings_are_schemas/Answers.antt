use Rattle.cat_rows.specs.declared.table.SysTable.TheVariants.{PgNamespace}
use Rattle.tool_laws.proofs.Opened.{opening_read}
use Rattle.tool_laws.proofs.laws.openings_are_schemas.Goals as goal

pub returns : goal.returns
returns c =
    opening_read
    (λ cat formed. ((c.well_formed_is_without_fault.ensures cat).0 formed).schemas)
    (λ text rows e. c.read_rows_can_be_written.ensures PgNamespace text rows e)

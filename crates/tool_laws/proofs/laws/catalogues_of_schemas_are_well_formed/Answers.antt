use Rattle.schema_folders.specs.Folder.{schemas_alone}
use Rattle.tool_laws.proofs.Formed.{tables_clean}
use Rattle.tool_laws.proofs.laws.catalogues_of_schemas_are_well_formed.Goals as goal

pub returns : goal.returns
returns c = λ rows are. (c.well_formed_tables_are_all.ensures (schemas_alone rows)).1 (tables_clean rows are)

use Rattle.std.proofs.Common.{◌∙◌}
use Rattle.schema_folders.specs.Folder.{folder_saved}
use Rattle.tool_laws.proofs.Again.{comes_public, opens}
use Rattle.tool_laws.proofs.Whole.{is_export}
use Rattle.tool_laws.proofs.Written.{comes_schemas, comes_read, plan_read}
use Rattle.tool_laws.proofs.laws.psql_leaves_an_export.Goals as goal

-- the catalogue that is left has no fault
pub returns-clause-formed : goal.returns-clause-formed
returns-clause-formed c = λ folder script stop tree input plan run applied e.
    c.catalogues_of_schemas_are_well_formed.ensures applied.comes.rows
    (comes_schemas plan applied.text applied.comes (plan_read c.openings_are_schemas.ensures folder script stop tree input plan e).schemas)

-- by names it is what the statements make
pub returns-clause-named : goal.returns-clause-named
returns-clause-named c = λ plan run applied. c.folders_of_schemas_have_one_meaning.ensures applied.comes.rows ∙ applied.comes.same

-- the folder is an export of it
pub returns-clause-read : goal.returns-clause-read
returns-clause-read c = λ folder script stop tree input plan run applied after e within.
    is_export c.exports_are_whole.ensures plan.folder applied.text applied.comes.rows after (comes_read plan applied.text applied.comes) within
    (c.catalogues_of_schemas_are_well_formed.ensures applied.comes.rows
    (comes_schemas plan applied.text applied.comes (plan_read c.openings_are_schemas.ensures folder script stop tree input plan e).schemas))

-- and its opening is these schemas
pub returns-clause-opened : goal.returns-clause-opened
returns-clause-opened c = λ folder script stop tree input plan run applied after e within.
    let read = plan_read c.openings_are_schemas.ensures folder script stop tree input plan e in
    let are = comes_schemas plan applied.text applied.comes read.schemas in
    opens plan.folder (folder_saved plan.folder applied.text after) applied.comes.rows
    (is_export c.exports_are_whole.ensures plan.folder applied.text applied.comes.rows after (comes_read plan applied.text applied.comes) within (c.catalogues_of_schemas_are_well_formed.ensures applied.comes.rows are))
    are (comes_public plan applied.text applied.comes read.public)

use Rattle.std.specs.FinMap.{empty}
use Rattle.cat_naming.specs.Texts.{rows_by_oid}
use Rattle.openings.specs.Openings.{export_named}
use Rattle.tool_laws.proofs.Unified.{same_names}
use Rattle.tool_laws.proofs.laws.folders_of_schemas_have_one_meaning.Goals as goal

pub returns : goal.returns
unfolding export_named
returns c = λ rows. same_names rows (rows_by_oid empty)

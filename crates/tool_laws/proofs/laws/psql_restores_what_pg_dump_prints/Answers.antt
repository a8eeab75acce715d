use Rattle.tool_laws.proofs.ToolTrips.{DumpLaws, makes_same, stands_for}
use Rattle.tool_laws.proofs.laws.psql_restores_what_pg_dump_prints.Goals as goal

pub returns : goal.returns
returns c =
    let laws : DumpLaws = record { script = c.the_dumped_script_makes_the_schemas.ensures; plain = c.a_plain_dump_is_a_script.ensures; rowless = c.dumps_of_schemas_have_no_rows.ensures } in
    record {
      due = makes_same laws c.openings_are_schemas.ensures;
      done = stands_for laws c.openings_are_schemas.ensures c.an_applied_script_leaves_its_folder.ensures;
    }

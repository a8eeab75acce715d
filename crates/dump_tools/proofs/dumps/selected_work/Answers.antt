use Rattle.dump_plans.specs.Plans.{dumping}
use Rattle.dump_tools.proofs.dumps.selected_work.Goals as goal

-- the data files are there, and none is one that is written
pub returns-clause-ready : goal.returns-clause-ready
returns-clause-ready g c = λ tree known. (
  c.in_ok-plan.ensures.ready tree known,
  c.what_is_outside_is_no_data_file.ensures c.args.folder.now c.args.form c.args.select.now c.args.cat.now tree (dumping c.in_ok-plan.plan) c.requires (c.in_ok-plan.ensures.due tree known),
)

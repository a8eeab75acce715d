use Rattle.restore_folders.specs.Seen.{work_seen}
use Rattle.restore_folders.specs.Works.{ending_of}
use Rattle.restore_folders.specs.declared.refusal.OnRefusal.TheVariants.{GoOn}
use Rattle.clone_restores.proofs.Ends.{some_texts, stand_of}
use Rattle.clone_restores.proofs.archives.run_archive.Goals as goal

-- a run that goes on has texts
pub restored_of-requires : goal.restored_of-requires
restored_of-requires c = some_texts c.args.work.opening.cat (ending_of GoOn c.args.teller.now (work_seen c.args.work)).left c.in_ok-run.run'.texts c.in_ok-run.ensures.leaves

pub returns-clause-stand : goal.returns-clause-stand
returns-clause-stand c =
    stand_of c.args.work.opening.cat (ending_of GoOn c.args.teller.now (work_seen c.args.work)).left c.in_ok-run.run'.texts c.restored_of.result.texts c.in_ok-run.ensures.leaves c.restored_of.ensures.texts

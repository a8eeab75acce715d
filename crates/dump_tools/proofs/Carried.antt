-- A plan that was due was carried out: its run has ended.
use Rattle.std.proofs.Common.{[], Option, Result, Ok, refl, sym, subst, inl}
use Rattle.dump_ports.specs.Tree.{Tree}
use Rattle.cat_model.specs.Values.{Bytes}
use Rattle.schema_folders.specs.Folder.{files_written}
use Rattle.restore_tools.specs.Written.{files_written as files_restored}
use Rattle.restore_tools.specs.Due.{answer_due, report_of as report_of_restore}
use Rattle.saved_folders.specs.Folders.{files_of}
use Rattle.tool_words.specs.declared.outcome.Outcome.{Outcome}
use Rattle.tool_words.specs.declared.outcome.Outcome.TheVariants.{Done}
use Rattle.tool_words.specs.declared.words.Teller.{Teller}
use Rattle.dump_tools.specs.Due.{Plan, Applies, Runs, report_of_run, answer_of, answer_of_run, Puts, Restores, Compares, IsCarriedOut, WasDue, report_of}
use Rattle.dump_tools.specs.Outputs.{world}
use Rattle.dump_tools.specs.Runs.{run_of}
use Rattle.dump_tools.proofs.Pieces.{put_came}
use Rattle.dump_tools.proofs.Putting.{same_world, came_stored, may_run, may_restore}
use Rattle.dump_tools.proofs.Taking.{Came}

-- a plan that was due was carried out
pub ended : (teller : Teller) (due : Result Plan Outcome) (answer : Outcome) (before after : Option Tree) (left out_before out_after told_before told_after : Option Bytes) → WasDue due answer before after out_before out_after told_before told_after → Came teller due answer (world before left out_before told_before) (world after left out_after told_after)
ended teller due answer before after left out_before out_after told_before told_after w =
    subst (λ d. Came teller d answer (world before left out_before told_before) (world after left out_after told_after)) (sym w.is_due)
    (subst (λ a. Came teller (Ok w.plan) a (world before left out_before told_before) (world after left out_after told_after)) (sym w.answers) (of w.plan w.carried))
  where
    of : (plan : Plan) → IsCarriedOut plan before after out_before out_after told_before told_after → Came teller (Ok plan) (answer_of plan) (world before left out_before told_before) (world after left out_after told_after)
    of (Applies plan) carried = came_stored teller (Ok (Applies plan)) (files_written plan.folder carried.0.text) (report_of plan) Done (record { text = carried.0.text; comes = carried.0.result; holds = carried.0.holds; is = refl })
        before after left out_before out_after told_before told_after carried.0.saved carried.1 carried.2
    of (Runs plan) carried = came_stored teller (Ok (Runs plan)) (files_of plan.folder carried.0.texts) (report_of_run plan) (answer_of_run plan) (may_run teller plan carried.0.texts carried.0.leaves)
        before after left out_before out_after told_before told_after carried.0.saved carried.1 carried.2
    of (Puts plan) carried = put_came teller plan.pieces plan.bad before after left out_before out_after told_before told_after carried
    of (Restores plan) carried =
        let restored = carried.0.restored in
        came_stored teller (Ok (Restores plan)) (files_restored plan.folder restored.texts) (report_of_restore plan) (answer_due plan) (may_restore teller plan restored.texts restored.leaves)
        before after left out_before out_after told_before told_after restored.saved carried.1 carried.0.told
    of (Compares a b) carried = record {
      run = run_of [] Done;
      may = inl (carried.0, refl);
      answers = refl;
      put = same_world after before left out_after out_before told_after told_before carried.1 carried.2 carried.3;
    }

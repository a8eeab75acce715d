use Rattle.std.proofs.lemmas.Result.{IfOk-weaker, IfErr-weaker, on_err_weaker}
use Rattle.dump_tools.proofs.Restored.{final_answer, piped_done, piped_answered, piped_cut, step_restore}
use Rattle.dump_tools.proofs.restoring.restore_piped.Goals as goal

pub returns-clause-ends : goal.returns-clause-ends
returns-clause-ends g c = IfOk-weaker c.restore_folder.result _ _ final_answer c.restore_folder.ensures.ends

pub returns-clause-done : goal.returns-clause-done
returns-clause-done g c =
    IfOk-weaker c.restore_folder.result _ _ (λ answer done tree printed known. piped_done c.args.asked.now c.args.piped.now tree answer _ _ printed _ _ (done tree known))
    c.restore_folder.ensures.done

pub returns-clause-refused : goal.returns-clause-refused
returns-clause-refused g c =
    IfErr-weaker c.restore_folder.result _ _ (λ outcome due tree known. piped_answered c.args.asked.now c.args.piped.now tree outcome (due tree known))
    c.restore_folder.ensures.refused

pub returns-clause-cut : goal.returns-clause-cut
returns-clause-cut g c =
    on_err_weaker c.restore_folder.result (λ cut teller tree left printed known. piped_cut c.args.asked.now c.args.piped.now tree teller _ _ left printed _ _ (cut tree known))
    c.restore_folder.ensures.cut

pub returns-clause-counted : goal.returns-clause-counted
returns-clause-counted g c = λ inputs prints. step_restore c.restore_folder.result _ _ inputs _ _ prints _ _ c.restore_folder.ensures.read_count c.restore_folder.ensures.write_count

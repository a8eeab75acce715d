use Rattle.std.proofs.Common.{◌++◌, [], ◌∷◌, codes}
use Rattle.std.proofs.lemmas.Result.{on_err_weaker}
use Rattle.tool_words.specs.Messages.{teller_name, outcome_text}
use Rattle.tool_words.proofs.Lining.{always_err, takes_both, part_of_first, part_of_second}
use Rattle.tool_words.proofs.telling.tell.Goals as goal

pub returns-in_err-write_two-clause-err : goal.returns-in_err-write_two-clause-err
returns-in_err-write_two-clause-err g c =
    let head = teller_name c.args.teller ++ codes ": error: " in
    always_err c.from_residual.result
    (part_of_first (head ++ outcome_text c.args.outcome.now) (10 ∷ []) _ _ (part_of_first head (outcome_text c.args.outcome.now) _ _ (rw c.name.ensures at (rw c.as_bytes.ensures.value at c.in_err-write_two.ensures.err))))

pub returns-in_err-write_outcome-clause-err : goal.returns-in_err-write_outcome-clause-err
returns-in_err-write_outcome-clause-err g c =
    let head = teller_name c.args.teller ++ codes ": error: " in
    always_err c.from_residual-in_err-write_outcome.result
    (part_of_first (head ++ outcome_text c.args.outcome.now) (10 ∷ []) _ _ (part_of_second head (outcome_text c.args.outcome.now) _ _ _ (rw c.name.ensures at (rw c.as_bytes.ensures.value at c.in_ok-write_two.ensures.ok)) c.in_err-write_outcome.ensures.err))

pub returns-clause-err : goal.returns-clause-err
returns-clause-err g c =
    let head = teller_name c.args.teller ++ codes ": error: " in
    on_err_weaker c.write_bytes.result
    (part_of_second (head ++ outcome_text c.args.outcome.now) (10 ∷ []) _ _ _ (takes_both _ _ _ head (outcome_text c.args.outcome.now) (rw c.name.ensures at (rw c.as_bytes.ensures.value at c.in_ok-write_two.ensures.ok)) c.in_ok-write_outcome.ensures.ok))
    c.write_bytes.ensures.err

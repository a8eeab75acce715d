use Rattle.same_folders.proofs.FileParts.{both_ok}
use Rattle.same_folders.proofs.as_one.lines_meet.Goals as goal

pub returns-in-Ok-Some-clause-meet : goal.returns-in-Ok-Some-clause-meet
returns-in-Ok-Some-clause-meet g c =
    let hold = rw c.in-Ok-Some.field-0-is at c.in-Ok-Some.ensures.hold in
    let meet = rw c.in-Ok-Some.field-0-is at c.in-Ok-Some.ensures.meet in
    both_ok c.rows_meet.result _ _ _ (λ b same takes yes tree known. record {
      lines = same yes tree known;
      hold = λ texts stand. hold texts (takes yes tree known texts stand);
      meet = λ texts stand. meet texts (takes yes tree known texts stand);
    }) c.rows_meet.ensures.same c.rows_meet.ensures.takes

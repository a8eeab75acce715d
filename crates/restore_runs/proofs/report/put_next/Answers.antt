use Rattle.std.proofs.Common.{ℕ, List, ◌++◌, ap}
use Rattle.restore_runs.proofs.EntryLines.{none_told, status_told}
use Rattle.restore_runs.proofs.report.put_next.Goals as goal

pub returns-in-None : goal.returns-in-None
returns-in-None c = λ es later. rw c.in-None.is (ap (λ (t : List ℕ). c.args.out.now.items ++ t) (none_told c.args.teller.now es c.args.notes.now))

pub returns-in-Some : goal.returns-in-Some
returns-in-Some c =
    rw c.in-Some.is (status_told c.args.teller.now c.args.entry.now c.in-Some.status.now c.args.notes.now c.args.out.now.items c.put_entry.new.out.items (λ rest. rest.now) c.put_entry.result c.put_entry.ensures.told c.put_entry.ensures.rest)

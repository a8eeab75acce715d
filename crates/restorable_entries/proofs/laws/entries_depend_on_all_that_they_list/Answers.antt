use Rattle.restorable_entries.proofs.Depending.{depend_on_all}
use Rattle.restorable_entries.proofs.laws.entries_depend_on_all_that_they_list.Goals as goal

pub returns : goal.returns
returns c = depend_on_all c.entries_stand_behind_what_they_need.ensures c.dumps_have_such_entries.ensures

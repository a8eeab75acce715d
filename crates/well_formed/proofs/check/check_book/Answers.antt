use Rattle.std.proofs.Common.{sym, subst}
use Rattle.cat_names.specs.Gives.{GivesTable}
use Rattle.well_formed.proofs.Groups.{grouped}
use Rattle.well_formed.proofs.check.check_book.Goals as goal

pub returns : goal.returns
returns c = subst (GivesTable c.check_groups.result) (sym (grouped c.args.book.now)) c.check_groups.ensures

use Rattle.std.proofs.Common.{sym}
use Rattle.entry_ids.specs.Ids.{of_keys}
use Rattle.cluster_loops.proofs.members.row_of.Goals as goal

pub returns : goal.returns
returns c = c.member_row.ensures (of_keys c.args.ids.now) c.args.role.now c.args.member.now c.args.grantor.now (sym c.in_ok-own.ensures) (sym c.in_ok-of.ensures) (sym c.in_ok-who.ensures) (sym c.in_ok-by.ensures)

use Rattle.std.proofs.Common.{sym, ◌∙◌}
use Rattle.plain_rows.proofs.PartLines.{added_number, one_apart}
use Rattle.plain_rows.proofs.parts.add_number.Goals as goal

pub returns : goal.returns
returns c = λ yes before are. one_apart before c.args.key.now c.args.keys.now c.insert_number.new.self (added_number _ _ (sym yes ∙ c.insert_number.ensures.new)) (c.insert_number.ensures.added yes) are

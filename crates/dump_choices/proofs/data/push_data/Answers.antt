use Rattle.std.proofs.Common.{rules, ◌≡◌, [], ◌∷◌, ◌++◌}
use Rattle.dump_choices.proofs.Taken.{with_rows, without_rows}
use Rattle.dump_choices.proofs.data.push_data.Goals as goal

pub returns-in_ok-push : goal.returns-in_ok-push
returns-in_ok-push c =
    let added : c.push.new.self.items ≡ c.args.found.now.items ++ c.in_ok-data_of.field-0 ∷ [] = search rules in
    with_rows c.args.rows.now c.args.entry.now c.args.found.now.items c.push.new.self.items c.in_ok-data_of.field-0 c.if-entry.true added c.in_ok-data_of.ensures

pub returns-else-entry : goal.returns-else-entry
returns-else-entry c = without_rows c.args.rows.now c.args.entry.now c.args.found.now.items c.if-entry.false

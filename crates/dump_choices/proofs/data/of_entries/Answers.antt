use Rattle.std.proofs.Common.{rules, arith, ◌≡◌, []}
use Rattle.dump_choices.proofs.Taken.{data_none, data_more, data_all}
use Rattle.dump_choices.proofs.data.of_entries.Goals as goal

pub loop-entry-init : goal.loop-entry-init
loop-entry-init c = let none : c.new-found.result.items ≡ [] = search rules in data_none c.args.rows.now c.new-found.result.items none

pub loop-entry-preserved : goal.loop-entry-preserved
loop-entry-preserved c = data_more c.args.rows.now _ _ c.args.entries.now c.loop-entry.entry-index c.entry-item.result c.loop-entry.invariant c.in_ok-push_data.ensures c.loop-entry-test.true c.entry-item.is

pub returns : goal.returns
returns c = data_all c.args.rows.now _ c.args.entries.now c.loop-entry.entry-index c.loop-entry.invariant (omega (arith, c.loop-entry-test.false))

use Rattle.plan_entries.proofs.Growing.{one_more}
use Rattle.plan_entries.proofs.earlier.Earlier.add.Goals as goal

pub returns : goal.returns
returns c = λ earlier k.
    let s = c.args.self.now in
    one_more s.ids c.add_if.new.set s.lockable c.add_if-2.new.set s.rows c.add_rows.new.rows earlier c.args.entry.now c.is_locked.result k c.is_locked.ensures c.in_ok-add_if.ensures c.in_ok-add_if-2.ensures c.in_ok-add_rows.ensures

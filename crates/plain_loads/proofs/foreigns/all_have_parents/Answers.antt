use Rattle.std.proofs.Common.{◌<◌, length, ap, ◌∙◌, arith}
use Rattle.cat_model.specs.CopyEffect.{foreign_in}
use Rattle.plain_loads.specs.Meeting.{HasParents}
use Rattle.plain_loads.proofs.Steps.{next_entry, read_twice}
use Rattle.plain_loads.proofs.foreigns.all_have_parents.Goals as goal

pub loop-i-preserved : goal.loop-i-preserved
loop-i-preserved c = λ rest.
    let tables = c.args.tables.now in
    let entries = c.args.entries.now in
    let i = c.loop-i.i in
    let one = c.index-entries-i.result in
    let below : i < length entries = omega arith in
    let same = read_twice entries i one c.index-entries-i-in-loop-i.result below c.index-entries-i.is in
    c.loop-i.invariant (next_entry foreign_in (HasParents tables.named.now tables.book.now tables.rows.now c.args.q.now c.args.columns.now c.args.text.now) entries i one below c.index-entries-i.is (λ f picked. c.in_ok-entry_has_parents.ensures c.if-not-branch.false f (ap foreign_in same ∙ picked)) rest)

use Rattle.std.proofs.Common.{◌<◌, length, ap, ◌∙◌, arith}
use Rattle.cat_model.specs.CopyEffect.{unique_in}
use Rattle.plain_loads.specs.Meeting.{Differ}
use Rattle.plain_loads.proofs.Steps.{next_entry, read_twice}
use Rattle.plain_loads.proofs.uniques.all_differ.Goals as goal

pub loop-i-preserved : goal.loop-i-preserved
loop-i-preserved c = λ rest.
    let entries = c.args.entries.now in
    let i = c.loop-i.i in
    let one = c.index-entries-i.result in
    let below : i < length entries = omega arith in
    let same = read_twice entries i one c.index-entries-i-in-loop-i.result below c.index-entries-i.is in
    c.loop-i.invariant (next_entry unique_in (Differ c.args.columns.now c.args.text.now) entries i one below c.index-entries-i.is (λ u picked. c.in_ok-entry_differs.ensures c.if-not-branch.false u (ap unique_in same ∙ picked)) rest)

use Rattle.std.proofs.Common.{ℕ, ◌+◌, ◌++◌, drop, ap}
use Rattle.std.specs.Option.{option_copied}
use Rattle.restore_runs.specs.Reports.{entry_lines}
use Rattle.restore_runs.proofs.EntryLines.{entry_next}
use Rattle.restore_runs.proofs.report.put_entries.Goals as goal

pub loop-entry-preserved : goal.loop-entry-preserved
loop-entry-preserved c =
    let a = c.args in
    let l = c.loop-entry in
    record {
      at = ap (λ (n : ℕ). n + 1) l.invariant.at;
      so_far =
          entry_next a.teller.now a.entries.now l.entry-index c.entry-item.result a.statuses.now l.place (option_copied c.status_at-status.result) l.left.now c.in_ok-left.left.now l.out.items c.put_next.new.out.items
          (a.out.now.items ++ entry_lines a.teller.now a.entries.now a.statuses.now a.notes.now)
          c.loop-entry-test.true c.entry-item.is c.status_at-status.ensures
          (c.in_ok-left.ensures (drop (l.entry-index + 1) a.entries.now) (drop (l.place + 1) a.statuses.now)) l.invariant.so_far;
    }

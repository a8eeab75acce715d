-- The count so far is that of the statuses so far.
use Rattle.std.proofs.Common.{◌≡◌, ◌≤◌, take, count_by}
use Rattle.restore_runs.specs.Reports.{is_refused}
use Rattle.restore_runs.proofs.report.refused.Given as goal

abbrev pub invariant-loop-status : goal.invariant-loop-status
invariant-loop-status l = record {
  so_far : l.count ≡ count_by is_refused (take l.status-index l.statuses);
  within : l.count ≤ l.status-index;
}

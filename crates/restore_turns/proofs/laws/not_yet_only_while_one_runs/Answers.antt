use Rattle.std.proofs.lemmas.Bool.{lt-ltb}
use Rattle.restore_turns.proofs.Taking.{one-runs, no-start, no-skip}
use Rattle.restore_turns.proofs.laws.not_yet_only_while_one_runs.Goals as goal

pub returns : goal.returns
returns c = record {
  runs = λ worker s small is. one-runs worker s (lt-ltb worker 64 small) is;
  no_start = no-start;
  no_skip = no-skip;
}

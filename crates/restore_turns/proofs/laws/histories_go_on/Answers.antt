use Rattle.restore_turns.proofs.Histories.{one-more, leads-on}
use Rattle.restore_turns.proofs.laws.histories_go_on.Goals as goal

pub returns : goal.returns
returns c = record { legal = one-more; leads = leads-on }

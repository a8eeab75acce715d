use Rattle.graph_walks.proofs.Reached.{reaches_leads, leads_reaches}
use Rattle.graph_walks.proofs.laws.reached_is_led_to.Goals as goal

pub returns : goal.returns
returns c = record { found = reaches_leads; all = leads_reaches }

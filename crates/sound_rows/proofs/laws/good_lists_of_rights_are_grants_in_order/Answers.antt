use Rattle.sound_rows.proofs.Grants.{granted}
use Rattle.sound_rows.proofs.laws.good_lists_of_rights_are_grants_in_order.Goals as goal

pub returns : goal.returns
returns c = granted

use Rattle.std.proofs.Common.{◌∙◌}
use Rattle.eng_map.proofs.Listing.{or_stays}
use Rattle.eng_map.proofs.groups.add_to.Goals as goal

pub returns-clause-kept : goal.returns-clause-kept
returns-clause-kept c = λ k h. c.in_ok-insert.ensures.updates.0 k ∙ or_stays _ _ h

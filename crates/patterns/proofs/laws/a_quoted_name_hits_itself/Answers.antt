use Rattle.patterns.proofs.QuotedLaws.{name_hits_itself}
use Rattle.patterns.proofs.laws.a_quoted_name_hits_itself.Goals as goal

pub returns : goal.returns
returns c = name_hits_itself

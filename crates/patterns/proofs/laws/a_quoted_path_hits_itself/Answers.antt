use Rattle.patterns.proofs.QuotedLaws.{path_hits_itself}
use Rattle.patterns.proofs.laws.a_quoted_path_hits_itself.Goals as goal

pub returns : goal.returns
returns c = path_hits_itself

use Rattle.patterns.proofs.QuotedLaws.{star_hits_public, stars_hit_all}
use Rattle.patterns.proofs.laws.a_star_hits_everything.Goals as goal

pub returns-clause-public : goal.returns-clause-public
returns-clause-public c = star_hits_public

pub returns-clause-all : goal.returns-clause-all
returns-clause-all c = stars_hit_all

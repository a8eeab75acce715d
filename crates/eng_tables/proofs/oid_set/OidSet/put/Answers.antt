use Rattle.std.proofs.Common.{ap, ◌∙◌}
use Rattle.std.specs.FinSet.{insert}
use Rattle.eng_tables.specs.Oids.{Oids}
use Rattle.eng_tables.proofs.Using.{put_seen}
use Rattle.eng_tables.proofs.oid_set.OidSet.put.Goals as goal

pub returns-clause-ok : goal.returns-clause-ok
returns-clause-ok c =
    put_seen c.self.inside.used.keys c.insert.new.self.keys c.args.oid c.in_ok-insert.ensures.updates.0
    ∙ ap (λ (s : Oids). insert s c.args.oid) c.self.view_is

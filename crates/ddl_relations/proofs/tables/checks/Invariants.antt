use Rattle.ddl_relations.proofs.Common.{◌-◌, drop, length, AreLeft, items_from, checking}
use Rattle.ddl_relations.proofs.tables.checks.Given as goal

-- the checks so far and those behind the place are the list
abbrev pub invariant-checks : goal.invariant-checks
invariant-checks l = AreLeft checking (items_from checking tt (drop l.from l.pieces)) l.pieces l.checks.items tt l.at

abbrev pub decreases-checks : goal.decreases-checks
decreases-checks l = length l.pieces - l.at

use Rattle.ddl_relations.proofs.Common.{◌-◌, drop, length, AreLeft, items_from, more_names}
use Rattle.ddl_relations.proofs.columns.further.Given as goal

-- the names so far and those behind the place are the list
abbrev pub invariant-names : goal.invariant-names
invariant-names l = AreLeft more_names (items_from more_names tt (drop l.from l.pieces)) l.pieces l.names.items tt l.at

abbrev pub decreases-names : goal.decreases-names
decreases-names l = length l.pieces - l.at

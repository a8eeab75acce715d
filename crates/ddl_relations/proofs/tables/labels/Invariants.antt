use Rattle.ddl_relations.proofs.Common.{◌-◌, drop, length, false, listing, literal, is_literal, AreLeft, items_from}
use Rattle.ddl_relations.proofs.tables.labels.Given as goal

-- the labels so far and those behind the place are the list
abbrev pub invariant-labels : goal.invariant-labels
invariant-labels l =
    AreLeft (listing is_literal literal) (items_from (listing is_literal literal) false (drop l.from l.pieces)) l.pieces l.labels.items l.behind l.at

abbrev pub decreases-labels : goal.decreases-labels
decreases-labels l = length l.pieces - l.at

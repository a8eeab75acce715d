use Rattle.ddl_relations.proofs.Common.{◌≡◌, ◌-◌, List, drop, length, AreLeft, items_from, Opening, TableElement, elements, columns_of, checks_of}
use Rattle.ddl_relations.proofs.tables.table_elements.Given as goal

-- the columns and checks so far and those behind the place are the list
abbrev pub invariant-elements : goal.invariant-elements
invariant-elements l =
    (so_far : List TableElement) × AreLeft elements (items_from elements Opening (drop l.from l.pieces)) l.pieces so_far l.spot l.at × (l.columns.items ≡ columns_of so_far) × (l.checks.items ≡ checks_of so_far)

abbrev pub decreases-elements : goal.decreases-elements
decreases-elements l = length l.pieces - l.at

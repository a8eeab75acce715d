-- Oids of objects with the numbers of columns.
use Rattle.object_export.specs.Oids.{ObjectOids}
use Rattle.object_ids.specs.Ids.{IdsOf}
use Rattle.cluster_loops.specs.Ids.{oids_of}
use Rattle.column_numbers.specs.Numbers.{NumbersOf, number_of}

abbrev pub with_numbers : IdsOf → NumbersOf → ObjectOids
with_numbers ids numbers = oids_of ids (number_of numbers)

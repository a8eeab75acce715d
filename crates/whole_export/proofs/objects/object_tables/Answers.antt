use Rattle.column_numbers.specs.Numbers.{number_of}
use Rattle.whole_export.proofs.objects.object_tables.Goals as goal

pub returns : goal.returns
returns c = λ all. record { types = c.in_ok-types.ensures all; labels = c.in_ok-labels.ensures (number_of c.args.numbers.now); relations = c.in_ok-relations.ensures; columns = c.in_ok-columns.ensures all }

use Rattle.std.specs.List.{flat_map}
use Rattle.cat_naming.specs.Relations.{sequence_entries}
use Rattle.named_objects.specs.Kinds.{of_sequences}
use Rattle.named_objects.proofs.Held.{entries_stand_at}
use Rattle.named_objects.proofs.Led.{led_to}
use Rattle.named_objects.proofs.Sequences.{sequences_stand}
use Rattle.named_objects.proofs.laws.sequences_are_named.Goals as goal

pub returns : goal.returns
returns c = λ texts named oids current depends cat rows sound own numbers are. entries_stand_at named of_sequences (flat_map (sequence_entries cat) cat.pg_sequence) (sequences_stand texts named sound oids own numbers cat (led_to named oids current depends cat rows are) are.columns are.sequences)

use Rattle.std.specs.List.{flat_map}
use Rattle.cat_naming.specs.Comments.{comment_entries}
use Rattle.named_tables.proofs.Entries.{entries_stand}
use Rattle.named_objects.specs.Kinds.{of_comments}
use Rattle.named_objects.proofs.Comments.{comments_stand}
use Rattle.named_objects.proofs.Led.{led_to}
use Rattle.named_objects.proofs.laws.comments_are_named.Goals as goal

pub returns : goal.returns
returns c = λ texts named oids current depends cat rows sound own numbers checks are. entries_stand named of_comments (flat_map (comment_entries cat) cat.pg_description) (comments_stand texts named sound oids own numbers checks cat (led_to named oids current depends cat rows are) are.columns are.constraints are.comments)

use Rattle.std.proofs.lemmas.Bool.{false≢true}
use Rattle.std.proofs.lemmas.Str.{IsUtf8-had}
use Rattle.cluster_loops.proofs.databases.text_of.Goals as goal

pub unreachable-requires : goal.unreachable-requires
unreachable-requires c = false≢true (c.in-None.ensures.valid.1 (rw c.into_bytes.ensures.value (IsUtf8-had _ c.args.string.ok)))

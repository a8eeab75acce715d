use Rattle.fmt_custom.proofs.Growing.{begins, grows, ends}
use Rattle.fmt_custom.proofs.laws.blocks_grow_by_pieces.Goals as goal

pub returns : goal.returns
returns c = record { begins = begins; grows = grows; ends = ends }

use Rattle.std.proofs.Common.{length}
use Rattle.command_line.specs.Usage.{said_by}
use Rattle.command_line.proofs.Completing.{needed_where_none}
use Rattle.command_line.proofs.laws.what_is_needed_is_there.Goals as goal

pub returns : goal.returns
returns c = λ tool words e. needed_where_none tool (length words) (said_by tool words) e

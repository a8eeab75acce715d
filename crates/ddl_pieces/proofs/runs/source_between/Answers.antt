use Rattle.ddl_pieces.proofs.Common.{arith}
use Rattle.ddl_pieces.proofs.RunSlices.{run_is}
use Rattle.ddl_pieces.proofs.runs.source_between.Goals as goal

pub between-requires : goal.between-requires
between-requires c =
    let r = run_is c.args.text.now c.args.pieces.now c.args.from c.args.end _ c.requires.joined (omega arith) c.requires.high in
    record { low = r.low; high = r.high }

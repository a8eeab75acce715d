use Rattle.std.proofs.Common.{rules}
use Rattle.dump_archives.proofs.PieceLemmas.{pack_step}
use Rattle.dump_archives.proofs.pack.pack_pieces.Goals as goal

pub loop-rest-preserved : goal.loop-rest-preserved
loop-rest-preserved c =
    pack_step c.args.run.now c.args.waiting.now.items c.loop-rest.waiting.items c.write_piece.new.out.items c.loop-rest.rest.now c.split_at.result.0.now c.split_at.result.1.now c.loop-rest.invariant.0
    c.split_at.ensures.front c.split_at.ensures.back (search rules) c.loop-rest.invariant.1 c.in_ok-write_piece.ensures.ok c.loop-rest.invariant.2
